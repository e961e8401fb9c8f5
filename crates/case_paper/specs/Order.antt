-- The orders inside a record.
use Rattle.std.specs.Prelude.{ℕ, ◌+◌, ◌-◌, ◌<◌, List, ℤ, ◌≤ℤ◌, ◌<ℤ◌, slice_index}
use Rattle.word.specs.Word.{amount_of}
use Rattle.case_paper.specs.declared.sort.Sort.{Sort}
use Rattle.case_paper.specs.declared.sort.Sort.TheVariants.{Bus, Stepped, Curved, Branch}

abbrev pub amount_at : List ℕ → ℕ → ℤ
amount_at xs i = amount_of (slice_index xs i)

-- the n amounts from place i on rise
abbrev pub Rises : List ℕ → ℕ → ℕ → Type 0
Rises xs i n = (k : ℕ) → k + 1 < n → amount_at xs (i + k) <ℤ amount_at xs (i + (k + 1))

-- they never fall
abbrev pub Keeps : List ℕ → ℕ → ℕ → Type 0
Keeps xs i n = (k : ℕ) → k + 1 < n → amount_at xs (i + k) ≤ℤ amount_at xs (i + (k + 1))

-- the limits do not cross, the points rise, the slopes never fall, by the amounts of a record of this sort
abbrev pub InOrder : Sort → List ℕ → Type 0
InOrder Bus xs = Unit {0}
InOrder (Stepped n) xs = (amount_at xs 0 ≤ℤ amount_at xs 1) × Rises xs 3 n × Keeps xs (3 + n) (n - 1)
InOrder Curved xs = amount_at xs 0 ≤ℤ amount_at xs 1
InOrder Branch xs = amount_at xs 3 ≤ℤ amount_at xs 4
