-- A group of machines of one kind: what holds of it, and its sums, where each machine has a power or a price by its row.
use Rattle.std.specs.Prelude.{◌≡◌, ℕ, ◌<◌, List, length, ℤ}
use Rattle.measure.specs.Range.{Within}
use Rattle.measure.specs.Fraction.{Fraction, whole, ◌≤ᶠ◌}
use Rattle.measure.specs.Rows.{Row, rows, total, totalᶠ, All, HoldsAt}
use Rattle.machine.specs.Meaning.{Meaning}

-- each machine's number is a price
abbrev pub Priced : {M : Type 0} → List M → (ℕ → ℤ) → Type 0
Priced ms q = (i : ℕ) → i < length ms → Within 1000000 (q i)

module _ {M : Type 0} (𝓜 : Meaning M) (ms : List M) where
  -- each machine may run at its power
  abbrev pub AllowedAll : (ℕ → ℤ) → Type 0
  AllowedAll p = All (λ (r : Row M). 𝓜.Allowed r.item (whole (p r.row))) (rows ms)

  -- the machine in that row may not run at its power
  abbrev pub NotAllowedAt : (ℕ → ℤ) → ℕ → Type 0
  NotAllowedAt p = HoldsAt (λ (r : Row M). 𝓜.Allowed r.item (whole (p r.row)) → ⊥) ms

  -- the sum of the machines' cost answers
  abbrev pub counted_cost : (ℕ → ℤ) → ℤ
  counted_cost p = total (λ (r : Row M). 𝓜.cost_answer r.item (p r.row)) (rows ms)

  -- the sum of their true costs
  abbrev pub true_cost_of : (ℕ → Fraction) → Fraction
  true_cost_of p = totalᶠ (λ (r : Row M). 𝓜.true_cost r.item (p r.row)) (rows ms)

  -- the sum of their margins
  abbrev pub total_margins : (ℕ → ℤ) → ℤ
  total_margins q = total (λ (r : Row M). 𝓜.margin r.item (q r.row)) (rows ms)

  -- t is the group's counted cost, and its true cost is at most t
  pub record Counted (p : ℕ → ℤ) (t : ℤ) : Type 0 where
    pub allowed : AllowedAll p
    pub counted : t ≡ counted_cost p
    pub true_cost : true_cost_of (λ i. whole (p i)) ≤ᶠ whole t
