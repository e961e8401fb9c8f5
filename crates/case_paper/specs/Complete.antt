-- What is found of a record as its last amount is read.
use Rattle.std.specs.Prelude.{◌≡◌, ℕ, ◌+◌, ◌-◌, ◌<◌, List, take, drop, slice_index}
use Rattle.word.specs.Word.{kind_of}
use Rattle.word.specs.declared.kind.Kind.TheVariants as kind
use Rattle.word.specs.declared.place.Place.{Place}
use Rattle.case_paper.specs.Case.{rank}
use Rattle.case_paper.specs.Order.{InOrder}
use Rattle.case_paper.specs.CaseFault.{head_count}
use Rattle.case_paper.specs.declared.sort.Sort.{Sort}
use Rattle.case_paper.specs.declared.state.State.{State}
use Rattle.case_paper.specs.declared.state.State.TheVariants.{Next}
use Rattle.case_paper.specs.declared.fault.RecordFault.{RecordFault}
use Rattle.case_paper.specs.declared.fault.RecordFault.TheVariants.{Word, Order, Count}

-- the amounts of a record whose last one stands at this place, after `read` others
abbrev pub amounts_read : List ℕ → ℕ → ℕ → List ℕ
amounts_read w place read = take ((place + 1) - (place - read)) (drop (place - read) w)

-- with so many records counted of each sort, the words say that one more has a row
abbrev pub Rowed : List ℕ → List ℕ → List ℕ → Sort → Type 0
Rowed rows counts w q = (slice_index counts (rank q) < head_count w (rank q)) × (slice_index counts (rank q) < slice_index rows (rank q))

-- the counts are those that the words say
abbrev pub Counted : List ℕ → List ℕ → Type 0
Counted counts w = (k : ℕ) → k < 4 → slice_index counts k ≡ head_count w k

-- an end word between records
abbrev pub Ending : State → ℕ → Type 0
Ending s x = (p : Place) × (s ≡ Next p) × (kind_of x ≡ kind.End)

-- the fault of a complete record that begins at `start` with the word `first`
abbrev pub Unsound : Sort → List ℕ → Type 0 → ℕ → ℕ → RecordFault → Type 0
Unsound q xs rowed start first (Word f) = ⊥
Unsound q xs rowed start first (Order place x) = (InOrder q xs → ⊥) × (place ≡ start) × (x ≡ first)
Unsound q xs rowed start first (Count place x) = InOrder q xs × (rowed → ⊥) × (place ≡ start) × (x ≡ first)
