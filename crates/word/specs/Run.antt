-- Runs of places, of which the papers of fixed length are made.
use Rattle.std.specs.Prelude.{◌≡◌, ℕ, zero, suc, ◌%◌, ◌<◌, ◌≤◌, cond, List, [], ◌∷◌, ◌++◌, length, Option, MatchOption, ◌==◌, slice_index_or}
use Rattle.word.specs.declared.slot.Slot.{Slot}
use Rattle.word.specs.declared.slot.Slot.TheVariants.{End}
use Rattle.word.specs.declared.run.Run.{Run}

-- n places, of the slots a and b in turn
abbrev pub in_turn : ℕ → Slot → Slot → List Slot
in_turn zero a b = []
in_turn (suc n) a b = a ∷ in_turn n b a

abbrev pub slots_of : List Run → List Slot
slots_of [] = []
slots_of (r ∷ rs) = in_turn r.count r.slot r.other ++ slots_of rs

-- the slot at a place inside a run
abbrev pub slot_in : Run → ℕ → Slot
slot_in r i = cond (i % 2 == 0) r.slot r.other

-- what is due at a place: a slot, or nothing any more
abbrev pub Due : List Slot → ℕ → Option Slot → Type 0
Due ss place r = MatchOption r (length ss ≤ place) (λ s. (place < length ss) × (s ≡ slice_index_or ss place End))
