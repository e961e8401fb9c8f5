-- The papers of a change of demand and of a change of mark.
use Rattle.std.specs.Prelude.{◌≡◌, ℕ, Bool, true, false, List, [], ◌∷◌, ℤ, pos}
use Rattle.word.specs.Word.{word_of, amount_word}
use Rattle.word.specs.Slot.{Byte}
use Rattle.word.specs.Form.{Form}
use Rattle.word.specs.declared.slot.Slot.{Slot}
use Rattle.word.specs.declared.slot.Slot.TheVariants.{Head, End}
use Rattle.word.specs.declared.kind.Kind.TheVariants as kind
use Rattle.paper.specs.Range.{Power}
use Rattle.paper.specs.Name.{bus_word, branch_word, Named}
use Rattle.paper.specs.declared.change.DemandChange.{DemandChange}
use Rattle.paper.specs.declared.change.MarkChange.{MarkChange}

-- the places of a change paper: a head with this payload, a name, an amount, end
abbrev pub change_slots : ℕ → Slot → Slot → List Slot
change_slots head name amount = Head head ∷ name ∷ amount ∷ End ∷ []

-- the words of a change paper, by those of its name and its amount
abbrev pub change_words : ℕ → ℕ → ℕ → List ℕ
change_words head name amount = word_of kind.Head head ∷ name ∷ amount ∷ word_of kind.End 0 ∷ []

-- head, bus name, new demand, end
abbrev pub demand_words : DemandChange → List ℕ
demand_words v = change_words 4 (bus_word v.bus) (amount_word v.demand.0)

abbrev pub LawfulDemand : DemandChange → Type 0
LawfulDemand v = Byte v.bus × Power v.demand.0

abbrev pub DemandForm : Form
DemandForm w = (v : DemandChange) × LawfulDemand v × (w ≡ demand_words v)

abbrev pub mark_number : Bool → ℤ
mark_number true = pos 1
mark_number false = pos 0

-- head, branch name, new mark, end
abbrev pub mark_words : MarkChange → List ℕ
mark_words v = change_words 5 (branch_word v.branch) (amount_word (mark_number v.in_service))

abbrev pub LawfulMark : MarkChange → Type 0
LawfulMark v = Named v.branch

abbrev pub MarkForm : Form
MarkForm w = (v : MarkChange) × LawfulMark v × (w ≡ mark_words v)
