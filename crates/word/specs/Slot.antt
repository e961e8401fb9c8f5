-- A slot is what is due at one place of a paper of fixed length: a kind of word and its range.
use Rattle.std.specs.Prelude.{◌≡◌, ℕ, ◌/◌, ◌%◌, ◌≤◌, List, [], ◌∷◌, ◌≤ℤ◌}
use Rattle.word.specs.Word.{kind_of, payload_of, amount_of}
use Rattle.word.specs.declared.kind.Kind.{Kind}
use Rattle.word.specs.declared.kind.Kind.TheVariants as kind
use Rattle.word.specs.declared.slot.Slot.{Slot}
use Rattle.word.specs.declared.slot.Slot.TheVariants.{Head, Bus, Branch, Amount, End}
use Rattle.word.specs.declared.place.Place.{Place}
use Rattle.names.specs.Names as names
use Rattle.names.specs.declared.branch.BranchName as branch
use Rattle.word.specs.declared.place.Place.TheVariants as place
use Rattle.word.specs.declared.fault.WordRefusal.{WordRefusal}
use Rattle.word.specs.declared.fault.WordRefusal.TheVariants as refusal

abbrev pub slot_kind : Slot → Kind
slot_kind (Head payload) = kind.Head
slot_kind Bus = kind.Bus
slot_kind Branch = kind.Branch
slot_kind (Amount least most) = kind.Amount
slot_kind End = kind.End

-- a name of one number
abbrev pub Byte : ℕ → Type 0
Byte n = names.NameRange n

-- a branch's name: its circuit, its from bus and its to bus
abbrev pub BranchName : ℕ → Type 0
BranchName n = Byte (n / 65536) × Byte (n / 256 % 256) × Byte (n % 256)

-- the branch that a word names
abbrev pub branch_of : ℕ → branch.BranchName
branch_of x = record { circuit = payload_of x / 65536; from = payload_of x / 256 % 256; to = payload_of x % 256 }

-- the payload or amount of the word is in the slot's range
abbrev pub InRange : Slot → ℕ → Type 0
InRange (Head payload) x = payload_of x ≡ payload
InRange Bus x = Byte (payload_of x)
InRange Branch x = BranchName (payload_of x)
InRange (Amount least most) x = (least ≤ℤ amount_of x) × (amount_of x ≤ℤ most)
InRange End x = payload_of x ≡ 0

abbrev pub Fits : Slot → ℕ → Type 0
Fits s x = (kind_of x ≡ slot_kind s) × InRange s x

-- a word that does not fit, by the refusal that it gets
abbrev pub Misfits : Slot → ℕ → WordRefusal → Type 0
Misfits s x refusal.Stops = ⊥
Misfits s x refusal.Kind = kind_of x ≡ slot_kind s → ⊥
Misfits s x refusal.Range = (kind_of x ≡ slot_kind s) × (InRange s x → ⊥)
Misfits s x refusal.Follows = ⊥

-- the words fit the slots, one to each
abbrev pub Matches : List Slot → List ℕ → Type 0
Matches [] [] = Unit {0}
Matches [] (x ∷ xs) = ⊥
Matches (s ∷ ss) [] = ⊥
Matches (s ∷ ss) (x ∷ xs) = Fits s x × Matches ss xs

-- the reader's place at a slot
abbrev pub slot_place : Slot → Place
slot_place (Head payload) = place.Head
slot_place Bus = place.BusName
slot_place Branch = place.BranchName
slot_place (Amount least most) = place.Amount
slot_place End = place.End

-- some list of words fits these slots
abbrev pub Possible : List Slot → Type 0
Possible ss = (w : List ℕ) × Matches ss w
