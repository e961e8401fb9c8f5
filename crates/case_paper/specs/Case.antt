-- The form of a case, without its counts: a head, its amounts, records in the order of their sorts, an end.
use Rattle.std.specs.Prelude.{◌≡◌, ℕ, ◌+◌, ◌-◌, ◌/◌, ◌%◌, ◌≤◌, List, [], ◌∷◌, ◌++◌, replicate, pos, negsuc}
use Rattle.std.specs.List.{flat_map, AllByRecursion}
use Rattle.word.specs.Word.{kind_of, payload_of, word_of}
use Rattle.word.specs.Slot.{Byte, Matches}
use Rattle.word.specs.declared.kind.Kind.{Kind}
use Rattle.word.specs.declared.kind.Kind.TheVariants as kind
use Rattle.word.specs.declared.slot.Slot.{Slot}
use Rattle.word.specs.declared.slot.Slot.TheVariants as slot
use Rattle.case_paper.specs.declared.sort.Sort.{Sort}
use Rattle.case_paper.specs.declared.sort.Sort.TheVariants.{Bus, Stepped, Curved, Branch}

-- watts
abbrev pub power_slot : Slot
power_slot = slot.Amount (negsuc 99999999) (pos 100000000)

-- grains per watt-hour
abbrev pub price_slot : Slot
price_slot = slot.Amount (negsuc 999999) (pos 1000000)

-- the amounts of the head: the tolerance, and how many bus, stepped, curved and branch records follow
abbrev pub head_amounts : List Slot
head_amounts =
    slot.Amount (pos 0) (pos 100000) ∷ slot.Amount (pos 1) (pos 100) ∷ slot.Amount (pos 0) (pos 30)
    ∷ slot.Amount (pos 0) (pos 30) ∷ slot.Amount (pos 0) (pos 200) ∷ []

abbrev pub head_slots : List Slot
head_slots = slot.Head 1 ∷ head_amounts

-- the sorts in their order
abbrev pub rank : Sort → ℕ
rank Bus = 0
rank (Stepped n) = 1
rank Curved = 2
rank Branch = 3

-- the kind of a record's first word
abbrev pub sort_kind : Sort → Kind
sort_kind Bus = kind.Bus
sort_kind (Stepped n) = kind.Stepped
sort_kind Curved = kind.Curved
sort_kind Branch = kind.Branch

-- the sort of record that a word of a record's kind begins
abbrev pub sort_at : Kind → ℕ → Sort
sort_at kind.Unknown payload = Branch
sort_at kind.Head payload = Branch
sort_at kind.Bus payload = Bus
sort_at kind.Stepped payload = Stepped (payload / 256)
sort_at kind.Curved payload = Curved
sort_at kind.Branch payload = Branch
sort_at kind.Amount payload = Branch
sort_at kind.End payload = Branch

abbrev pub sort_of : ℕ → Sort
sort_of x = sort_at (kind_of x) (payload_of x)

-- the first word of a record: a bus name; 256 × n + bus name; a bus name; a branch name
abbrev pub FirstWord : Sort → ℕ → Type 0
FirstWord Bus x = (kind_of x ≡ kind.Bus) × Byte (payload_of x)
FirstWord (Stepped n) x = (kind_of x ≡ kind.Stepped) × (payload_of x / 256 ≡ n) × (2 ≤ n) × (n ≤ 8) × Byte (payload_of x % 256)
FirstWord Curved x = (kind_of x ≡ kind.Curved) × Byte (payload_of x)
FirstWord Branch x =
    (kind_of x ≡ kind.Branch) × Byte (payload_of x / 65536) × Byte (payload_of x / 256 % 256) × Byte (payload_of x % 256)

-- the amounts after it
abbrev pub amounts_of : Sort → List Slot
-- demand
amounts_of Bus = power_slot ∷ []
-- lo, hi, first cost in millions (in the range of a power), n points; n - 1 slopes
amounts_of (Stepped n) = replicate (3 + n) power_slot ++ replicate (n - 1) price_slot
-- lo, hi, c0 in millions (in the range of a power), c1, c2
amounts_of Curved = power_slot ∷ power_slot ∷ power_slot ∷ price_slot ∷ slot.Amount (pos 1) (pos 500) ∷ []
-- susceptance, shift, rating, least and most angle difference, service mark
amounts_of Branch =
    slot.Amount (pos 1) (pos 1000000) ∷ slot.Amount (negsuc 1599999) (pos 1600000) ∷ slot.Amount (pos 0) (pos 100000000)
    ∷ slot.Amount (negsuc 6399999) (pos 6400000) ∷ slot.Amount (negsuc 6399999) (pos 6400000) ∷ slot.Amount (pos 0) (pos 1) ∷ []

-- a record by its words
pub record Record : Type 0 where
  pub sort : Sort
  pub first : ℕ
  pub amounts : List ℕ

abbrev pub record_words : Record → List ℕ
record_words r = r.first ∷ r.amounts

-- each word is of its kind and in its range
abbrev pub Formed : Record → Type 0
Formed r = FirstWord r.sort r.first × Matches (amounts_of r.sort) r.amounts

-- buses, then stepped, curved and branch records, from this rank on
abbrev pub Sorted : ℕ → List Record → Type 0
Sorted least [] = Unit {0}
Sorted least (r ∷ rs) = (least ≤ rank r.sort) × Sorted (rank r.sort) rs

abbrev pub end_word : List ℕ
end_word = word_of kind.End 0 ∷ []

pub record CaseForm (w : List ℕ) : Type 0 where
  pub head : List ℕ
  pub records : List Record
  pub words : w ≡ head ++ (flat_map record_words records ++ end_word)
  pub headed : Matches head_slots head
  pub formed : AllByRecursion Formed records
  pub sorted : Sorted 0 records
