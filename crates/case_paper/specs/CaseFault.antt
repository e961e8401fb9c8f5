-- When the words of a case are refused, and when they are a lawful case.
use Rattle.std.specs.Prelude.{◌≡◌, ℕ, ◌+◌, ◌<◌, ◌≤◌, cond, ◌⊎◌, List, [], ◌∷◌, ◌++◌, length, take, None, Some, Option, ◌==◌, ◌≢◌, slice_index}
use Rattle.std.specs.List.{flat_map, AllByRecursion}
use Rattle.word.specs.Word.{kind_of, payload_of}
use Rattle.word.specs.Form.{Refused}
use Rattle.word.specs.Slot.{Matches}
use Rattle.word.specs.declared.kind.Kind.TheVariants as kind
use Rattle.word.specs.declared.fault.WordFault.{WordFault}
use Rattle.word.specs.declared.fault.WordRefusal.TheVariants as refusal
use Rattle.case_paper.specs.Case.{head_slots, rank, FirstWord, amounts_of, Record, record_words, Formed, CaseForm}
use Rattle.case_paper.specs.Order.{InOrder}
use Rattle.case_paper.specs.Fault.{record_number, record_open_word}
use Rattle.case_paper.specs.declared.sort.Sort.{Sort}
use Rattle.case_paper.specs.declared.fault.RecordFault.{RecordFault}
use Rattle.case_paper.specs.declared.fault.RecordFault.TheVariants.{Word, Order, Count}
use Rattle.case_paper.specs.declared.fault.CaseFault.{CaseFault}
use Rattle.case_paper.specs.declared.fault.CaseFault.TheVariants as fault

-- ---- records and their counts
-- the words p are the head and the whole records rs
pub record Whole (p head : List ℕ) (rs : List Record) : Type 0 where
  pub words : p ≡ head ++ flat_map record_words rs
  pub headed : Matches head_slots head
  pub formed : AllByRecursion Formed rs

-- how many records are of the sort of this rank
abbrev pub count_rank : ℕ → List Record → ℕ
count_rank k [] = 0
count_rank k (r ∷ rs) = cond (rank r.sort == k) 1 0 + count_rank k rs

-- how many the head says
abbrev pub head_count : List ℕ → ℕ → ℕ
head_count head k = payload_of (slice_index head (2 + k))

-- the records are as many as the head says, of each sort
abbrev pub CountsMet : List ℕ → List Record → Type 0
CountsMet head rs = (k : ℕ) → k < 4 → count_rank k rs ≡ head_count head k

-- a record of this sort after the records rs is within its count and the rows provided
abbrev pub HasRow : List ℕ → List ℕ → List Record → Sort → Type 0
HasRow rows head rs q = (count_rank (rank q) rs < head_count head (rank q)) × (count_rank (rank q) rs < slice_index rows (rank q))

-- ---- lawful cases
-- a case in form whose records are in order, as many as its head says, and no more than the rows provided:
-- buses, stepped, curved, branches
pub record LawfulCase (rows w : List ℕ) : Type 0 where
  pub form : CaseForm w
  pub met : CountsMet form.head form.records
  pub ordered : AllByRecursion (λ r. InOrder r.sort r.amounts) form.records
  pub fitting : (k : ℕ) → k < 4 → count_rank k form.records ≤ slice_index rows k

-- ---- the faults that show at a word
-- the words p end inside the record that the word `first` begins
pub record Inside (p : List ℕ) (first : ℕ) : Type 0 where
  pub before : List ℕ
  pub head : List ℕ
  pub records : List Record
  pub sort : Sort
  pub part : List ℕ
  pub words : p ≡ before ++ (first ∷ part)
  pub whole : Whole before head records
  pub opens : FirstWord sort first
  pub short : length part < length (amounts_of sort)

-- the first word of the record that the words p leave open, if they leave one open
abbrev pub OpenWord : List ℕ → Option ℕ → Type 0
OpenWord p None = (x : ℕ) → Inside p x → ⊥
OpenWord p (Some first) = Inside p first

-- at this place an end word stands before the head's counts are met
pub record EarlyEnd (w : List ℕ) (place : ℕ) : Type 0 where
  pub head : List ℕ
  pub records : List Record
  pub inside : place < length w
  pub ends : kind_of (slice_index w place) ≡ kind.End
  pub whole : Whole (take place w) head records
  pub unmet : CountsMet head records → ⊥

-- the word at k completes the record r, which begins at this place, after the records rs
pub record Completes (w : List ℕ) (k place : ℕ) (head : List ℕ) (rs : List Record) (r : Record) : Type 0 where
  pub inside : k < length w
  pub words : take (k + 1) w ≡ take place w ++ record_words r
  pub whole : Whole (take place w) head rs
  pub formed : Formed r

-- the fault shows at the word at k, or where the words stop:
-- a word against the form, or an end word too early; a complete record out of order; a complete record with no row
abbrev pub Shows : List ℕ → List ℕ → ℕ → RecordFault → Type 0
Shows rows w k (Word f) =
    (k ≡ f.place) × OpenWord (take f.place w) f.first
    × (Refused CaseForm w f.refusal f.place ⊎ ((f.refusal ≡ refusal.Kind) × EarlyEnd w f.place))
Shows rows w k (Order place first) =
    (head : List ℕ) × (rs : List Record) × (r : Record) × Completes w k place head rs r × (first ≡ r.first)
    × (InOrder r.sort r.amounts → ⊥)
Shows rows w k (Count place first) =
    (head : List ℕ) × (rs : List Record) × (r : Record) × Completes w k place head rs r × (first ≡ r.first)
    × (HasRow rows head rs r.sort → ⊥)

-- words are taken from the left, and a word with two faults gets the smaller number
abbrev pub Sooner : ℕ → RecordFault → ℕ → RecordFault → Type 0
Sooner j g k f = (j < k) ⊎ ((j ≡ k) × (record_number g < record_number f))

-- the words are refused by the first fault that shows
pub record RefusedCase (rows w : List ℕ) (f : RecordFault) : Type 0 where
  pub at : ℕ
  pub shows : Shows rows w at f
  pub first : (j : ℕ) (g : RecordFault) → Shows rows w j g → Sooner j g at f → ⊥

-- a case's fault carries the record's
abbrev pub RefusedRead : List ℕ → List ℕ → CaseFault → Type 0
RefusedRead rows w (fault.Record f) = RefusedCase rows w f
RefusedRead rows w (fault.Repeats row) = ⊥
RefusedRead rows w (fault.Lacks row) = ⊥

-- ---- one outcome
-- a lawful case is not refused, and what is refused is so by one fault
pub record CaseExact : Type 0 where
  pub accepted : (rows w : List ℕ) (f : RecordFault) → LawfulCase rows w → RefusedCase rows w f → ⊥
  pub once : (rows w : List ℕ) (f g : RecordFault) → RefusedCase rows w f → RefusedCase rows w g → f ≡ g

-- ---- the first word of the open record
-- no record's first word is 0: where 0 stands for it, a word is refused and no record is open
pub record OpenWordTold : Type 0 where
  pub first : (q : Sort) (x : ℕ) → FirstWord q x → x ≢ 0
  pub none : (rows w : List ℕ) (f : RecordFault) → RefusedCase rows w f → record_open_word f ≡ 0 → (g : WordFault) × (f ≡ Word g) × (g.first ≡ None)
