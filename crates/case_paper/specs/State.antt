-- The steps of the reader of a case.
use Rattle.std.specs.Prelude.{◌≡◌, ℕ, ◌+◌, ◌<◌, true, cond, length, Some, None, Option, ◌≢◌, nat_lt, slice_index_or}
use Rattle.word.specs.Word.{kind_of, payload_of}
use Rattle.word.specs.Slot.{InRange}
use Rattle.word.specs.Place.{may_stand}
use Rattle.word.specs.declared.kind.Kind.{Kind}
use Rattle.word.specs.declared.kind.Kind.TheVariants as kind
use Rattle.word.specs.declared.place.Place.{Place}
use Rattle.word.specs.declared.place.Place.TheVariants as place
use Rattle.word.specs.declared.slot.Slot.TheVariants as slot
use Rattle.word.specs.declared.fault.WordRefusal.{WordRefusal}
use Rattle.word.specs.declared.fault.WordRefusal.TheVariants as refusal
use Rattle.case_paper.specs.Case.{sort_of, FirstWord, amounts_of, head_amounts}
use Rattle.case_paper.specs.declared.sort.Sort.{Sort}
use Rattle.case_paper.specs.declared.sort.Sort.TheVariants.{Bus, Stepped, Curved, Branch}
use Rattle.case_paper.specs.declared.state.Open.{Open}
use Rattle.case_paper.specs.declared.state.State.{State}
use Rattle.case_paper.specs.declared.state.State.TheVariants.{Head, Counts, Next, Amounts, Done}

-- the place after a record
abbrev pub after_sort : Sort → Place
after_sort Bus = place.Buses
after_sort (Stepped n) = place.Stepped
after_sort Curved = place.Curved
after_sort Branch = place.Branches

abbrev pub state_place : State → Place
state_place Head = place.Head
state_place (Counts read) = place.Amount
state_place (Next p) = p
state_place (Amounts o) = place.Amount
state_place Done = place.End

-- the first word of the open record, if one is open
abbrev pub open_first : State → Option ℕ
open_first Head = None
open_first (Counts read) = None
open_first (Next p) = None
open_first (Amounts o) = Some o.first
open_first Done = None

-- the word is in range
abbrev pub Ranges : State → ℕ → Type 0
Ranges Head x = payload_of x ≡ 1
Ranges (Counts read) x = InRange (slice_index_or head_amounts read slot.End) x
Ranges (Next p) x = (kind_of x ≡ kind.End → payload_of x ≡ 0) × ((kind_of x ≢ kind.End) → FirstWord (sort_of x) x)
Ranges (Amounts o) x = InRange (slice_index_or (amounts_of o.sort) o.read slot.End) x
Ranges Done x = ⊥

-- a record of this sort and first word, before its first amount
abbrev pub opened : Sort → ℕ → Open
opened q x = record { sort = q; first = x; read = 0 }

-- with one amount more
abbrev pub read_more : Open → Open
read_more o = record o { read = o.read + 1 }

-- a record begins, or the end word stands
abbrev pub begun : Kind → ℕ → State
begun kind.Unknown x = Amounts (opened (sort_of x) x)
begun kind.Head x = Amounts (opened (sort_of x) x)
begun kind.Bus x = Amounts (opened (sort_of x) x)
begun kind.Stepped x = Amounts (opened (sort_of x) x)
begun kind.Curved x = Amounts (opened (sort_of x) x)
begun kind.Branch x = Amounts (opened (sort_of x) x)
begun kind.Amount x = Amounts (opened (sort_of x) x)
begun kind.End x = Done

abbrev pub next : State → ℕ → State
next Head x = Counts 0
next (Counts read) x = cond (nat_lt (read + 1) 5) (Counts (read + 1)) (Next place.Buses)
next (Next p) x = begun (kind_of x) x
next (Amounts o) x =
    cond (nat_lt (o.read + 1) (length (amounts_of o.sort))) (Amounts (read_more o)) (Next (after_sort o.sort))
next Done x = Done

-- a word that the reader takes, and one that it refuses
abbrev pub Takes : State → ℕ → Type 0
Takes s x = (may_stand (state_place s) (kind_of x) ≡ true) × Ranges s x

abbrev pub Missteps : State → ℕ → WordRefusal → Type 0
Missteps s x refusal.Stops = ⊥
Missteps s x refusal.Kind = (s ≢ Done) × (may_stand (state_place s) (kind_of x) ≢ true)
Missteps s x refusal.Range = (s ≢ Done) × (may_stand (state_place s) (kind_of x) ≡ true) × (Ranges s x → ⊥)
Missteps s x refusal.Follows = s ≡ Done

-- the places at which a record may begin
abbrev pub AtRecord : Place → Type 0
AtRecord place.Head = ⊥
AtRecord place.BusName = ⊥
AtRecord place.BranchName = ⊥
AtRecord place.Amount = ⊥
AtRecord place.End = ⊥
AtRecord place.Buses = Unit {0}
AtRecord place.Stepped = Unit {0}
AtRecord place.Curved = Unit {0}
AtRecord place.Branches = Unit {0}

-- the states that the reader comes to
abbrev pub Good : State → Type 0
Good Head = Unit {0}
Good (Counts read) = read < 5
Good (Next p) = AtRecord p
Good (Amounts o) = FirstWord o.sort o.first × (o.read < length (amounts_of o.sort))
Good Done = Unit {0}

-- whether a step from one state to another completes a record, and which
abbrev pub Closes : State → State → Option Open → Type 0
Closes s t None = (o : Open) (p : Place) → s ≡ Amounts o → t ≢ Next p
Closes s t (Some o) = (s ≡ Amounts o) × ((p : Place) × (t ≡ Next p))
