-- A case read from its words into lent tables, and when it is refused.
use Rattle.std.specs.Prelude.{◌≡◌, ℕ, min, List, [], ◌∷◌, ◌++◌, length, take, drop, pos, Result, MatchResult, slice_index}
use Rattle.network.specs.Model.{Case}
use Rattle.network.specs.declared.bus.Bus.{Bus}
use Rattle.network.specs.declared.branch.Branch.{Branch}
use Rattle.network.specs.declared.refusal.Refusal.{Refusal}
use Rattle.network.specs.declared.refusal.Refusal.TheVariants.{Repeated, UnknownBus}
use Rattle.stepped.specs.Piecewise.{stepped_meaning}
use Rattle.stepped.specs.declared.stepped.Stepped.{Stepped}
use Rattle.curved.specs.Quadratic.{curved_meaning}
use Rattle.curved.specs.declared.curved.Curved.{Curved}
use Rattle.build.specs.Offer.{Accepted, Refused}
use Rattle.build.specs.Build.{Lent, lent, room_of, Laid, WellFormed}
use Rattle.build.specs.declared.tables.Rows.{Rows}
use Rattle.case_paper.specs.Case.{CaseForm}
use Rattle.case_paper.specs.CaseFault.{LawfulCase, RefusedCase}
use Rattle.case_paper.specs.Rows.{tolerance_of}
use Rattle.case_paper.specs.declared.fault.CaseFault.{CaseFault}
use Rattle.case_paper.specs.declared.fault.CaseFault.TheVariants.{Record, Repeats, Lacks}
use Rattle.build.specs.declared.tables.LaidCase.{LaidCase}
use Rattle.case_tables.specs.Rows.{stepped_rows, curved_rows, Offers}

-- the lent tables; `first` and `second` take the rows of the machines' buses
pub record Tables : Type 0 where
  pub buses : List Bus
  pub stepped : List Stepped
  pub first : List ℕ
  pub curved : List Curved
  pub second : List ℕ
  pub branches : List Branch

abbrev pub tables : List Bus → List Stepped → List ℕ → List Curved → List ℕ → List Branch → Tables
tables b s f c g l = record { buses = b; stepped = s; first = f; curved = c; second = g; branches = l }

-- how many records of each sort they have rows for: a machine takes its own and one for its bus
abbrev pub rows_provided : Tables → List ℕ
rows_provided t =
    length t.buses ∷ min (length t.stepped) (length t.first) ∷ min (length t.curved) (length t.second)
    ∷ length t.branches ∷ []

-- the tables that are laid by names
abbrev pub laid_in : Tables → Lent
laid_in t = lent t.buses t.first t.second t.branches

-- the case is offered: its tolerance, and the rows of its records in their order
abbrev pub Offered : {w : List ℕ} → CaseForm w → Rows Stepped Curved → Type 0
Offered c o = Offers (tolerance_of c) c.records o

-- the table's first rows are xs, and the later ones are as before
abbrev pub Written : {X : Type 0} → List X → List X → List X → Type 0
Written xs before after = after ≡ xs ++ drop (length xs) before

-- the case that the tables hold
abbrev pub held_case : LaidCase → Tables → Case Stepped Curved
held_case v t =
    record {
      tolerance = pos v.tolerance;
      buses = take v.counts.buses t.buses;
      first = record { machines = take v.counts.first t.stepped; place = λ i. slice_index t.first i };
      second = record { machines = take v.counts.second t.curved; place = λ i. slice_index t.second i };
      branches = take v.counts.branches t.branches;
    }

-- the words are a lawful case that repeats no name and lacks no bus, and the tables hold it
pub record CaseRead (w : List ℕ) (before after : Tables) (v : LaidCase) : Type 0 where
  pub lawful : LawfulCase (rows_provided before) w
  pub offer : Rows Stepped Curved
  pub offered : Offered lawful.form offer
  pub laid : Laid stepped_meaning curved_meaning offer (laid_in before) (laid_in after) v
  pub tolerance : pos v.tolerance ≡ tolerance_of lawful.form
  pub stepped : Written (stepped_rows lawful.form.records) before.stepped after.stepped
  pub curved : Written (curved_rows lawful.form.records) before.curved after.curved
  pub formed : WellFormed stepped_meaning curved_meaning (held_case v after)

-- the words are a lawful case, and what it offers meets this refusal
pub record NamesRefused (w : List ℕ) (t : Tables) (e : Refusal) : Type 0 where
  pub lawful : LawfulCase (rows_provided t) w
  pub offer : Rows Stepped Curved
  pub offered : Offered lawful.form offer
  pub refused : Refused stepped_meaning curved_meaning offer (room_of (laid_in t)) e

-- the words are refused: by the first fault that shows in them, else by the lowest row that repeats a name,
-- else by the lowest row that names a bus that is not there or the same bus at both ends
abbrev pub Unread : List ℕ → Tables → CaseFault → Type 0
Unread w t (Record f) = RefusedCase (rows_provided t) w f
Unread w t (Repeats row) = NamesRefused w t (Repeated row)
Unread w t (Lacks row) = NamesRefused w t (UnknownBus row)

-- the words are refused, and every table is as it was
pub record NotRead (w : List ℕ) (before after : Tables) (f : CaseFault) : Type 0 where
  pub refused : Unread w before f
  pub untouched : after ≡ before

-- read, or refused
abbrev pub Outcome : List ℕ → Tables → Tables → Result LaidCase CaseFault → Type 0
Outcome w before after r = MatchResult r (CaseRead w before after) (NotRead w before after)

-- ---- one outcome
-- the words are a lawful case, and what it offers passes every test
pub record Readable (w : List ℕ) (t : Tables) : Type 0 where
  pub lawful : LawfulCase (rows_provided t) w
  pub offer : Rows Stepped Curved
  pub offered : Offered lawful.form offer
  pub accepted : Accepted stepped_meaning curved_meaning offer (room_of (laid_in t))

-- what is read is readable, what is readable is not refused, and what is refused is so by one fault
pub record ReadExact : Type 0 where
  pub read : (w : List ℕ) (before after : Tables) (v : LaidCase) → CaseRead w before after v → Readable w before
  pub accepted : (w : List ℕ) (t : Tables) (f : CaseFault) → Readable w t → Unread w t f → ⊥
  pub once : (w : List ℕ) (t : Tables) (f g : CaseFault) → Unread w t f → Unread w t g → f ≡ g

-- ---- a refusal of what is offered, and the fault of the case that it is
abbrev pub Reported : Refusal → CaseFault → Type 0
Reported e (Record f) = ⊥
Reported e (Repeats row) = e ≡ Repeated row
Reported e (Lacks row) = e ≡ UnknownBus row

abbrev pub OfNames : Refusal → Type 0
OfNames e = (f : CaseFault) × Reported e f
