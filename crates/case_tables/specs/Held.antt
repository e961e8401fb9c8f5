-- Rows kept in vectors that have room for the most of them.
use Rattle.std.specs.Prelude.{◌≡◌, ℕ, ◌<◌, List}
use Rattle.case_paper.specs.Case.{Record, CaseForm}
use Rattle.case_paper.specs.CaseFault.{CountsMet}
use Rattle.case_paper.specs.declared.sort.Sort.{Sort}
use Rattle.case_paper.specs.declared.sort.Sort.TheVariants.{Bus, Stepped, Curved, Branch}
use Rattle.arrayvec.specs.ArrayVec.{array_vec_len}
use Rattle.case_tables.specs.declared.rows.CaseRows.{CaseRows}
use Rattle.case_tables.specs.Rows.{bus_rows, stepped_rows, curved_rows, branch_rows}

-- the rows of the records are kept, each in the vector of its sort
pub record Holds (t : CaseRows) (rs : List Record) : Type 0 where
  pub buses : t.buses.items ≡ bus_rows rs
  pub stepped : t.stepped.items ≡ stepped_rows rs
  pub curved : t.curved.items ≡ curved_rows rs
  pub branches : t.branches.items ≡ branch_rows rs

-- one row more of this sort has a place
abbrev pub HasPlace : CaseRows → Sort → Type 0
HasPlace t Bus = array_vec_len t.buses < 100
HasPlace t (Stepped n) = array_vec_len t.stepped < 30
HasPlace t Curved = array_vec_len t.curved < 30
HasPlace t Branch = array_vec_len t.branches < 200

-- a case in form, with as many records as its head says
pub record CountedCase (w : List ℕ) : Type 0 where
  pub form : CaseForm w
  pub met : CountsMet form.head form.records
