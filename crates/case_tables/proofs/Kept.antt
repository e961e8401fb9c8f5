-- The rows of a case, with the row of one record more.
use Rattle.std.proofs.Common.{◌≡◌, ℕ, eqb, List, [], ◌∷◌, ◌++◌, ap}
use Rattle.arrayvec.specs.ArrayVec.{ArrayVec}
use Rattle.build.specs.declared.rows.BusRow.{BusRow}
use Rattle.build.specs.declared.rows.BranchRow.{BranchRow}
use Rattle.stepped.specs.declared.stepped.Stepped.{Stepped}
use Rattle.curved.specs.declared.curved.Curved.{Curved}
use Rattle.case_paper.specs.Case.{Record, rank}
use Rattle.case_tables.specs.declared.rows.CaseRows.{CaseRows}
use Rattle.case_tables.specs.Rows.{bus_row, stepped_row, curved_row, branch_row}
use Rattle.case_tables.specs.Held.{Holds}
use Rattle.case_tables.proofs.Keeping.{rows_same, rows_other}

module _ (t : CaseRows) (rs : List Record) (h : Holds t rs) (r : Record) where
  pub keeps_bus : rank r.sort ≡ 0 → (v : ArrayVec BusRow) → v.items ≡ t.buses.items ++ (bus_row r ∷ []) → Holds (record t { buses = v }) (rs ++ (r ∷ []))
  keeps_bus e v g =
      record {
        buses = rows_same bus_row 0 rs r t.buses.items h.buses (ap (λ (n : ℕ). eqb n 0) e) v.items g;
        stepped = rows_other stepped_row 1 rs r t.stepped.items h.stepped (ap (λ (n : ℕ). eqb n 1) e);
        curved = rows_other curved_row 2 rs r t.curved.items h.curved (ap (λ (n : ℕ). eqb n 2) e);
        branches = rows_other branch_row 3 rs r t.branches.items h.branches (ap (λ (n : ℕ). eqb n 3) e);
      }

  pub keeps_stepped : rank r.sort ≡ 1 → (v : ArrayVec Stepped) → v.items ≡ t.stepped.items ++ (stepped_row r ∷ []) → Holds (record t { stepped = v }) (rs ++ (r ∷ []))
  keeps_stepped e v g =
      record {
        buses = rows_other bus_row 0 rs r t.buses.items h.buses (ap (λ (n : ℕ). eqb n 0) e);
        stepped = rows_same stepped_row 1 rs r t.stepped.items h.stepped (ap (λ (n : ℕ). eqb n 1) e) v.items g;
        curved = rows_other curved_row 2 rs r t.curved.items h.curved (ap (λ (n : ℕ). eqb n 2) e);
        branches = rows_other branch_row 3 rs r t.branches.items h.branches (ap (λ (n : ℕ). eqb n 3) e);
      }

  pub keeps_curved : rank r.sort ≡ 2 → (v : ArrayVec Curved) → v.items ≡ t.curved.items ++ (curved_row r ∷ []) → Holds (record t { curved = v }) (rs ++ (r ∷ []))
  keeps_curved e v g =
      record {
        buses = rows_other bus_row 0 rs r t.buses.items h.buses (ap (λ (n : ℕ). eqb n 0) e);
        stepped = rows_other stepped_row 1 rs r t.stepped.items h.stepped (ap (λ (n : ℕ). eqb n 1) e);
        curved = rows_same curved_row 2 rs r t.curved.items h.curved (ap (λ (n : ℕ). eqb n 2) e) v.items g;
        branches = rows_other branch_row 3 rs r t.branches.items h.branches (ap (λ (n : ℕ). eqb n 3) e);
      }

  pub keeps_branch : rank r.sort ≡ 3 → (v : ArrayVec BranchRow) → v.items ≡ t.branches.items ++ (branch_row r ∷ []) → Holds (record t { branches = v }) (rs ++ (r ∷ []))
  keeps_branch e v g =
      record {
        buses = rows_other bus_row 0 rs r t.buses.items h.buses (ap (λ (n : ℕ). eqb n 0) e);
        stepped = rows_other stepped_row 1 rs r t.stepped.items h.stepped (ap (λ (n : ℕ). eqb n 1) e);
        curved = rows_other curved_row 2 rs r t.curved.items h.curved (ap (λ (n : ℕ). eqb n 2) e);
        branches = rows_same branch_row 3 rs r t.branches.items h.branches (ap (λ (n : ℕ). eqb n 3) e) v.items g;
      }
