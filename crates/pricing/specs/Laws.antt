-- What taking a branch out of service does to a case, told row by row.
use Rattle.std.specs.Prelude.{◌≡◌, ℕ, Bool, false, ◌≢◌, ◌↔◌, List, length}
use Rattle.measure.specs.Rows.{Stands}
use Rattle.network.specs.declared.branch.Branch.{Branch}
use Rattle.network.specs.Model.{Case}
use Rattle.pricing.specs.Outage.{without}

-- one table is as another was before, but in row i
pub record OneRowChanged {X : Type 0} (Becomes : X → X → Type 0) (before after : List X) (i : ℕ) : Type 0 where
  pub as_long : length after ≡ length before
  -- what stood in that row has become what stands there
  pub becomes : (x : X) → Stands before i x → (y : X) × Stands after i y × Becomes x y
  -- every other row is as before
  pub others : (j : ℕ) → j ≢ i → (x : X) → Stands before j x ↔ Stands after j x

-- a branch is as before, but has the service mark m
pub record Remarked (m : Bool) (before after : Branch) : Type 0 where
  pub service_is : after.service ≡ m
  pub name_kept : after.name ≡ before.name
  pub ends_kept : after.ends ≡ before.ends
  pub susceptance_kept : after.susceptance ≡ before.susceptance
  pub shift_kept : after.shift ≡ before.shift
  pub rating_kept : after.rating ≡ before.rating
  pub angmin_kept : after.angmin ≡ before.angmin
  pub angmax_kept : after.angmax ≡ before.angmax

-- a case is as before, but the branch in row i has the service mark m
pub record OnlyMark {M N : Type 0} (m : Bool) (before : Case M N) (i : ℕ) (after : Case M N) : Type 0 where
  pub branches_changed : OneRowChanged (Remarked m) before.branches after.branches i
  pub tolerance_kept : after.tolerance ≡ before.tolerance
  pub buses_kept : after.buses ≡ before.buses
  pub first_kept : after.first ≡ before.first
  pub second_kept : after.second ≡ before.second

-- without the branch in row i, that branch is out of service, and all else is as before
abbrev pub OutageTold : (M N : Type 0) → Type 0
OutageTold M N = (c : Case M N) (i : ℕ) → OnlyMark false c i (without c i)
