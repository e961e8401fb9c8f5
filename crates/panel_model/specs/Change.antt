-- Changes of a case: another demand at a bus, another service mark on a branch.
use Rattle.std.specs.Prelude.{ℕ, zero, suc, Bool, cond, ◌&&◌, List, [], ◌∷◌, Some, None, Option, ◌==◌}
use Rattle.std.specs.Option.{option_map}
use Rattle.measure.specs.Range.{Within}
use Rattle.measure.specs.declared.Watts.{Watts}
use Rattle.names.specs.declared.branch.BranchName.{BranchName}
use Rattle.network.specs.declared.bus.Bus.{Bus}
use Rattle.network.specs.declared.branch.Branch.{Branch}
use Rattle.network.specs.Model.{Case}
use Rattle.pricing.specs.Outage.{marked}

-- what a change says: a bus by its name and its new demand, which is in the range of a power; or a branch by its name and its new mark
pub data Change : Type 0 where
  demand : (bus : ℕ) (watts : Watts) → Within 100000000 watts.0 → Change
  mark : (branch : BranchName) (service : Bool) → Change

-- the lowest row that passes the test
unfoldable pub row_where : {X : Type 0} → (X → Bool) → List X → Option ℕ
row_where test [] = None
row_where test (x ∷ xs) = cond (test x) (Some 0) (option_map suc (row_where test xs))

abbrev pub is_bus : ℕ → Bus → Bool
is_bus name b = b.name == name

abbrev pub is_branch : BranchName → Branch → Bool
is_branch name r = r.name.circuit == name.circuit && r.name.from == name.from && r.name.to == name.to

-- a bus with another demand
abbrev pub demanding : (watts : Watts) → Within 100000000 watts.0 → Bus → Bus
demanding watts ok b = record { name = b.name; demand = watts; ok = (b.ok.0, ok) }

-- the table with f of the row i in its place
unfoldable pub with_row : {X : Type 0} → (X → X) → List X → ℕ → List X
with_row f [] i = []
with_row f (x ∷ xs) zero = f x ∷ xs
with_row f (x ∷ xs) (suc i) = x ∷ with_row f xs i

module _ {M N : Type 0} where
  abbrev pub with_buses : Case M N → List Bus → Case M N
  with_buses c buses =
      record { tolerance = c.tolerance; buses = buses; first = c.first; second = c.second; branches = c.branches }

  abbrev pub with_branches : Case M N → List Branch → Case M N
  with_branches c branches =
      record { tolerance = c.tolerance; buses = c.buses; first = c.first; second = c.second; branches = branches }

  -- the case with the change made; none where no bus, or no branch, has the name
  abbrev pub changed : Case M N → Change → Option (Case M N)
  changed c (demand bus watts ok) =
      option_map (λ i. with_buses c (with_row (demanding watts ok) c.buses i)) (row_where (is_bus bus) c.buses)
  changed c (mark branch service) =
      option_map (λ i. with_branches c (with_row (marked service) c.branches i)) (row_where (is_branch branch) c.branches)
