-- Raw rows, in which any numbers may stand: their ranges, and the bus or the branch that a row in range is.
use Rattle.std.specs.Prelude.{◌≡◌, pos, ◌≤ℤ◌, ◌<ℤ◌}
use Rattle.measure.specs.Range.{Within}
use Rattle.network.specs.Ranges.{NameRange, BusRanges}
use Rattle.network.specs.declared.bus.Bus.{Bus}
use Rattle.network.specs.declared.branch.Branch.{Branch}
use Rattle.network.specs.declared.branch.Ends.{Ends}
use Rattle.build.specs.declared.rows.BusRow.{BusRow}
use Rattle.build.specs.declared.rows.BranchRow.{BranchRow}

abbrev pub BusInRange : BusRow → Type 0
BusInRange r = BusRanges r.name r.demand.0

pub record BranchInRange (r : BranchRow) : Type 0 where
  pub circuit : NameRange r.name.circuit
  pub from : NameRange r.name.from
  pub to : NameRange r.name.to
  pub susceptance : (pos 1 ≤ℤ r.susceptance) × (r.susceptance ≤ℤ pos 1000000)
  pub shift : Within 1600000 r.shift.0
  pub rating : (pos 0 ≤ℤ r.rating.0) × (r.rating.0 ≤ℤ pos 100000000)
  pub angmin : Within 6400000 r.angmin.0
  pub angmax : Within 6400000 r.angmax.0

-- the limits of the angle difference are crossed
abbrev pub CrossedLimits : BranchRow → Type 0
CrossedLimits r = r.angmax.0 <ℤ r.angmin.0

-- b is the bus of the raw row r
pub record BusOf (r : BusRow) (b : Bus) : Type 0 where
  pub name : b.name ≡ r.name
  pub demand : b.demand ≡ r.demand

-- b is the branch of the raw row r, its ends in those rows
pub record BranchOf (r : BranchRow) (e : Ends) (b : Branch) : Type 0 where
  pub name : b.name ≡ r.name
  pub ends : b.ends ≡ e
  pub susceptance : b.susceptance ≡ r.susceptance
  pub shift : b.shift ≡ r.shift
  pub rating : b.rating ≡ r.rating
  pub angmin : b.angmin ≡ r.angmin
  pub angmax : b.angmax ≡ r.angmax
  pub service : b.service ≡ r.service
