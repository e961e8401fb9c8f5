-- The network in whole units (watts, microradians), a dispatch in fractions, and when it meets the case. Buses, machines and branches are
-- known by their rows, counted from 0; row 0 of the buses is the reference.
use Rattle.std.specs.Prelude.{ℕ, zero, suc, T, List, length, ℤ, pos, ◌+ℤ◌, neg_ℤ, ◌<ℤ◌, ◌==◌, nat_lt}
use Rattle.measure.specs.Fraction.{Fraction, whole, ◌+ᶠ◌, ◌-ᶠ◌, ◌·ᶠ◌, Between}
use Rattle.measure.specs.Rows.{Row, rows, totalᶠ, onlyᶠ, All}
use Rattle.machine.specs.Meaning.{Meaning}
use Rattle.machine.specs.Group.{true_cost_of, counted_cost}
use Rattle.network.specs.declared.bus.Bus.{Bus}
use Rattle.network.specs.declared.branch.Branch.{Branch}

-- machines of one kind, and the row of each one's bus
pub record Group (M : Type 0) : Type 0 where
  pub machines : List M
  pub place : ℕ → ℕ

pub record Case (M N : Type 0) : Type 0 where
  pub tolerance : ℤ
  pub buses : List Bus
  pub first : Group M
  pub second : Group N
  pub branches : List Branch

-- the power of each machine, by its row, and the angle of each bus but the reference: `angles i` is that of row i + 1
pub record Dispatch : Type 0 where
  pub first : ℕ → Fraction
  pub second : ℕ → Fraction
  pub angles : ℕ → Fraction

-- a dispatch in whole numbers
pub record WholeDispatch : Type 0 where
  pub first : ℕ → ℤ
  pub second : ℕ → ℤ
  pub angles : ℕ → ℤ

abbrev pub in_fractions : WholeDispatch → Dispatch
in_fractions d = record { first = λ i. whole (d.first i); second = λ i. whole (d.second i); angles = λ i. whole (d.angles i) }

-- every angle lies within this many microradians
abbrev pub angle_limit : ℤ
angle_limit = pos 3200000

module _ {M N : Type 0} (c : Case M N) (d : Dispatch) where
  -- the angle at the bus in that row; the reference has 0, and so has a row that the case lacks
  unfoldable pub angle : ℕ → Fraction
  angle zero = whole (pos 0)
  angle (suc i) = onlyᶠ (nat_lt (suc i) (length c.buses)) (d.angles i)

  abbrev pub difference : Branch → Fraction
  difference r = angle r.ends.from -ᶠ angle r.ends.to

  -- what the branch carries
  unfoldable pub flow : Branch → Fraction
  flow r = onlyᶠ r.service (r.susceptance ·ᶠ (difference r -ᶠ whole r.shift.0))

  unfoldable pub leaving : ℕ → Fraction
  leaving n = totalᶠ (λ (r : Branch). onlyᶠ (r.ends.from == n) (flow r)) c.branches

  unfoldable pub arriving : ℕ → Fraction
  arriving n = totalᶠ (λ (r : Branch). onlyᶠ (r.ends.to == n) (flow r)) c.branches

-- what a group of machines gives at the bus in that row
unfoldable pub injection : {M : Type 0} → Group M → (ℕ → Fraction) → ℕ → Fraction
injection {M} g p n = totalᶠ (λ (r : Row M). onlyᶠ (g.place r.row == n) (p r.row)) (rows g.machines)

-- machines' power - demand - flows leaving + flows arriving
unfoldable pub mismatch : {M N : Type 0} → Case M N → Dispatch → Row Bus → Fraction
mismatch c d b =
    injection c.first d.first b.row +ᶠ injection c.second d.second b.row
    -ᶠ whole b.item.demand.0 -ᶠ leaving c d b.row +ᶠ arriving c d b.row

module _ {M N : Type 0} (𝓜 : Meaning M) (𝓝 : Meaning N) where
  -- the dispatch meets the case
  pub record Meets (c : Case M N) (d : Dispatch) : Type 0 where
    pub first_allowed : All (λ (r : Row M). 𝓜.Allowed r.item (d.first r.row)) (rows c.first.machines)
    pub second_allowed : All (λ (r : Row N). 𝓝.Allowed r.item (d.second r.row)) (rows c.second.machines)
    pub balance : All (λ (b : Row Bus). Between (neg_ℤ c.tolerance) c.tolerance (mismatch c d b)) (rows c.buses)
    pub ratings : All (λ (r : Branch). T r.service → pos 0 <ℤ r.rating.0 → Between (neg_ℤ r.rating.0) r.rating.0 (flow c d r)) c.branches
    pub differences : All (λ (r : Branch). T r.service → Between r.angmin.0 r.angmax.0 (difference c d r)) c.branches
    pub angle_range : All (λ (b : Row Bus). Between (neg_ℤ angle_limit) angle_limit (angle c d b.row)) (rows c.buses)

  -- what the dispatch truly costs, and what a whole one is counted at
  unfoldable pub true_cost : Case M N → Dispatch → Fraction
  true_cost c d = true_cost_of 𝓜 c.first.machines d.first +ᶠ true_cost_of 𝓝 c.second.machines d.second

  unfoldable pub counted : Case M N → WholeDispatch → ℤ
  counted c d = counted_cost 𝓜 c.first.machines d.first +ℤ counted_cost 𝓝 c.second.machines d.second
