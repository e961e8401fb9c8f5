-- Price lists and their floors.
use Rattle.std.specs.Prelude.{◌≡◌, ℕ, ◌<◌, cond, T, List, [], ◌∷◌, length, ℤ, pos, ◌+ℤ◌, ◌-ℤ◌, ◌*ℤ◌, ◌==◌, nat_lt}
use Rattle.std.specs.Int.Signed.{non_neg}
use Rattle.measure.specs.Range.{Within, ∣◌∣}
use Rattle.measure.specs.Rows.{Row, rows, total, only, All}
use Rattle.machine.specs.Meaning.{Meaning}
use Rattle.machine.specs.Group.{total_margins}
use Rattle.network.specs.declared.bus.Bus.{Bus}
use Rattle.network.specs.declared.branch.Branch.{Branch}
use Rattle.network.specs.Model.{Case, angle_limit}

-- a price for each bus, and a congestion price and an angle price for each branch, by row
pub record Prices : Type 0 where
  pub bus : ℕ → ℤ
  pub congestion : ℕ → ℤ
  pub angle : ℕ → ℤ

-- all rows but the first
abbrev pub others : {X : Type 0} → List X → List X
others [] = []
others (x ∷ xs) = xs

module _ {M N : Type 0} (c : Case M N) (q : Prices) where
  -- L: the price at the bus in that row; 0 at a row that the case lacks
  unfoldable pub price : ℕ → ℤ
  price i = only (nat_lt i (length c.buses)) (q.bus i)

  -- k = b × (L at from - L at to + μ)
  unfoldable pub weight : Row Branch → ℤ
  weight r = r.item.susceptance *ℤ (price r.item.ends.from -ℤ price r.item.ends.to +ℤ q.congestion r.row)

  -- k + ν of a branch in service
  unfoldable pub pull : Row Branch → ℤ
  pull r = only r.item.service (weight r +ℤ q.angle r.row)

  -- the sum of k + ν over branches leaving the bus - the same over branches arriving
  unfoldable pub residue : ℕ → ℤ
  residue n =
      total (λ (r : Row Branch). only (r.item.ends.from == n) (pull r)) (rows c.branches)
      -ℤ total (λ (r : Row Branch). only (r.item.ends.to == n) (pull r)) (rows c.branches)

  -- H = ν × dmax if ν ≥ 0, else ν × dmin
  unfoldable pub angle_charge : Row Branch → ℤ
  angle_charge r =
      cond (non_neg (q.angle r.row)) (q.angle r.row *ℤ r.item.angmax.0) (q.angle r.row *ℤ r.item.angmin.0)

  -- k × s + |μ| × F + H of a branch in service
  unfoldable pub branch_charge : Row Branch → ℤ
  branch_charge r =
      only r.item.service (weight r *ℤ r.item.shift.0 +ℤ ∣ q.congestion r.row ∣ *ℤ r.item.rating.0 +ℤ angle_charge r)

  -- The list keeps its ranges, has no congestion price on a branch in service without a rating, and no weight or residue that is too large.
  pub record LawfulList : Type 0 where
    pub bus_range : (i : ℕ) → i < length c.buses → Within 1000000 (q.bus i)
    pub congestion_range : (i : ℕ) → i < length c.branches → Within 1000000 (q.congestion i)
    pub angle_range : (i : ℕ) → i < length c.branches → Within 100000000 (q.angle i)
    pub unrated_free : All (λ (r : Row Branch). T r.item.service → r.item.rating.0 ≡ pos 0 → q.congestion r.row ≡ pos 0) (rows c.branches)
    pub weights : All (λ (r : Row Branch). T r.item.service → Within 10000000000 (weight r)) (rows c.branches)
    pub residues : All (λ (b : Row Bus). Within 1000000000 (residue b.row)) (rows c.buses)

module _ {M N : Type 0} (𝓜 : Meaning M) (𝓝 : Meaning N) where
  -- The floor: margins at the prices of the machines' buses + prices × demands - tolerance × sizes of the prices - what the branches in
  -- service are charged - the angle limit × sizes of the residues of all buses but the reference.
  unfoldable pub floor : Case M N → Prices → ℤ
  floor c q =
      total_margins 𝓜 c.first.machines (λ i. price c q (c.first.place i))
      +ℤ total_margins 𝓝 c.second.machines (λ i. price c q (c.second.place i))
      +ℤ total (λ (b : Row Bus). price c q b.row *ℤ b.item.demand.0) (rows c.buses)
      -ℤ c.tolerance *ℤ total (λ (b : Row Bus). ∣ price c q b.row ∣) (rows c.buses)
      -ℤ total (branch_charge c q) (rows c.branches)
      -ℤ angle_limit *ℤ total (λ (b : Row Bus). ∣ residue c q b.row ∣) (others (rows c.buses))
