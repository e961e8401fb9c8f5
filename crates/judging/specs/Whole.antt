-- The quantities of the model at a dispatch in whole numbers. Powers and angles outside their ranges count as 0 here, so that no sum
-- overflows; a dispatch that has one is refused before it is judged further.
use Rattle.std.specs.Prelude.{ℕ, zero, suc, Bool, false, not, ◌&&◌, ℤ, pos, ◌+ℤ◌, ◌-ℤ◌, ◌*ℤ◌, neg_ℤ, ◌==◌, int_lt, nat_lt}
use Rattle.measure.specs.Range.{between, kept}
use Rattle.measure.specs.Rows.{Row, rows, total, only}
use Rattle.network.specs.declared.bus.Bus.{Bus}
use Rattle.network.specs.declared.branch.Branch.{Branch}
use Rattle.network.specs.Model.{Case, angle_limit}

-- an angle or a power, or 0 outside its range
abbrev pub kept_angle : ℤ → ℤ
kept_angle z = kept (neg_ℤ (pos 3200000)) (pos 3200000) z

abbrev pub kept_power : ℤ → ℤ
kept_power z = kept (neg_ℤ (pos 100000000)) (pos 100000000) z

-- the angle at the bus in each row, of n buses; θ i is that of row i + 1
abbrev pub angle_of : ℕ → (ℕ → ℤ) → ℕ → ℤ
angle_of n θ zero = pos 0
angle_of n θ (suc i) = only (nat_lt (suc i) n) (kept_angle (θ i))

abbrev pub difference_of : (ℕ → ℤ) → Branch → ℤ
difference_of θ r = θ r.ends.from -ℤ θ r.ends.to

-- what a branch carries, and what of it leaves the bus in row n, less what arrives there
abbrev pub flow_of : (ℕ → ℤ) → Branch → ℤ
flow_of θ r = only r.service (r.susceptance *ℤ (difference_of θ r -ℤ r.shift.0))

abbrev pub outflow_of : (ℕ → ℤ) → ℕ → Branch → ℤ
outflow_of θ n r = only (r.ends.from == n) (flow_of θ r) -ℤ only (r.ends.to == n) (flow_of θ r)

abbrev pub outflow_row : (ℕ → ℤ) → ℕ → Row Branch → ℤ
outflow_row θ n r = outflow_of θ n r.item

-- what a machine gives at the bus in row n
abbrev pub given_at : {M : Type 0} → (ℕ → ℕ) → (ℕ → ℤ) → ℕ → Row M → ℤ
given_at place p n r = only (place r.row == n) (kept_power (p r.row))

-- machines' power - demand - flows leaving + flows arriving
abbrev pub mismatch_of : {M N : Type 0} → Case M N → (ℕ → ℤ) → (ℕ → ℤ) → (ℕ → ℤ) → Row Bus → ℤ
mismatch_of {M} {N} c p₁ p₂ θ b =
    total (given_at c.first.place p₁ b.row) (rows c.first.machines) +ℤ total (given_at c.second.place p₂ b.row) (rows c.second.machines)
    -ℤ b.item.demand.0 -ℤ total (outflow_row θ b.row) (rows c.branches)

-- ---- the limits as tests
-- the bus in row i, not the reference, is given an angle outside the range
abbrev pub angle_beyond : (ℕ → ℤ) → ℕ → Bool
angle_beyond θ zero = false
angle_beyond θ (suc i) = not (between (neg_ℤ angle_limit) angle_limit (θ i))

-- a bus is out of balance
abbrev pub unbalanced : {M N : Type 0} → Case M N → (ℕ → ℤ) → (ℕ → ℤ) → (ℕ → ℤ) → Row Bus → Bool
unbalanced c p₁ p₂ θ b = not (between (neg_ℤ c.tolerance) c.tolerance (mismatch_of c p₁ p₂ θ b))

-- a branch in service carries more than its rating
abbrev pub overloaded : (ℕ → ℤ) → Branch → Bool
overloaded θ r = r.service && int_lt (pos 0) r.rating.0 && not (between (neg_ℤ r.rating.0) r.rating.0 (flow_of θ r))

-- a branch in service has an angle difference outside its limits
abbrev pub overstretched : (ℕ → ℤ) → Branch → Bool
overstretched θ r = r.service && not (between r.angmin.0 r.angmax.0 (difference_of θ r))

abbrev pub overloaded_row : (ℕ → ℤ) → Row Branch → Bool
overloaded_row θ r = overloaded θ r.item

abbrev pub overstretched_row : (ℕ → ℤ) → Row Branch → Bool
overstretched_row θ r = overstretched θ r.item
