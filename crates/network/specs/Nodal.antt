-- The nodal equation of the DC model in matrix form: B_bus Θ + P_shift + P_d - C_g P_g, with the connection matrices written out.
-- C_f and C_t have a row for each branch and a column for each bus; C_g has a row for each bus and a column for each machine.
use Rattle.std.specs.Prelude.{ℕ, Bool, ℤ, pos, ◌-ℤ◌, ◌*ℤ◌, neg_ℤ, ◌==◌}
use Rattle.measure.specs.Fraction.{Fraction, whole, ◌+ᶠ◌, ◌-ᶠ◌, ◌·ᶠ◌}
use Rattle.measure.specs.Rows.{Row, rows, total, totalᶠ, only}
use Rattle.network.specs.declared.bus.Bus.{Bus}
use Rattle.network.specs.declared.branch.Branch.{Branch}
use Rattle.network.specs.Model.{Group, Case, Dispatch, angle}

-- 1 where the test passes, else 0
abbrev pub one_if : Bool → ℤ
one_if t = only t (pos 1)

-- the entries of C_f and C_t for a branch and a bus, and of C_f - C_t
abbrev pub from_entry : Branch → ℕ → ℤ
from_entry r n = one_if (r.ends.from == n)

abbrev pub to_entry : Branch → ℕ → ℤ
to_entry r n = one_if (r.ends.to == n)

abbrev pub incidence : Branch → ℕ → ℤ
incidence r n = from_entry r n -ℤ to_entry r n

-- the entry of C_g for a bus and a machine
abbrev pub machine_entry : {M : Type 0} → Group M → ℕ → Row M → ℤ
machine_entry g n r = one_if (g.place r.row == n)

-- b_i, which is 0 for a branch out of service
abbrev pub susceptance_of : Branch → ℤ
susceptance_of r = only r.service r.susceptance

module _ {M N : Type 0} (c : Case M N) (d : Dispatch) where
  -- the row of B_f Θ for a branch: b_i × Σ over buses j of (C_f - C_t)(i, j) × Θ_j
  unfoldable pub from_flow : Branch → Fraction
  from_flow r = susceptance_of r ·ᶠ totalᶠ (λ (b : Row Bus). incidence r b.row ·ᶠ angle c d b.row) (rows c.buses)

  -- the row of B_bus Θ for a bus: Σ over branches i of (C_f - C_t)(i, n) × (B_f Θ)_i
  unfoldable pub bus_row : ℕ → Fraction
  bus_row n = totalᶠ (λ (r : Branch). incidence r n ·ᶠ from_flow r) c.branches

  -- the row of P_shift for a bus: Σ over branches i of (C_f - C_t)(i, n) × (- b_i × shift_i)
  unfoldable pub shift_row : ℕ → ℤ
  shift_row n = total (λ (r : Branch). incidence r n *ℤ neg_ℤ (susceptance_of r *ℤ r.shift.0)) c.branches

-- the row of C_g P_g for a bus, over one group
unfoldable pub injection_row : {M : Type 0} → Group M → (ℕ → Fraction) → ℕ → Fraction
injection_row {M} g p n = totalᶠ (λ (r : Row M). machine_entry g n r ·ᶠ p r.row) (rows g.machines)

-- B_bus Θ + P_shift + P_d - C_g P_g at a bus
unfoldable pub nodal : {M N : Type 0} → Case M N → Dispatch → Row Bus → Fraction
nodal c d b =
    bus_row c d b.row +ᶠ whole (shift_row c d b.row) +ᶠ whole b.item.demand.0
    -ᶠ (injection_row c.first d.first b.row +ᶠ injection_row c.second d.second b.row)
