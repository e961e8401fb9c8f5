-- The network in whole numbers: each quantity of the model in units of 1 / D, from the angles θ by bus row and the powers p by machine row
-- in those units. A whole dispatch has D = 1.
use Rattle.std.proofs.Common.{◌≡◌, ℕ, zero, suc, ◌<◌, ◌≤◌, Bool, true, false, T, eqb, ltb, List, length, ℤ, pos, ◌+ℤ◌, ◌-ℤ◌, ◌*ℤ◌, refl, arith, ltb→lt}
use Rattle.measure.specs.Fraction.{Fraction, whole, ◌-ᶠ◌, ◌·ᶠ◌}
use Rattle.measure.specs.Rows.{Row, rows, total, only, onlyᶠ}
use Rattle.measure.proofs.Sums.{In, only-not}
use Rattle.measure.proofs.Scale.{Over, over_whole, over_zero, over_one, over_add, over_sub, over_times, over_only, over_total}
use Rattle.network.specs.declared.bus.Bus.{Bus}
use Rattle.network.specs.declared.branch.Branch.{Branch}
use Rattle.network.specs.Model.{Group, Case, Dispatch, WholeDispatch, in_fractions, angle, difference, flow, leaving, arriving, injection, mismatch}

-- ---- the quantities
-- the angle at the bus in row n of a table of that length, from the angles a of all buses but the reference
unfoldable pub angleᶻ : ℕ → (ℕ → ℤ) → ℕ → ℤ
angleᶻ size a zero = pos 0
angleᶻ size a (suc i) = only (ltb (suc i) size) (a i)

abbrev pub differenceᶻ : (ℕ → ℤ) → Branch → ℤ
differenceᶻ θ r = θ r.ends.from -ℤ θ r.ends.to

unfoldable pub flowᶻ : (ℕ → ℤ) → ℤ → Branch → ℤ
flowᶻ θ D r = only r.service (r.susceptance *ℤ (differenceᶻ θ r -ℤ r.shift.0 *ℤ D))

unfoldable pub leavingᶻ : List Branch → (ℕ → ℤ) → ℤ → ℕ → ℤ
leavingᶻ rs θ D n = total (λ (r : Branch). only (eqb r.ends.from n) (flowᶻ θ D r)) rs

unfoldable pub arrivingᶻ : List Branch → (ℕ → ℤ) → ℤ → ℕ → ℤ
arrivingᶻ rs θ D n = total (λ (r : Branch). only (eqb r.ends.to n) (flowᶻ θ D r)) rs

unfoldable pub injectionᶻ : {M : Type 0} → Group M → (ℕ → ℤ) → ℕ → ℤ
injectionᶻ {M} g p n = total (λ (r : Row M). only (eqb (g.place r.row) n) (p r.row)) (rows g.machines)

unfoldable pub mismatchᶻ : {M N : Type 0} → Case M N → (θ p₁ p₂ : ℕ → ℤ) → ℤ → Row Bus → ℤ
mismatchᶻ c θ p₁ p₂ D b =
    injectionᶻ c.first p₁ b.row +ℤ injectionᶻ c.second p₂ b.row
    -ℤ b.item.demand.0 *ℤ D -ℤ leavingᶻ c.branches θ D b.row +ℤ arrivingᶻ c.branches θ D b.row

-- the reference has the angle 0, and so has a row that the table lacks
pub angle-reference : (size : ℕ) (a : ℕ → ℤ) → angleᶻ size a 0 ≡ pos 0
unfolding angleᶻ
angle-reference size a = refl

pub angle_beyond : (size : ℕ) (a : ℕ → ℤ) (n : ℕ) → size ≤ n → angleᶻ size a n ≡ pos 0
unfolding angleᶻ
angle_beyond size a zero h = refl
angle_beyond size a (suc i) h = only-not (ltb (suc i) size) (a i) (λ t. let l = ltb→lt (suc i) size t in absurd (omega arith))

-- ---- each is the model's over D
-- every power of the group is a whole number of 1 / D
abbrev pub PowersOver : {M : Type 0} → ℕ → Group M → (ℕ → Fraction) → (ℕ → ℤ) → Type 0
PowersOver {M} D g p x = (r : Row M) → In r (rows g.machines) → Over D (p r.row) (x r.row)

module _ {M N : Type 0} (c : Case M N) (d : Dispatch) (D : ℕ) where
  -- every angle is a whole number of 1 / D
  abbrev pub AnglesOver : (ℕ → ℤ) → Type 0
  AnglesOver θ = (n : ℕ) → Over D (angle c d n) (θ n)

  pub over_angle : (a : ℕ → ℤ) → ((i : ℕ) → suc i < length c.buses → Over D (d.angles i) (a i)) → AnglesOver (angleᶻ (length c.buses) a)
  unfolding angle angleᶻ
  over_angle a h zero = over_zero D
  over_angle a h (suc i) = go (ltb (suc i) (length c.buses)) (λ t. h i (ltb→lt (suc i) (length c.buses) t))
    where
      go : (t : Bool) → (T t → Over D (d.angles i) (a i)) → Over D (onlyᶠ t (d.angles i)) (only t (a i))
      go true k = k tt
      go false k = over_zero D

  module _ (θ : ℕ → ℤ) (angles : AnglesOver θ) where
    pub over_difference : (r : Branch) → Over D (difference c d r) (differenceᶻ θ r)
    over_difference r = over_sub D (angle c d r.ends.from) (angle c d r.ends.to) (θ r.ends.from) (θ r.ends.to) (angles r.ends.from) (angles r.ends.to)

    pub over_flow : (r : Branch) → Over D (flow c d r) (flowᶻ θ (pos D) r)
    unfolding flow flowᶻ
    over_flow r =
        over_only D r.service (r.susceptance ·ᶠ (difference c d r -ᶠ whole r.shift.0)) (r.susceptance *ℤ (differenceᶻ θ r -ℤ r.shift.0 *ℤ pos D))
        (over_times D r.susceptance (difference c d r -ᶠ whole r.shift.0) (differenceᶻ θ r -ℤ r.shift.0 *ℤ pos D)
        (over_sub D (difference c d r) (whole r.shift.0) (differenceᶻ θ r) (r.shift.0 *ℤ pos D) (over_difference r) (over_whole D r.shift.0)))

    pub over_leaving : (n : ℕ) → Over D (leaving c d n) (leavingᶻ c.branches θ (pos D) n)
    unfolding leaving leavingᶻ
    over_leaving n = over_total D _ _ c.branches (λ r k. over_only D (eqb r.ends.from n) (flow c d r) (flowᶻ θ (pos D) r) (over_flow r))

    pub over_arriving : (n : ℕ) → Over D (arriving c d n) (arrivingᶻ c.branches θ (pos D) n)
    unfolding arriving arrivingᶻ
    over_arriving n = over_total D _ _ c.branches (λ r k. over_only D (eqb r.ends.to n) (flow c d r) (flowᶻ θ (pos D) r) (over_flow r))

pub over_injection : {M : Type 0} (D : ℕ) (g : Group M) (p : ℕ → Fraction) (x : ℕ → ℤ) → PowersOver D g p x → (n : ℕ) → Over D (injection g p n) (injectionᶻ g x n)
unfolding injection injectionᶻ
over_injection D g p x powers n = over_total D _ _ (rows g.machines) (λ r k. over_only D (eqb (g.place r.row) n) (p r.row) (x r.row) (powers r k))

module _ {M N : Type 0} (c : Case M N) (d : Dispatch) (D : ℕ) (θ p₁ p₂ : ℕ → ℤ) where
  pub over_mismatch : AnglesOver c d D θ → PowersOver D c.first d.first p₁ → PowersOver D c.second d.second p₂ → (b : Row Bus) → Over D (mismatch c d b) (mismatchᶻ c θ p₁ p₂ (pos D) b)
  unfolding mismatch mismatchᶻ
  over_mismatch angles first second b =
      over_add D _ _ _ _
      (over_sub D _ _ _ _
      (over_sub D _ _ _ _
      (over_add D _ _ _ _ (over_injection D c.first d.first p₁ first b.row) (over_injection D c.second d.second p₂ second b.row))
      (over_whole D b.item.demand.0))
      (over_leaving c d D θ angles b.row))
      (over_arriving c d D θ angles b.row)

-- ---- a whole dispatch, over 1
module _ {M N : Type 0} (c : Case M N) (d : WholeDispatch) where
  pub whole_angles : AnglesOver c (in_fractions d) 1 (angleᶻ (length c.buses) d.angles)
  whole_angles = over_angle c (in_fractions d) 1 d.angles (λ i h. over_one (d.angles i))

  pub whole_first : PowersOver 1 c.first (in_fractions d).first d.first
  whole_first r k = over_one (d.first r.row)

  pub whole_second : PowersOver 1 c.second (in_fractions d).second d.second
  whole_second r k = over_one (d.second r.row)
