-- One denominator for a whole dispatch, and for what else is given: then every power and every angle is a whole number over it.
use Rattle.std.proofs.Common.{ℕ, ◌≤◌, List, ◌++◌, map, length, ℤ, arith}
use Rattle.measure.specs.Fraction.{Fraction}
use Rattle.measure.specs.Rows.{Row, rows}
use Rattle.measure.proofs.Sums.{In}
use Rattle.measure.proofs.Scale.{Over, scaled, over_scaled, common, common-positive, divides_common, in_left, in_right, in_map, in_rows}
use Rattle.network.specs.declared.bus.Bus.{Bus}
use Rattle.network.specs.Model.{Group, Case, Dispatch}
use Rattle.network.proofs.Scaled.{angleᶻ, AnglesOver, PowersOver, over_angle}

-- the powers of a group
abbrev powers : {M : Type 0} → Group M → (ℕ → Fraction) → List Fraction
powers {M} g p = map (λ (r : Row M). p r.row) (rows g.machines)

module _ {M N : Type 0} (c : Case M N) (d : Dispatch) (more : List Fraction) where
  abbrev angles : List Fraction
  angles = map (λ (r : Row Bus). d.angles r.row) (rows c.buses)

  abbrev pub everything : List Fraction
  everything = more ++ (powers c.first d.first ++ (powers c.second d.second ++ angles))

  unfoldable pub denominator : ℕ
  denominator = common everything

  pub denominator_positive : 1 ≤ denominator
  unfolding denominator
  denominator_positive = common-positive everything

  -- the powers and the angles over it
  abbrev pub powerᶻ₁ : ℕ → ℤ
  powerᶻ₁ i = scaled denominator (d.first i)

  abbrev pub powerᶻ₂ : ℕ → ℤ
  powerᶻ₂ i = scaled denominator (d.second i)

  abbrev pub busᶻ : ℕ → ℤ
  busᶻ = angleᶻ (length c.buses) (λ i. scaled denominator (d.angles i))

  fits : (f : Fraction) → In f everything → Over denominator f (scaled denominator f)
  unfolding denominator
  fits f k = over_scaled (common everything) f (divides_common f everything k)

  pub more_over : (f : Fraction) → In f more → Over denominator f (scaled denominator f)
  more_over f k = fits f (in_left f more _ k)

  pub first_over : PowersOver denominator c.first d.first powerᶻ₁
  first_over r k =
      fits (d.first r.row) (in_right _ more _ (in_left _ (powers c.first d.first) _ (in_map (λ (r : Row M). d.first r.row) r (rows c.first.machines) k)))

  pub second_over : PowersOver denominator c.second d.second powerᶻ₂
  second_over r k =
      fits (d.second r.row) (in_right _ more _ (in_right _ (powers c.first d.first) _ (in_left _ (powers c.second d.second) angles (in_map (λ (r : Row N). d.second r.row) r (rows c.second.machines) k))))

  pub angles_over : AnglesOver c d denominator busᶻ
  angles_over =
      over_angle c d denominator (λ i. scaled denominator (d.angles i))
      (λ i h. fits (d.angles i) (in_right _ more _ (in_right _ (powers c.first d.first) _ (in_right _ (powers c.second d.second) angles (in_rows d.angles 0 c.buses i (omega arith) (omega arith))))))
