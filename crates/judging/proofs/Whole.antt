-- The quantities of the model at whole numbers: their sizes.
use Rattle.std.proofs.Common.{ℕ, zero, suc, eqb, ltb, ℤ, ◌-ℤ◌, ◌*ℤ◌, arith, lit<, w64, SFits}
use Rattle.measure.specs.Range.{Within}
use Rattle.measure.specs.Rows.{Row}
use Rattle.measure.proofs.Laws.{lin}
use Rattle.measure.proofs.Order.{product_within, kept-within, only-within}
use Rattle.measure.proofs.Sizes.{fits}
use Rattle.network.specs.Ranges.{Carried}
use Rattle.judging.specs.Whole.{kept_angle, kept_power, angle_of, difference_of, flow_of, outflow_of, given_at}
use Rattle.network.specs.declared.branch.Branch.{Branch}

pub angle_within : (n : ℕ) (θ : ℕ → ℤ) (i : ℕ) → Within 3200000 (angle_of n θ i)
angle_within n θ zero = omega (arith, lin)
angle_within n θ (suc i) = only-within 3200000 (ltb (suc i) n) (kept_angle (θ i)) (kept-within 3200000 (θ i))

pub record CarriedSizes (b δ s : ℤ) : Type 0 where
  pub way : SFits w64 (δ -ℤ s)
  pub flow : SFits w64 (b *ℤ (δ -ℤ s))
  pub within : Within 8000000000000 (b *ℤ (δ -ℤ s))

pub carried_sizes : (b δ s : ℤ) → Carried b δ s → CarriedSizes b δ s
carried_sizes b δ s h =
    let d : Within 8000000 (δ -ℤ s) = omega (arith, lin, h.difference, h.shift) in
    let p = product_within 1000000 8000000 b (δ -ℤ s) h.susceptance d in
    record { way = fits 8000000 (δ -ℤ s) (lit< tt) d; flow = fits 8000000000000 (b *ℤ (δ -ℤ s)) (lit< tt) p; within = p }

module _ (n : ℕ) (θ : ℕ → ℤ) (r : Branch) where
  pub difference_within : Within 6400000 (difference_of (angle_of n θ) r)
  difference_within =
      let a = angle_within n θ r.ends.from in
      let b = angle_within n θ r.ends.to in
      omega (arith, lin)

  pub carried_by : Carried r.susceptance (difference_of (angle_of n θ) r) r.shift.0
  carried_by = record { susceptance = omega (arith, lin, r.susceptible); difference = difference_within; shift = r.shifted }

  pub flow_within : Within 8000000000000 (flow_of (angle_of n θ) r)
  flow_within = only-within 8000000000000 r.service _ (carried_sizes _ _ _ carried_by).within

  pub outflow_within : (k : ℕ) → Within 16000000000000 (outflow_of (angle_of n θ) k r)
  outflow_within k =
      let f = flow_within in
      let a = only-within 8000000000000 (eqb r.ends.from k) (flow_of (angle_of n θ) r) f in
      let b = only-within 8000000000000 (eqb r.ends.to k) (flow_of (angle_of n θ) r) f in
      omega (arith, lin)

pub given_within : {M : Type 0} (place : ℕ → ℕ) (p : ℕ → ℤ) (n : ℕ) (r : Row M) → Within 100000000 (given_at place p n r)
given_within place p n r = only-within 100000000 (eqb (place r.row) n) (kept_power (p r.row)) (kept-within 100000000 (p r.row))
