-- Each number on the way to a cost or a margin fits 64 bits.
use Rattle.std.proofs.Common.{pos, ◌+ℤ◌, ◌*ℤ◌, neg_ℤ, ℤ, arith, lit<, w64, SFits}
use Rattle.measure.specs.Range.{Within, floor_div}
use Rattle.measure.proofs.Laws.{lin}
use Rattle.measure.proofs.Order.{product_within}
use Rattle.measure.proofs.Sizes.{fits, product_fits}
use Rattle.measure.proofs.Quotient.{floor_div-within}
use Rattle.machine.specs.declared.limits.Power.{Power}
use Rattle.curved.specs.declared.quadratic.Quadratic.{Quadratic}
use Rattle.curved.specs.Forms.{square_within}

module _ (f : Quadratic) where
  coefficient : Within 500 f.c2
  coefficient = omega (arith, lin, f.convex.0, f.convex.1)

  fixed_within : Within 100000000000000 (pos 1000000 *ℤ f.c0)
  fixed_within = product_within 1000000 100000000 (pos 1000000) f.c0 (omega (arith, lin)) f.fixed

  -- its own numbers
  pub record Own : Type 0 where
    pub c0 : SFits w64 f.c0
    pub slope : SFits w64 f.slope
    pub c2 : SFits w64 f.c2
    pub fixed : SFits w64 (pos 1000000 *ℤ f.c0)

  pub own : Own
  own = record {
    c0 = fits 100000000 f.c0 (lit< tt) f.fixed;
    slope = fits 2000000 f.slope (lit< tt) f.sloped;
    c2 = fits 500 f.c2 (lit< tt) coefficient;
    fixed = fits 100000000000000 (pos 1000000 *ℤ f.c0) (lit< tt) fixed_within;
  }

  -- at the power where it is least
  abbrev lowest : ℤ
  lowest = floor_div (neg_ℤ (pos 250000 *ℤ f.slope *ℤ f.slope)) f.c2

  pub record Least : Type 0 where
    pub once : SFits w64 (pos 250000 *ℤ f.slope)
    pub twice : SFits w64 (pos 250000 *ℤ f.slope *ℤ f.slope)
    pub minus : SFits w64 (neg_ℤ (pos 250000 *ℤ f.slope *ℤ f.slope))
    pub lowest_fits : SFits w64 lowest
    pub total : SFits w64 (pos 1000000 *ℤ f.c0 +ℤ lowest)

  pub least : Least
  least =
      let a = fixed_within in
      let s = product_within 250000 2000000 (pos 250000) f.slope (omega (arith, lin)) f.sloped in
      let t = product_within 500000000000 2000000 (pos 250000 *ℤ f.slope) f.slope s f.sloped in
      let u : Within 1000000000000000000 (neg_ℤ (pos 250000 *ℤ f.slope *ℤ f.slope)) = omega (arith, lin) in
      let k = floor_div-within 1000000000000000000 (neg_ℤ (pos 250000 *ℤ f.slope *ℤ f.slope)) f.c2 f.convex.0 u in
      record {
        once = fits 500000000000 (pos 250000 *ℤ f.slope) (lit< tt) s;
        twice = fits 1000000000000000000 (pos 250000 *ℤ f.slope *ℤ f.slope) (lit< tt) t;
        minus = fits 1000000000000000000 (neg_ℤ (pos 250000 *ℤ f.slope *ℤ f.slope)) (lit< tt) u;
        lowest_fits = fits 1000000000000000000 lowest (lit< tt) k;
        total = fits 1000100000000000000 (pos 1000000 *ℤ f.c0 +ℤ lowest) (lit< tt) (omega (arith, lin));
      }

  -- at the power p
  module _ (p : Power) where
    pub record At : Type 0 where
      pub watts : SFits w64 p.watts
      pub along : SFits w64 (f.slope *ℤ p.watts)
      pub line : Within 300000000000000 (pos 1000000 *ℤ f.c0 +ℤ f.slope *ℤ p.watts)
      pub line_fits : SFits w64 (pos 1000000 *ℤ f.c0 +ℤ f.slope *ℤ p.watts)
      pub once : SFits w64 (f.c2 *ℤ p.watts)
      pub square : Within 5000000000000000000 (f.c2 *ℤ p.watts *ℤ p.watts)
      pub square_fits : SFits w64 (f.c2 *ℤ p.watts *ℤ p.watts)
      pub steep : SFits w64 (pos 1000000 *ℤ f.slope)
      pub twice : SFits w64 (pos 2 *ℤ f.c2)
      pub bend : SFits w64 (pos 2 *ℤ f.c2 *ℤ p.watts)
      pub rise : SFits w64 (pos 1000000 *ℤ f.slope +ℤ pos 2 *ℤ f.c2 *ℤ p.watts)

    pub at : At
    at =
        let a = fixed_within in
        let b = product_within 2000000 100000000 f.slope p.watts f.sloped p.ok in
        let l : Within 300000000000000 (pos 1000000 *ℤ f.c0 +ℤ f.slope *ℤ p.watts) = omega (arith, lin) in
        let s = square_within f.c2 p.watts coefficient p.ok in
        let d = product_within 1000000 2000000 (pos 1000000) f.slope (omega (arith, lin)) f.sloped in
        let t = product_within 2 500 (pos 2) f.c2 (omega (arith, lin)) coefficient in
        let e = product_within 1000 100000000 (pos 2 *ℤ f.c2) p.watts t p.ok in
        record {
          watts = fits 100000000 p.watts (lit< tt) p.ok;
          along = fits 200000000000000 (f.slope *ℤ p.watts) (lit< tt) b;
          line = l;
          line_fits = fits 300000000000000 (pos 1000000 *ℤ f.c0 +ℤ f.slope *ℤ p.watts) (lit< tt) l;
          once = product_fits 500 100000000 f.c2 p.watts (lit< tt) coefficient p.ok;
          square = s;
          square_fits = fits 5000000000000000000 (f.c2 *ℤ p.watts *ℤ p.watts) (lit< tt) s;
          steep = fits 2000000000000 (pos 1000000 *ℤ f.slope) (lit< tt) d;
          twice = fits 1000 (pos 2 *ℤ f.c2) (lit< tt) t;
          bend = fits 100000000000 (pos 2 *ℤ f.c2 *ℤ p.watts) (lit< tt) e;
          rise = fits 2100000000000 (pos 1000000 *ℤ f.slope +ℤ pos 2 *ℤ f.c2 *ℤ p.watts) (lit< tt) (omega (arith, lin));
        }
