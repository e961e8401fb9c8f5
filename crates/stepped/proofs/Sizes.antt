-- Each number on the way to a cost or a margin fits 64 bits.
use Rattle.std.proofs.Common.{ℤ, ◌+ℤ◌, ◌-ℤ◌, ◌*ℤ◌, arith, lit<, w64, SFits}
use Rattle.measure.specs.Range.{Within}
use Rattle.measure.proofs.Laws.{lin}
use Rattle.measure.proofs.Order.{product_within}
use Rattle.measure.proofs.Sizes.{fits}
use Rattle.machine.specs.declared.limits.Power.{Power}
use Rattle.stepped.specs.declared.piecewise.Line.{Line}

-- the cost on a line
module _ (l : Line) (y : Power) where
  pub record LineSizes : Type 0 where
    pub cost : SFits w64 l.cost
    pub from : SFits w64 l.from.watts
    pub slope : SFits w64 l.slope
    pub watts : SFits w64 y.watts
    pub way : SFits w64 (y.watts -ℤ l.from.watts)
    pub product : SFits w64 (l.slope *ℤ (y.watts -ℤ l.from.watts))
    pub total : SFits w64 (l.cost +ℤ l.slope *ℤ (y.watts -ℤ l.from.watts))
    pub within : Within 500000000000000 (l.cost +ℤ l.slope *ℤ (y.watts -ℤ l.from.watts))

  pub line_sizes : LineSizes
  line_sizes =
      let c = l.carried in
      let p = l.from.ok in
      let h = y.ok in
      let b : Within 300000000000000 l.cost = omega (arith, lin) in
      let d : Within 200000000 (y.watts -ℤ l.from.watts) = omega (arith, lin) in
      let t = product_within 1000000 200000000 l.slope (y.watts -ℤ l.from.watts) l.sloped d in
      let u : Within 500000000000000 (l.cost +ℤ l.slope *ℤ (y.watts -ℤ l.from.watts)) = omega (arith, lin) in
      record {
        cost = fits 300000000000000 l.cost (lit< tt) b;
        from = fits 100000000 l.from.watts (lit< tt) p;
        slope = fits 1000000 l.slope (lit< tt) l.sloped;
        watts = fits 100000000 y.watts (lit< tt) h;
        way = fits 200000000 (y.watts -ℤ l.from.watts) (lit< tt) d;
        product = fits 200000000000000 (l.slope *ℤ (y.watts -ℤ l.from.watts)) (lit< tt) t;
        total = fits 500000000000000 (l.cost +ℤ l.slope *ℤ (y.watts -ℤ l.from.watts)) (lit< tt) u;
        within = u;
      }

pub net-fits : (w q y : ℤ) → Within 500000000000000 w → Within 1000000 q → Within 100000000 y → SFits w64 (w -ℤ q *ℤ y)
net-fits w q y h k l =
    let t = product_within 1000000 100000000 q y k l in
    fits 600000000000000 (w -ℤ q *ℤ y) (lit< tt) (omega (arith, lin))
