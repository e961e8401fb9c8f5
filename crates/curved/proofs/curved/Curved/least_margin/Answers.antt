use Rattle.std.proofs.Common.{◌∙◌, lit<, w64, SFits}
use Rattle.std.proofs.lemmas.Int.{to_z-of_z}
use Rattle.measure.proofs.Sizes.{fits}
use Rattle.curved.proofs.Least.{least_low, least_high, least_inside}
use Rattle.curved.proofs.curved.Curved.least_margin.Goals as goal

pub returns-then-rise_at-ge0 : goal.returns-then-rise_at-ge0
returns-then-rise_at-ge0 c =
    let m = c.args.self.now in
    let e = c.less-net.ensures in
    let lo = fits 100000000 m.lo.0 (lit< tt) c.requires.limits.low in
    let hi = fits 100000000 m.hi.0 (lit< tt) c.requires.limits.high in
    let f : SFits w64 c.rise_at.result = record { sfits = c.rise_at.type_inv } in
    to_z-of_z w64 c.down_at.result (record { sfits = c.down_at.type_inv })
    ∙ least_low m c.args.q.value c.down_at.result
    (simp (c.rise_at.ensures, e.slope, e.square, to_z-of_z, lo) at (simp (to_z-of_z, f) at c.if-rise_at-ge0.true))
    (simp (e.fixed, e.slope, e.square, to_z-of_z, lo) at c.down_at.ensures)

pub returns-then-rise_at-le0 : goal.returns-then-rise_at-le0
returns-then-rise_at-le0 c =
    let m = c.args.self.now in
    let e = c.less-net.ensures in
    let lo = fits 100000000 m.lo.0 (lit< tt) c.requires.limits.low in
    let hi = fits 100000000 m.hi.0 (lit< tt) c.requires.limits.high in
    let f : SFits w64 c.rise_at.result = record { sfits = c.rise_at.type_inv } in
    let g : SFits w64 c.rise_at-else-rise_at-ge0.result = record { sfits = c.rise_at-else-rise_at-ge0.type_inv } in
    to_z-of_z w64 c.down_at-then-rise_at-le0.result (record { sfits = c.down_at-then-rise_at-le0.type_inv })
    ∙ least_high m c.args.q.value c.down_at-then-rise_at-le0.result
    (simp (c.rise_at.ensures, e.slope, e.square, to_z-of_z, lo) at (simp (to_z-of_z, f) at c.if-rise_at-ge0.false))
    (simp (c.rise_at-else-rise_at-ge0.ensures, e.slope, e.square, to_z-of_z, hi) at (simp (to_z-of_z, g) at c.if-rise_at-le0.true))
    (simp (e.fixed, e.slope, e.square, to_z-of_z, hi) at c.down_at-then-rise_at-le0.ensures)

pub returns-else-rise_at-le0 : goal.returns-else-rise_at-le0
returns-else-rise_at-le0 c =
    let m = c.args.self.now in
    let e = c.less-net.ensures in
    let lo = fits 100000000 m.lo.0 (lit< tt) c.requires.limits.low in
    let hi = fits 100000000 m.hi.0 (lit< tt) c.requires.limits.high in
    let f : SFits w64 c.rise_at.result = record { sfits = c.rise_at.type_inv } in
    let g : SFits w64 c.rise_at-else-rise_at-ge0.result = record { sfits = c.rise_at-else-rise_at-ge0.type_inv } in
    to_z-of_z w64 c.least_down.result (record { sfits = c.least_down.type_inv })
    ∙ least_inside m c.args.q.value c.least_down.result
    (simp (c.rise_at.ensures, e.slope, e.square, to_z-of_z, lo) at (simp (to_z-of_z, f) at c.if-rise_at-ge0.false))
    (simp (c.rise_at-else-rise_at-ge0.ensures, e.slope, e.square, to_z-of_z, hi) at (simp (to_z-of_z, g) at c.if-rise_at-le0.false))
    (simp (e.fixed, e.slope, e.square) at c.least_down.ensures)
