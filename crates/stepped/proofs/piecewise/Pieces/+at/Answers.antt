use Rattle.std.proofs.Common.{pos, ◌*ℤ◌, sym, ◌∙◌, lit<, w64}
use lib.Signed.{le_z}
use Rattle.std.proofs.lemmas.Int.{to_z-of_z}
use Rattle.std.proofs.lemmas.Bool.{cond-true}
use Rattle.measure.proofs.Laws.{mul_one}
use Rattle.measure.proofs.Sizes.{fits}
use Rattle.stepped.proofs.Slices.{line-whole, walk_last, walk_more}
use Rattle.stepped.specs.Piecewise.{powers_of}
use Rattle.stepped.proofs.piecewise.Pieces.+at.Goals as goal

pub returns-in_default : goal.returns-in_default
returns-in_default t c =
    let l = c.args.self.line in
    to_z-of_z w64 c.at.result (record { sfits = c.at.type_inv })
    ∙ line-whole l.cost l.from.watts l.slope c.args.y.watts c.at.result c.at.ensures.value
    ∙ walk_last l.cost l.from.watts l.slope (powers_of c.args.self.points.now) c.args.self.slopes.now c.args.y.watts (pos 1) c.in_default.ensures

pub returns-then-y-next : goal.returns-then-y-next
returns-then-y-next t c =
    let l = c.args.self.line in
    let n = c.in-Some.next in
    let e = c.in-Some.ensures in
    let y = fits 100000000 c.args.y.watts (lit< tt) c.args.y.ok in
    let k = fits 100000000 n.line.from.watts (lit< tt) n.line.from.ok in
    to_z-of_z w64 c.at-then-y-next.result (record { sfits = c.at-then-y-next.type_inv })
    ∙ line-whole l.cost l.from.watts l.slope c.args.y.watts c.at-then-y-next.result c.at-then-y-next.ensures.value
    ∙ sym (walk_more l.cost l.from.watts l.slope (powers_of c.args.self.points.now) c.args.self.slopes.now n.line.cost n.line.from.watts n.line.slope (powers_of n.points.now) n.slopes.now e.0 e.1 e.2 c.args.y.watts (pos 1)
    ∙ cond-true (le_z c.args.y.watts (n.line.from.watts *ℤ pos 1)) _ _ (simp mul_one (simp (to_z-of_z, y, k) at c.if-y-next.true)))
