use Rattle.std.proofs.Common.{sym, ◌∙◌, ap₂, lit<, w64, SFits}
use lib.Signed.{le_z}
use Rattle.std.specs.Int.{int_min}
use Rattle.std.proofs.lemmas.Int.{to_z-of_z}
use Rattle.std.proofs.lemmas.Bool.{cond-true, cond-false}
use Rattle.measure.proofs.Sizes.{fits}
use Rattle.stepped.proofs.Slices.{least_last, least_more}
use Rattle.stepped.specs.Piecewise.{powers_of}
use Rattle.stepped.proofs.piecewise.Pieces.+least.Goals as goal

pub returns-in_default : goal.returns-in_default
returns-in_default t c =
    let l = c.args.self.line in
    let fa : SFits w64 c.net_at-at_a.result = record { sfits = c.net_at-at_a.type_inv } in
    let fb : SFits w64 c.net_at-at_b.result = record { sfits = c.net_at-at_b.type_inv } in
    to_z-of_z w64 c.min.result (record { sfits = c.min.type_inv })
    ∙ simp (to_z-of_z, fa, fb) at c.min.ensures.value
    ∙ ap₂ int_min c.net_at-at_a.ensures c.net_at-at_b.ensures
    ∙ least_last l.cost l.from.watts l.slope (powers_of c.args.self.points.now) c.args.self.slopes.now c.args.a.watts c.args.b.watts c.args.q.value c.in_default.ensures

pub returns-then-b-bend : goal.returns-then-b-bend
returns-then-b-bend t c =
    let l = c.args.self.line in
    let n = c.in-Some.next in
    let e = c.in-Some.ensures in
    let b = fits 100000000 c.args.b.watts (lit< tt) c.args.b.ok in
    let k = fits 100000000 n.line.from.watts (lit< tt) n.line.from.ok in
    let fa : SFits w64 c.net_at-at_a.result = record { sfits = c.net_at-at_a.type_inv } in
    let fb : SFits w64 c.net_at-at_b.result = record { sfits = c.net_at-at_b.type_inv } in
    to_z-of_z w64 c.min-then-b-bend.result (record { sfits = c.min-then-b-bend.type_inv })
    ∙ simp (to_z-of_z, fa, fb) at c.min-then-b-bend.ensures.value
    ∙ ap₂ int_min c.net_at-at_a.ensures c.net_at-at_b.ensures
    ∙ sym (least_more l.cost l.from.watts l.slope (powers_of c.args.self.points.now) c.args.self.slopes.now n.line.cost n.line.from.watts n.line.slope (powers_of n.points.now) n.slopes.now e.0 e.1 e.2 c.args.a.watts c.args.b.watts c.args.q.value
    ∙ cond-true (le_z c.args.b.watts n.line.from.watts) _ _ (simp (to_z-of_z, b, k) at c.if-b-bend.true))

pub returns-then-bend-a : goal.returns-then-bend-a
returns-then-bend-a t c =
    let l = c.args.self.line in
    let n = c.in-Some.next in
    let e = c.in-Some.ensures in
    let a = fits 100000000 c.args.a.watts (lit< tt) c.args.a.ok in
    let b = fits 100000000 c.args.b.watts (lit< tt) c.args.b.ok in
    let k = fits 100000000 n.line.from.watts (lit< tt) n.line.from.ok in
    to_z-of_z w64 c.least.result (record { sfits = c.least.type_inv })
    ∙ c.least.ensures
    ∙ sym (least_more l.cost l.from.watts l.slope (powers_of c.args.self.points.now) c.args.self.slopes.now n.line.cost n.line.from.watts n.line.slope (powers_of n.points.now) n.slopes.now e.0 e.1 e.2 c.args.a.watts c.args.b.watts c.args.q.value
    ∙ cond-false (le_z c.args.b.watts n.line.from.watts) _ _ (simp (to_z-of_z, b, k) at c.if-b-bend.false)
    ∙ cond-true (le_z n.line.from.watts c.args.a.watts) _ _ (simp (to_z-of_z, a, k) at c.if-bend-a.true))

pub returns-else-bend-a : goal.returns-else-bend-a
returns-else-bend-a t c =
    let l = c.args.self.line in
    let n = c.in-Some.next in
    let e = c.in-Some.ensures in
    let a = fits 100000000 c.args.a.watts (lit< tt) c.args.a.ok in
    let b = fits 100000000 c.args.b.watts (lit< tt) c.args.b.ok in
    let k = fits 100000000 n.line.from.watts (lit< tt) n.line.from.ok in
    let fa : SFits w64 c.net_at-at_a.result = record { sfits = c.net_at-at_a.type_inv } in
    let fr : SFits w64 c.least-else-bend-a.result = record { sfits = c.least-else-bend-a.type_inv } in
    to_z-of_z w64 c.min-else-bend-a.result (record { sfits = c.min-else-bend-a.type_inv })
    ∙ simp (to_z-of_z, fa, fr) at c.min-else-bend-a.ensures.value
    ∙ ap₂ int_min c.net_at-at_a.ensures c.least-else-bend-a.ensures
    ∙ sym (least_more l.cost l.from.watts l.slope (powers_of c.args.self.points.now) c.args.self.slopes.now n.line.cost n.line.from.watts n.line.slope (powers_of n.points.now) n.slopes.now e.0 e.1 e.2 c.args.a.watts c.args.b.watts c.args.q.value
    ∙ cond-false (le_z c.args.b.watts n.line.from.watts) _ _ (simp (to_z-of_z, b, k) at c.if-b-bend.false)
    ∙ cond-false (le_z n.line.from.watts c.args.a.watts) _ _ (simp (to_z-of_z, a, k) at c.if-bend-a.false))
