use Rattle.std.proofs.Common.{false, not, pos, neg_ℤ, ap, ◌∙◌}
use Rattle.measure.specs.Range.{between}
use Rattle.measure.proofs.Sums.{row_got}
use Rattle.network.specs.View.{case_of}
use Rattle.judging.specs.Whole.{angle_of, unbalanced}
use Rattle.measure.proofs.Sizes.{gave}
use Rattle.judging.proofs.balance.Balance.is_unbalanced.Goals as goal

pub returns : goal.returns
returns g c =
    let s = c.args.self.now in
    let v = g.C.Column.value in
    let E = pos s.case.tolerance in
    row_got false (unbalanced (case_of s.case) (v s.first.now.column) (v s.second.now.column) (angle_of s.angles.buses (v s.angles.given.now.column))) s.case.buses.now c.args.row c.in-Some.bus.now _ c.in-Some.ensures.lookup.3
    (c.is_beyond.ensures ∙ ap (λ z. not (between (neg_ℤ E) E z)) (gave c.mismatch.type_inv c.mismatch.ensures))
