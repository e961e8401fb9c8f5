use Rattle.std.proofs.Common.{false}
use Rattle.measure.proofs.Sums.{row_got}
use Rattle.judging.specs.Whole.{angle_of, overstretched_row}
use Rattle.judging.proofs.flows.Flows.is_overstretched.Goals as goal

pub returns : goal.returns
returns g c =
    let s = c.args.self.now in
    row_got false (overstretched_row (angle_of s.angles.buses (g.C.Column.value s.angles.given.now.column))) s.branches.now c.args.row c.in-Some.branch.now _ c.in-Some.ensures.lookup.3 c.breaks_limits.ensures
