use Rattle.std.proofs.Common.{pos}
use Rattle.measure.proofs.Sums.{row_got}
use Rattle.judging.specs.Whole.{angle_of, outflow_row}
use Rattle.measure.proofs.Sizes.{gave}
use Rattle.judging.proofs.flows.Flows.outflow_in.Goals as goal

pub returns : goal.returns
returns g c =
    let s = c.args.self.now in
    row_got (pos 0) (outflow_row (angle_of s.angles.buses (g.C.Column.value s.angles.given.now.column)) c.args.bus) s.branches.now c.args.row c.in-Some.branch.now _ c.in-Some.ensures.lookup.3
    (gave c.outflow_by.type_inv c.outflow_by.ensures)
