use Rattle.std.proofs.Common.{arith}
use Rattle.measure.proofs.Laws.{lin}
use Rattle.measure.proofs.Sizes.{gave}
use Rattle.judging.proofs.Whole.{flow_within}
use Rattle.judging.proofs.flows.Flows.outflow_by.Goals as goal

pub leaving-requires : goal.leaving-requires
leaving-requires g c =
    let w = flow_within c.args.self.now.angles.buses (g.C.Column.value c.args.self.now.angles.given.now.column) c.args.branch.now in
    rw (gave c.flow.type_inv c.flow.ensures) (omega (arith, lin, w.0), omega (arith, lin, w.1))
