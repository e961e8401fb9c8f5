use Rattle.std.proofs.Common.{refl, arith}
use Rattle.std.proofs.lemmas.Result.{err_from_is_err_and}
use Rattle.panel.proofs.Judging.{judged_dispatch, missing_dispatch}
use Rattle.network.specs.View.{case_of}
use Rattle.panel.proofs.panel.Panel.judge.Goals as goal

pub returns-in_err-cost : goal.returns-in_err-cost
returns-in_err-cost g c =
    let p = err_from_is_err_and c.from_residual-in_err-cost.result c.from_residual-in_err-cost.ensures.1 in
    rw (p.1, p.2)
    (missing_dispatch g.M.Machine.meaning g.N.Machine.meaning c.args.self.now c.args.words.now _ _ _ c.in_ok-dispatch.dispatch c.first_count-first.ensures (omega arith) refl c.in_ok-dispatch.ensures (case_of c.case.result) c.case.ensures
    c.in_err-cost.field-0.0 c.in_err-cost.ensures)

pub returns : goal.returns
returns g c =
    judged_dispatch g.M.Machine.meaning g.N.Machine.meaning c.args.self.now c.args.words.now _ _ _ c.in_ok-dispatch.dispatch c.first_count-first.ensures (omega arith) refl c.in_ok-dispatch.ensures (case_of c.case.result) c.case.ensures
    c.in_ok-cost.cost c.in_ok-cost.ensures
