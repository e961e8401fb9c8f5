use Rattle.std.proofs.Common.{◌<◌, sym, subst}
use Rattle.std.proofs.lemmas.Result.{err_from_is_err_and}
use Rattle.network.specs.View.{case_of, dispatch_of}
use Rattle.judging.proofs.Verdicts.{out_of_range}
use Rattle.judging.proofs.Findings as found
use Rattle.judging.proofs.judge.judge.Goals as goal

pub returns-in-Some : goal.returns-in-Some
returns-in-Some g c =
    let h = c.in-Some.ensures in
    let e = c.bus_count.ensures in
    out_of_range g.M.Machine.meaning g.N.Machine.meaning g.met.M.Machine.lawful g.met.N.Machine.lawful (case_of c.args.case.now) (dispatch_of g.C.Column.value c.args.dispatch.now) c.in-Some.row
    ((subst (λ n. c.in-Some.row < n) e h.0.0, h.0.1), λ j l b. h.1 j l (subst (λ n. j < n) (sym e) b.0, b.1))

pub returns-in_err-cost : goal.returns-in_err-cost
returns-in_err-cost g c =
    let p = err_from_is_err_and c.from_residual.result c.from_residual.ensures.1 in
    rw (p.1, p.2)
    (found.power_found g.M.Machine.meaning g.N.Machine.meaning g.met.M.Machine.lawful g.met.N.Machine.lawful c.args.case.now (dispatch_of g.C.Column.value c.args.dispatch.now) c.bus_count.result c.bus_count.ensures c.in_default.ensures c.in_err-cost.field-0.0 c.in_err-cost.ensures)

pub returns-in-Some-unbalanced : goal.returns-in-Some-unbalanced
returns-in-Some-unbalanced g c =
    found.unbalanced_found g.M.Machine.meaning g.N.Machine.meaning g.met.M.Machine.lawful g.met.N.Machine.lawful c.args.case.now (dispatch_of g.C.Column.value c.args.dispatch.now) c.bus_count.result c.bus_count.ensures c.in_default.ensures c.in_ok-cost.ensures.0 c.in-Some-unbalanced.row c.in-Some-unbalanced.ensures.0

pub returns-in-Some-overloaded : goal.returns-in-Some-overloaded
returns-in-Some-overloaded g c =
    let 𝓜 = g.M.Machine.meaning in
    let 𝓝 = g.N.Machine.meaning in
    let h = g.met.M.Machine.lawful in
    let k = g.met.N.Machine.lawful in
    let v = c.args.case.now in
    let d = dispatch_of g.C.Column.value c.args.dispatch.now in
    let n = c.bus_count.result in
    let e = c.bus_count.ensures in
    let r = c.in_default.ensures in
    let a = c.in_ok-cost.ensures.0 in
    found.overload_found 𝓜 𝓝 h k v d n e r a c.in-Some-overloaded.row
    (found.balanced 𝓜 𝓝 h k v d n e r a c.in_default-unbalanced.ensures) c.in-Some-overloaded.ensures.0

pub returns-in-Some-overstretched : goal.returns-in-Some-overstretched
returns-in-Some-overstretched g c =
    let 𝓜 = g.M.Machine.meaning in
    let 𝓝 = g.N.Machine.meaning in
    let h = g.met.M.Machine.lawful in
    let k = g.met.N.Machine.lawful in
    let v = c.args.case.now in
    let d = dispatch_of g.C.Column.value c.args.dispatch.now in
    let n = c.bus_count.result in
    let e = c.bus_count.ensures in
    let r = c.in_default.ensures in
    let a = c.in_ok-cost.ensures.0 in
    found.stretch_found 𝓜 𝓝 h k v d n e r a c.in-Some-overstretched.row
    (found.balanced 𝓜 𝓝 h k v d n e r a c.in_default-unbalanced.ensures)
    (found.rated 𝓜 𝓝 h k v d n e r c.in_default-overloaded.ensures) c.in-Some-overstretched.ensures.0

pub returns : goal.returns
returns g c =
    let 𝓜 = g.M.Machine.meaning in
    let 𝓝 = g.N.Machine.meaning in
    let h = g.met.M.Machine.lawful in
    let k = g.met.N.Machine.lawful in
    let v = c.args.case.now in
    let d = dispatch_of g.C.Column.value c.args.dispatch.now in
    let n = c.bus_count.result in
    let e = c.bus_count.ensures in
    let r = c.in_default.ensures in
    let a = c.in_ok-cost.ensures.0 in
    found.all_kept 𝓜 𝓝 h k v d n e r a c.in_ok-cost.cost
    (found.balanced 𝓜 𝓝 h k v d n e r a c.in_default-unbalanced.ensures)
    (found.rated 𝓜 𝓝 h k v d n e r c.in_default-overloaded.ensures)
    (found.limited 𝓜 𝓝 h k v d n e r c.in_default-overstretched.ensures) c.in_ok-cost.ensures.1
