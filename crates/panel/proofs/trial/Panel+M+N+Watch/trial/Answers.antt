use Rattle.std.proofs.Common.{rules, refl, ap, length, ◌∙◌, Ok, Err}
use Rattle.std.proofs.lemmas.Result.{err_from_is_err_and}
use Rattle.panel.proofs.Judging.{tried}
use Rattle.panel.proofs.Steps.{trial_step}
use Rattle.panel.proofs.trial.Panel+M+N+Watch.trial.Goals as goal

pub returns-in_err-paper-clause-step : goal.returns-in_err-paper-clause-step
returns-in_err-paper-clause-step g c = trial_step g.M.Machine.meaning g.N.Machine.meaning _ _ refl _ refl

pub returns-in_err-floor-clause-exact : goal.returns-in_err-floor-clause-exact
returns-in_err-floor-clause-exact g c =
    let p = err_from_is_err_and c.from_residual-in_err-floor.result c.from_residual-in_err-floor.ensures.1 in
    rw (p.1, p.2)
    (tried g.M.Machine.meaning g.N.Machine.meaning c.args.self.now c.args.words.now _ _ c.in_ok-paper.paper
    (c.bus_count.ensures ∙ ap (λ k. length k.buses) c.case-case.ensures) (c.branch_count.ensures ∙ ap (λ k. length k.branches) c.case-case.ensures)
    c.in_ok-paper.ensures (Err c.in_err-floor.field-0.0) c.in_err-floor.ensures.floored)

pub returns-in_err-floor-clause-step : goal.returns-in_err-floor-clause-step
returns-in_err-floor-clause-step g c = trial_step g.M.Machine.meaning g.N.Machine.meaning _ _ (search rules) _ refl

pub returns-clause-exact : goal.returns-clause-exact
returns-clause-exact g c =
    tried g.M.Machine.meaning g.N.Machine.meaning c.args.self.now c.args.words.now _ _ c.in_ok-paper.paper
    (c.bus_count.ensures ∙ ap (λ k. length k.buses) c.case-case.ensures) (c.branch_count.ensures ∙ ap (λ k. length k.branches) c.case-case.ensures)
    c.in_ok-paper.ensures (Ok c.in_ok-floor.floor) c.in_ok-floor.ensures.floored

pub returns-clause-step : goal.returns-clause-step
returns-clause-step g c = trial_step g.M.Machine.meaning g.N.Machine.meaning _ _ (search rules) _ refl
