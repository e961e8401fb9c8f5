use Rattle.std.proofs.Common.{rules, length, ap, sym, subst, Ok, Err}
use Rattle.panel.specs.Judged.{GivesDispatch}
use Rattle.panel.specs.declared.outcome.Outcome.TheVariants.{Held, Passed}
use Rattle.panel.specs.declared.refusal.OfferRefusal.TheVariants.{Full, Paper}
use Rattle.panel.proofs.Holding.{held_dispatch}
use Rattle.panel.proofs.Steps.{dispatch_step}
use Rattle.panel.proofs.offer.Panel+M+N+Watch.offer_dispatch.Goals as goal

pub returns-in_err-check_room-clause-step : goal.returns-in_err-check_room-clause-step
returns-in_err-check_room-clause-step g c = dispatch_step g.M.Machine.meaning g.N.Machine.meaning _ _ _ (Err Full) (search rules)

pub returns-in-Err-clause-step : goal.returns-in-Err-clause-step
returns-in-Err-clause-step g c = dispatch_step g.M.Machine.meaning g.N.Machine.meaning _ _ _ (Err (Paper c.in-Err.refusal)) (search rules)

pub returns-then-not-is_cheaper-clause-step : goal.returns-then-not-is_cheaper-clause-step
returns-then-not-is_cheaper-clause-step g c = dispatch_step g.M.Machine.meaning g.N.Machine.meaning _ _ _ (Ok (Passed c.in-Ok.judged.cost)) (search rules)

pub returns-clause-exact : goal.returns-clause-exact
returns-clause-exact g c =
    let x = c.in-Ok.ensures in
    let t = c.copy_dispatch.ensures x.dispatch x.said.0.machines x.said.0.buses (subst (λ n. GivesDispatch n x.dispatch c.in-Ok.judged.dispatch) (sym (ap length c.used-first.ensures.exact)) x.gives) in
    held_dispatch g.M.Machine.meaning g.N.Machine.meaning c.args.self.now c.args.words.now c.in-Ok.judged x _ _ _ t.0 t.1 c.in_ok-check_room.ensures (search rules) c.raise-2.ensures

pub returns-clause-step : goal.returns-clause-step
returns-clause-step g c = dispatch_step g.M.Machine.meaning g.N.Machine.meaning _ _ _ (Ok (Held c.in-Ok.judged.cost)) (returns-clause-exact g c)
