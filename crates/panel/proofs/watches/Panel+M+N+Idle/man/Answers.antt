use Rattle.std.proofs.Common.{rules, refl}
use Rattle.panel.proofs.Steps.{man_step}
use Rattle.panel.proofs.watches.Panel+M+N+Idle.man.Goals as goal

pub returns-clause-step : goal.returns-clause-step
returns-clause-step g c = man_step g.M.Machine.meaning g.N.Machine.meaning _ _ c.args.attendant refl (search rules)
