use Rattle.std.proofs.Common.{rules, refl}
use Rattle.panel.proofs.Steps.{stand_down_step}
use Rattle.panel.proofs.Standings.{stands_on, sheet_stands_on}
use Rattle.panel.proofs.watches.Panel+M+N+Watch.stand_down.Goals as goal

pub returns-clause-step : goal.returns-clause-step
returns-clause-step g c = stand_down_step g.M.Machine.meaning g.N.Machine.meaning _ _ _ refl (search rules)

pub returns-clause-sheet : goal.returns-clause-sheet
returns-clause-sheet g c = sheet_stands_on g.M.Machine.meaning g.N.Machine.meaning g.met.M.Machine.lawful g.met.N.Machine.lawful _ _ refl _ (search rules)

pub returns-clause-standing : goal.returns-clause-standing
returns-clause-standing g c = stands_on g.M.Machine.meaning g.N.Machine.meaning g.met.M.Machine.lawful g.met.N.Machine.lawful _
