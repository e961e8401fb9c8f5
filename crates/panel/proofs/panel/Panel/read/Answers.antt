use Rattle.standing.specs.Step.MayAsk.{reading_always}
use Rattle.standing.specs.Step.Step.{asked}
use Rattle.panel.proofs.Standings.{stands_on}
use Rattle.panel.proofs.panel.Panel.read.Goals as goal

pub returns-clause-step : goal.returns-clause-step
returns-clause-step g c = asked reading_always

pub returns-clause-standing : goal.returns-clause-standing
returns-clause-standing g c = stands_on g.M.Machine.meaning g.N.Machine.meaning g.met.M.Machine.lawful g.met.N.Machine.lawful _
