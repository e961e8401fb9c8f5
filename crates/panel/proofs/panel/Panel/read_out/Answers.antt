use Rattle.standing.specs.Step.MayAsk.{reading_out_always}
use Rattle.standing.specs.Step.Step.{asked}
use Rattle.panel.proofs.Standings.{shown_again_on}
use Rattle.panel.proofs.panel.Panel.read_out.Goals as goal

pub returns-then-is_none-clause-step : goal.returns-then-is_none-clause-step
returns-then-is_none-clause-step g c = asked reading_out_always

pub returns-then-is_none-clause-again : goal.returns-then-is_none-clause-again
returns-then-is_none-clause-again g c = shown_again_on g.M.Machine.meaning g.N.Machine.meaning g.met.M.Machine.lawful g.met.N.Machine.lawful _

pub returns-in_err-write_dispatch-clause-step : goal.returns-in_err-write_dispatch-clause-step
returns-in_err-write_dispatch-clause-step g c = asked reading_out_always

pub returns-in_err-write_dispatch-clause-again : goal.returns-in_err-write_dispatch-clause-again
returns-in_err-write_dispatch-clause-again g c = shown_again_on g.M.Machine.meaning g.N.Machine.meaning g.met.M.Machine.lawful g.met.N.Machine.lawful _

pub returns-clause-step : goal.returns-clause-step
returns-clause-step g c = asked reading_out_always

pub returns-clause-again : goal.returns-clause-again
returns-clause-again g c = shown_again_on g.M.Machine.meaning g.N.Machine.meaning g.met.M.Machine.lawful g.met.N.Machine.lawful _
