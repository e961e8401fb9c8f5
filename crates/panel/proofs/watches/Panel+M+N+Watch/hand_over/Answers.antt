use Rattle.std.proofs.Common.{rules, refl, Ok, Err}
use Rattle.panel.proofs.Standings.{stands_on, sheet_stands_on}
use Rattle.panel.proofs.Steps.{hand_over_step}
use Rattle.panel.proofs.watches.Panel+M+N+Watch.hand_over.Goals as goal

pub returns-in_err-attendant-clause-step : goal.returns-in_err-attendant-clause-step
returns-in_err-attendant-clause-step g c = hand_over_step g.M.Machine.meaning g.N.Machine.meaning _ _ _ _ refl (Err c.in_err-attendant.field-0.0) (search rules)

pub returns-in_err-attendant-clause-standing : goal.returns-in_err-attendant-clause-standing
returns-in_err-attendant-clause-standing g c = stands_on g.M.Machine.meaning g.N.Machine.meaning g.met.M.Machine.lawful g.met.N.Machine.lawful _

pub returns-clause-step : goal.returns-clause-step
returns-clause-step g c = hand_over_step g.M.Machine.meaning g.N.Machine.meaning _ _ _ _ refl (Ok c.write_sheet-sheet.result) (search rules)

pub returns-clause-sheet : goal.returns-clause-sheet
returns-clause-sheet g c = sheet_stands_on g.M.Machine.meaning g.N.Machine.meaning g.met.M.Machine.lawful g.met.N.Machine.lawful _ _ refl _ (search rules)

pub returns-clause-standing : goal.returns-clause-standing
returns-clause-standing g c = stands_on g.M.Machine.meaning g.N.Machine.meaning g.met.M.Machine.lawful g.met.N.Machine.lawful _
