use Rattle.std.proofs.Common.{rules}
use Rattle.std.proofs.lemmas.Result.{IfOk-weaker}
use Rattle.answer.specs.Laws.{SheetFits}
use Rattle.file_run.proofs.Runs.{panel_printed}
use Rattle.file_run.proofs.run.run_panel.Goals as goal

pub returns-clause-printed : goal.returns-clause-printed
returns-clause-printed c =
    let d = c.stand_down in
    let fits : SheetFits d.result.0 = search rules in
    IfOk-weaker c.append_to.result _ _
    (λ v e. panel_printed _ _ _ _ _ _ _ _ d.result.0 _ _ _ c.requires.sized c.requires.new c.requires.run c.man-panel.ensures.exact c.man-panel.ensures.step c.in_ok-answered.ensures.printed d.ensures.exact d.ensures.step d.ensures.standing fits e)
    c.append_to.ensures.lines
