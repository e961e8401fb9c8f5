use Rattle.std.proofs.Common.{◌++◌, ap, ◌∙◌, subst, rules}
use Rattle.std.proofs.lemmas.Result.{IfOk-weaker}
use Rattle.panel.specs.Opening.{tables_in}
use Rattle.answer.specs.Laws.{ShownFits}
use Rattle.answer.specs.Printed.{printed}
use Rattle.answer.specs.declared.answer.Answer.TheVariants.{Refused}
use Rattle.file_run.proofs.Files.{case_refused, case_taken}
use Rattle.file_run.proofs.run.run_words.Goals as goal

pub returns-in-Err-clause-printed : goal.returns-in-Err-clause-printed
returns-in-Err-clause-printed c =
    let tables = tables_in c.blank_tables.result.0 c.blank_tables.result.1 in
    let fits : ShownFits c.from.result = search rules in
    IfOk-weaker c.append_to.result _ _
    (λ v e. case_refused _ _ _ _ c.paper_len.ensures c.split_at.ensures.front c.split_at.ensures.back _ tables c.blank_tables.ensures _ c.in-Err.refused.fault c.in-Err.ensures.exact (subst ShownFits c.from.ensures fits) (e ∙ ap (λ s. c.args.text.now.items ++ printed (Refused s)) c.from.ensures))
    c.append_to.ensures.lines

pub returns-in_ok-append_to-in-Ok-clause-printed : goal.returns-in_ok-append_to-in-Ok-clause-printed
returns-in_ok-append_to-in-Ok-clause-printed c =
    IfOk-weaker c.run_panel.result _ _
    (λ v e. case_taken _ _ _ _ c.paper_len.ensures c.split_at.ensures.front c.split_at.ensures.back _ _ c.blank_tables.ensures _ _ _ c.in-Ok.ensures.exact c.in_ok-append_to-in-Ok.ensures.lines e)
    c.run_panel.ensures.printed
