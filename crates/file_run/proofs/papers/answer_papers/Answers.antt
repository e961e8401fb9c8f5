use Rattle.std.proofs.Common.{◌<◌, length, arith, rules}
use Rattle.std.proofs.lemmas.Bool.Decides.{nat_tests}
use Rattle.std.proofs.Transfers.{starts_with_of_append, starts_with_trans}
use Rattle.answer.specs.Laws.{AnswerFits}
use Rattle.file_run.proofs.Brought.{begins, one_more}
use Rattle.file_run.proofs.papers.answer_papers.Goals as goal

pub loop-rest-init : goal.loop-rest-init
loop-rest-init c = begins _ _ _ _ _

pub loop-rest-preserved : goal.loop-rest-preserved
loop-rest-preserved c =
    let some : 0 < length c.loop-rest.rest.now = grind (arith, nat_tests) in
    let fits : AnswerFits c.answer_paper.result = search rules in
    one_more _ _ _ _ _ _ _ _ _ _ _ _ _ _ c.loop-rest.invariant some c.paper_len.ensures c.split_at.ensures.front c.split_at.ensures.back c.answer_paper.ensures fits c.in_ok-append_to.ensures.lines

pub returns-in_err-append_to-clause-begins : goal.returns-in_err-append_to-clause-begins
returns-in_err-append_to-clause-begins c = starts_with_trans _ _ _ c.append_to.ensures.begins (starts_with_of_append _ _ _ c.loop-rest.invariant.printed.lines)
