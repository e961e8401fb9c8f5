use Rattle.std.proofs.Common.{subst}
use Rattle.std.proofs.lemmas.Result.{MatchResult-weaker}
use Rattle.case_paper.specs.CaseFault.{LawfulCase}
use Rattle.case_tables.proofs.Telling.{read_told}
use Rattle.case_tables.proofs.read.read_case.Goals as goal

pub lay_case-requires : goal.lay_case-requires
lay_case-requires c = subst (λ r. LawfulCase r c.args.words.now) c.rows_provided-room.ensures c.in_ok-check_case.ensures.1

pub returns-clause-told : goal.returns-clause-told
returns-clause-told c = MatchResult-weaker c.lay_case.result c.lay_case.ensures (read_told _ _ _) (λ f n. tt)
