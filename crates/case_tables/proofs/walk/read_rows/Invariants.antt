use Rattle.std.proofs.Common.{length}
use Rattle.case_paper.specs.Case.{CaseForm}
use Rattle.case_tables.proofs.Walking.{Walked}
use Rattle.case_tables.proofs.walk.read_rows.Given as goal

abbrev pub invariant-loop-records : goal.invariant-loop-records
invariant-loop-records l = (c : CaseForm l.words) → Walked l.words c l.records l.rows

abbrev pub decreases-loop-records : goal.decreases-loop-records
decreases-loop-records l = length l.records
