use Rattle.measure.specs.Rows.{IsSumOf}
use Rattle.measure.proofs.rows.sum.Given as goal

abbrev pub invariant-loop-row : goal.invariant-loop-row
invariant-loop-row g l = IsSumOf (goal.F-post g l.value) l.row l.sum
