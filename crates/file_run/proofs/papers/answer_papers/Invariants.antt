use Rattle.std.proofs.Common.{length}
use Rattle.stepped.specs.Piecewise.{stepped_meaning}
use Rattle.curved.specs.Quadratic.{curved_meaning}
use Rattle.panel.specs.View.{manned}
use Rattle.file_run.proofs.Brought.{SoFar}
use Rattle.file_run.proofs.papers.answer_papers.Given as goal

abbrev pub invariant-loop-rest : goal.invariant-loop-rest
invariant-loop-rest l =
    SoFar stepped_meaning curved_meaning (manned stepped_meaning curved_meaning l.initial.panel) (manned stepped_meaning curved_meaning l.panel) l.words l.rest l.initial.text.items l.text.items

abbrev pub decreases-loop-rest : goal.decreases-loop-rest
decreases-loop-rest l = length l.rest
