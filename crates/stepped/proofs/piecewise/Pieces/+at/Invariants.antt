use Rattle.std.proofs.Common.{length}
use Rattle.stepped.specs.Piecewise.{powers_of}
use Rattle.stepped.proofs.piecewise.Pieces.+at.Given as goal

abbrev pub decreases-at : goal.decreases-at
decreases-at l = length (powers_of l.self.points.now)
