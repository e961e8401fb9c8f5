use Rattle.std.proofs.Common.{length}
use Rattle.stepped.specs.Piecewise.{powers_of}
use Rattle.stepped.proofs.piecewise.Pieces.+least.Given as goal

abbrev pub decreases-least : goal.decreases-least
decreases-least l = length (powers_of l.self.points.now)
