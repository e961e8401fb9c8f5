use Rattle.std.proofs.Common.{◌≡◌, length}
use Rattle.build.specs.Build.{Placed}
use Rattle.build.proofs.Filling.{MatchedTo}
use Rattle.build.proofs.places.find_places.Given as goal

abbrev pub invariant-loop-i : goal.invariant-loop-i
invariant-loop-i g l = (length l.places ≡ 30) × MatchedTo (Placed g.M.Machine.meaning l.buses.rows.now) l.machines l.places l.i
