use Rattle.std.proofs.Common.{◌≡◌, length}
use Rattle.build.specs.Build.{EndsNamed}
use Rattle.build.proofs.Filling.{MatchedTo}
use Rattle.build.proofs.places.find_ends.Given as goal

abbrev pub invariant-loop-i : goal.invariant-loop-i
invariant-loop-i l = (length l.ends ≡ 200) × MatchedTo (EndsNamed l.buses.rows.now) l.branches l.ends l.i
