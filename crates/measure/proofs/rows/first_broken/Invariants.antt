use Rattle.std.specs.Prelude.{ℕ, ◌<◌, false}
use Rattle.measure.proofs.rows.first_broken.Given as goal

abbrev pub invariant-loop-row : goal.invariant-loop-row
invariant-loop-row g l = (k : ℕ) → k < l.row → goal.F-post g l.is_broken k false
