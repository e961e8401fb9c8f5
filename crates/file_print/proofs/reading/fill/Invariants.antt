use Rattle.std.proofs.Common.{◌≡◌, ◌-◌, length}
use Rattle.file_print.proofs.Filled.{Filled}
use Rattle.file_print.proofs.reading.fill.Given as goal

abbrev pub invariant-loop-filled : goal.invariant-loop-filled
invariant-loop-filled g l = (length l.bytes ≡ length l.initial.bytes) × Filled (g.R.Read.remaining l.initial.reader) (g.R.Read.remaining l.reader) l.bytes l.filled

abbrev pub decreases-loop-filled : goal.decreases-loop-filled
decreases-loop-filled g l = length l.bytes - l.filled
