use Rattle.std.proofs.Common.{rules}
use Rattle.file_print.proofs.Filled.{filled_more}
use Rattle.file_print.proofs.reading.fill.Goals as goal

pub loop-filled-preserved : goal.loop-filled-preserved
loop-filled-preserved g c =
    (search rules, filled_more _ _ _ c.loop-filled.bytes c.read_some.new.bytes c.loop-filled.filled c.in_ok-n.n c.loop-filled.invariant.1 c.in_ok-n.ensures.bound.0 c.in_ok-n.ensures.read.0 (search rules))
