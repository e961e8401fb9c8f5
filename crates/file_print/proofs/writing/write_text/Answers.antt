use Rattle.file_print.proofs.Written.{written_more}
use Rattle.file_print.proofs.writing.write_text.Goals as goal

pub loop-rest-preserved : goal.loop-rest-preserved
loop-rest-preserved g c = written_more _ _ _ _ _ c.in_ok-n.n c.loop-rest.invariant c.in_ok-n.ensures.written
