use Rattle.file_print.proofs.Told.{all_written, part_written}
use Rattle.file_print.proofs.stream.run_stream.Goals as goal

pub returns-in-Ok-write_flushed-clause-ok : goal.returns-in-Ok-write_flushed-clause-ok
returns-in-Ok-write_flushed-clause-ok g c =
    all_written _ _ _ _ _ _ _ _ c.in-Ok.ensures.first c.fill.auto.bytes c.in_ok-text.ensures c.deref.ensures.value c.in-Ok-write_flushed.ensures.all

pub returns-clause-err : goal.returns-clause-err
returns-clause-err g c =
    part_written _ _ _ _ _ _ _ _ c.in-Ok.ensures.first c.fill.auto.bytes c.in_ok-text.ensures c.deref.ensures.value c.in-Err-write_flushed.ensures.part
