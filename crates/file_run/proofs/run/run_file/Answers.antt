use Rattle.std.proofs.Common.{◌∙◌}
use Rattle.file_run.proofs.Files.{file_ran}
use Rattle.file_run.proofs.run.run_file.Goals as goal

pub returns : goal.returns
returns c = file_ran _ _ _ _ (c.deref.ensures.value ∙ c.in_ok-words.ensures.words) c.new-text.ensures.items c.in_ok-run_words.ensures.printed
