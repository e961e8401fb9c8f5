use Rattle.paper_file.proofs.Heads.{calls-told}
use Rattle.paper_file.proofs.laws.calls_told.Goals as goal

pub returns : goal.returns
returns c = calls-told
