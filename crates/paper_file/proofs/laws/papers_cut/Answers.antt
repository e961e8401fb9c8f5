use Rattle.paper_file.proofs.Cuts.{papers-cut}
use Rattle.paper_file.proofs.laws.papers_cut.Goals as goal

pub returns : goal.returns
returns c = papers-cut
