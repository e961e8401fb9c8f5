use Rattle.small_harbour.proofs.Examples.{example}
use Rattle.small_harbour.proofs.example.small_harbour_stands.Goals as goal

pub returns : goal.returns
returns c = example
