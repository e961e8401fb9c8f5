use Rattle.answer.proofs.Tellings.{printed-tells}
use Rattle.answer.proofs.laws.printed_tells.Goals as goal

pub returns : goal.returns
returns c = printed-tells
