use Rattle.standing.proofs.Refusals.{refusals_alter_nothing}
use Rattle.standing.proofs.refusals_alter_nothing.Goals as goal

pub returns : goal.returns
returns g c = refusals_alter_nothing g.N.Network.model
