use Rattle.standing.proofs.Reoffered.{reoffered_theorem}
use Rattle.standing.proofs.reoffered_passes.Goals as goal

pub returns : goal.returns
returns g c = reoffered_theorem g.N.Network.model g.N.Network.grounds
