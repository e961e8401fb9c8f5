use Rattle.network.proofs.theorems.floor_stands.Goals as goal
use Rattle.network.proofs.Duality.{floor_stands}

pub returns : goal.returns
returns g c = floor_stands g.M.Machine.meaning g.N.Machine.meaning g.met.M.Machine.lawful g.met.N.Machine.lawful
