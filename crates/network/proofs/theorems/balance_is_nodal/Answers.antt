use Rattle.network.proofs.theorems.balance_is_nodal.Goals as goal
use Rattle.network.proofs.Nodal.{balance_is_nodal}

pub returns : goal.returns
returns g c = balance_is_nodal
