use Rattle.network.proofs.theorems.counted_covers.Goals as goal
use Rattle.network.proofs.Counted.{counted-covers}

pub returns : goal.returns
returns g c = counted-covers g.M.Machine.meaning g.N.Machine.meaning g.met.M.Machine.lawful g.met.N.Machine.lawful
