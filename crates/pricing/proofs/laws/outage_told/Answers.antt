use Rattle.pricing.proofs.RowsTold.{outage_told}
use Rattle.pricing.proofs.laws.outage_told.Goals as goal

pub returns : goal.returns
returns g c = outage_told
