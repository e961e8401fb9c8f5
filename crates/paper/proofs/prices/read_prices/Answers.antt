use Rattle.std.proofs.Common.{rules}
use Rattle.paper.proofs.Layouts.{possible}
use Rattle.paper.proofs.Lists.{prices_layout}
use Rattle.paper.proofs.prices.read_prices.Goals as goal

pub admit_all-requires : goal.admit_all-requires
admit_all-requires c = let p = possible _ _ (prices_layout c.args.buses c.args.branches) in search rules
