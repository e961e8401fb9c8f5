use Rattle.std.proofs.Common.{rules}
use Rattle.paper.proofs.Dispatches.{groups_possible}
use Rattle.paper.proofs.dispatch.read_dispatch.Goals as goal

pub admit_all-requires : goal.admit_all-requires
admit_all-requires c = let p = groups_possible c.args.first c.args.second c.args.angles in search rules
