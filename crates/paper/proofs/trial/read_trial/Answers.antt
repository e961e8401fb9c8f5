use Rattle.std.proofs.Common.{rules}
use Rattle.paper.proofs.Layouts.{possible}
use Rattle.paper.proofs.Lists.{trial_layout}
use Rattle.paper.proofs.trial.read_trial.Goals as goal

pub admit_all-requires : goal.admit_all-requires
admit_all-requires c = let p = possible _ _ (trial_layout c.args.buses c.args.branches) in search rules
