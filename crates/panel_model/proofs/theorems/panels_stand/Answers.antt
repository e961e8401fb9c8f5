use Rattle.panel_model.proofs.theorems.panels_stand.Goals as goal
use Rattle.standing.proofs.Standing.{standing_theorem}
use Rattle.standing.proofs.Pinning.{pinning_theorem, same-calls_theorem}
use Rattle.standing.proofs.Refusals.{refusals_alter_nothing}
use Rattle.standing.proofs.Reoffered.{reoffered_theorem}
use Rattle.panel_model.proofs.Grounds.{grounds}

pub returns : goal.returns
returns g c =
    let k = grounds g.M.Machine.meaning g.N.Machine.meaning g.met.M.Machine.lawful g.met.N.Machine.lawful in
    record {
      standing = standing_theorem _ k;
      pinned = pinning_theorem _;
      same_calls = same-calls_theorem _ k;
      refusals = refusals_alter_nothing _;
      reoffered = reoffered_theorem _ k;
    }
