use Rattle.standing.proofs.Pinning.{pinning_theorem, same-calls_theorem}
use Rattle.standing.proofs.standing_pins.Goals as goal

pub returns : goal.returns
returns g c =
    record { what_stands = pinning_theorem g.N.Network.model; same_calls = same-calls_theorem g.N.Network.model g.N.Network.grounds }
