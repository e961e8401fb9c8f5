use Rattle.std.proofs.Common.{◌∙◌, w64, rules}
use Rattle.std.proofs.lemmas.Int.{to_z-of_z}
use Rattle.paper.proofs.Layouts.{possible}
use Rattle.paper.proofs.Changes.{demand_layout, demand_read}
use Rattle.paper.proofs.change.read_demand_change.Goals as goal

pub admit_change-requires : goal.admit_change-requires
admit_change-requires c = possible _ _ demand_layout

pub returns : goal.returns
returns c =
    let f = c.in_ok-bus.ensures in
    let z = to_z-of_z w64 c.amount.result (search rules) in
    rw (z, c.amount.ensures, c.payload.ensures) ((f.0.1, f.1.1), f.2 ∙ demand_read c.in_ok-bus.bus c.in_ok-bus.demand f.0 f.1)
