use Rattle.std.proofs.Common.{take, arith}
use Rattle.std.proofs.lemmas.List.{length-take}
use Rattle.measure.proofs.Sums.{stands_below}
use Rattle.pricing.proofs.outage.floor_without.Goals as goal

pub floor_out-requires : goal.floor_out-requires
floor_out-requires g c =
    let h = c.in-Some.ensures in
    let l = stands_below (take c.args.stations.nl c.args.branches.now) c.in-Some.row h.0.item h.0.stands in
    let t = length-take c.args.stations.nl c.args.branches.now in
    omega arith
