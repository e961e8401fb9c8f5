use Rattle.std.proofs.lemmas.Int.{to_z-of_z}
use Rattle.measure.proofs.Sizes.{gave}
use Rattle.pricing.proofs.Exact.{summed_sizes}
use Rattle.pricing.proofs.floor.summed.Goals as goal

pub overflow_mul-result : goal.overflow_mul-result
overflow_mul-result c =
    let z = summed_sizes c.args.first c.args.second c.args.buses c.args.tolerance c.args.sizes c.args.charges c.requires in
    let t = gave c.from.type_inv c.from.ensures in
    simp (t, to_z-of_z, c.ranges.sizes) z.tolerated

pub overflow_sub-result : goal.overflow_sub-result
overflow_sub-result c =
    let z = summed_sizes c.args.first c.args.second c.args.buses c.args.tolerance c.args.sizes c.args.charges c.requires in
    let t = gave c.from.type_inv c.from.ensures in
    simp (t, to_z-of_z, c.ranges.first, c.ranges.second, c.ranges.buses, c.ranges.sizes, z.groups, z.buses, z.tolerated) z.less

pub overflow_sub-result-2 : goal.overflow_sub-result-2
overflow_sub-result-2 c =
    let z = summed_sizes c.args.first c.args.second c.args.buses c.args.tolerance c.args.sizes c.args.charges c.requires in
    let t = gave c.from.type_inv c.from.ensures in
    simp (t, to_z-of_z, c.ranges.first, c.ranges.second, c.ranges.buses, c.ranges.sizes, c.ranges.charges, z.groups, z.buses, z.tolerated, z.less) z.sum

pub returns : goal.returns
returns c =
    let z = summed_sizes c.args.first c.args.second c.args.buses c.args.tolerance c.args.sizes c.args.charges c.requires in
    let t = gave c.from.type_inv c.from.ensures in
    simp (t, to_z-of_z, c.ranges.first, c.ranges.second, c.ranges.buses, c.ranges.sizes, c.ranges.charges, z.groups, z.buses, z.tolerated, z.less, z.sum)
