use Rattle.std.proofs.lemmas.Int.{to_z-of_z}
use Rattle.pricing.proofs.Kept.{weighed_sizes}
use Rattle.pricing.proofs.residue.weighed.Goals as goal

pub overflow_mul-result : goal.overflow_mul-result
overflow_mul-result c =
    let z = weighed_sizes c.args.susceptance c.args.from c.args.to c.args.congestion c.requires in
    simp (to_z-of_z, c.ranges.susceptance, c.ranges.from, c.ranges.to, c.ranges.congestion, z.apart, z.sum) z.product

pub returns : goal.returns
returns c =
    let z = weighed_sizes c.args.susceptance c.args.from c.args.to c.args.congestion c.requires in
    simp (to_z-of_z, c.ranges.susceptance, c.ranges.from, c.ranges.to, c.ranges.congestion, z.apart, z.sum, z.product)
