use Rattle.std.proofs.lemmas.Int.{to_z-of_z}
use Rattle.pricing.proofs.Kept.{worth_sizes}
use Rattle.pricing.proofs.charge.worth.Goals as goal

pub overflow_mul-result : goal.overflow_mul-result
overflow_mul-result c = simp (to_z-of_z, c.ranges.price, c.ranges.demand) (worth_sizes _ _ _ c.requires).demanded

pub overflow_sub-result : goal.overflow_sub-result
overflow_sub-result c =
    let z = worth_sizes c.args.price c.args.demand c.args.residue c.requires in
    simp (c.size.ensures, to_z-of_z, c.ranges.price, c.ranges.demand, c.ranges.residue, z.size, z.demanded, z.turned) z.sum

pub returns : goal.returns
returns c =
    let z = worth_sizes c.args.price c.args.demand c.args.residue c.requires in
    simp (c.size.ensures, to_z-of_z, c.ranges.price, c.ranges.demand, c.ranges.residue, z.size, z.demanded, z.turned, z.sum)
