use Rattle.std.proofs.lemmas.Int.{to_z-of_z}
use Rattle.judging.proofs.Whole.{carried_sizes}
use Rattle.judging.proofs.angles.carried.Goals as goal

pub overflow_mul-result : goal.overflow_mul-result
overflow_mul-result c =
    let z = carried_sizes c.args.susceptance c.args.difference c.args.shift c.requires in
    simp (to_z-of_z, c.ranges.susceptance, c.ranges.difference, c.ranges.shift, z.way) z.flow

pub returns : goal.returns
returns c =
    let z = carried_sizes c.args.susceptance c.args.difference c.args.shift c.requires in
    simp (to_z-of_z, c.ranges.susceptance, c.ranges.difference, c.ranges.shift, z.way, z.flow)
