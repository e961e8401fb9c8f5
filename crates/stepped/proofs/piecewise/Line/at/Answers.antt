use Rattle.std.proofs.Common.{refl}
use Rattle.std.proofs.lemmas.Int.{to_z-of_z}
use Rattle.stepped.proofs.Sizes.{line_sizes}
use Rattle.stepped.proofs.piecewise.Line.at.Goals as goal

pub overflow_mul-result : goal.overflow_mul-result
overflow_mul-result c =
    let z = line_sizes c.args.self c.args.y in
    simp (to_z-of_z, z.from, z.slope, z.watts, z.way) z.product

pub overflow_add-result : goal.overflow_add-result
overflow_add-result c =
    let z = line_sizes c.args.self c.args.y in
    simp (to_z-of_z, z.cost, z.from, z.slope, z.watts, z.way, z.product) z.total

pub returns : goal.returns
returns c =
    let z = line_sizes c.args.self c.args.y in
    simp (to_z-of_z, z.cost, z.from, z.slope, z.watts, z.way, z.product, z.total) (record { value = refl; size = z.within })
