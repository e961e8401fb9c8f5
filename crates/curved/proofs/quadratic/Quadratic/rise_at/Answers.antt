use Rattle.std.proofs.lemmas.Int.{to_z-of_z}
use Rattle.curved.proofs.Sizes.{own, at}
use Rattle.curved.proofs.quadratic.Quadratic.rise_at.Goals as goal

pub overflow_mul-result-3 : goal.overflow_mul-result-3
overflow_mul-result-3 c =
    let o = own c.args.self in
    let z = at c.args.self c.args.p in
    simp (to_z-of_z, o.c2, z.watts, z.twice) z.bend

pub overflow_add-result : goal.overflow_add-result
overflow_add-result c =
    let o = own c.args.self in
    let z = at c.args.self c.args.p in
    simp (to_z-of_z, o.slope, o.c2, z.watts, z.steep, z.twice, z.bend) z.rise

pub returns : goal.returns
returns c =
    let o = own c.args.self in
    let z = at c.args.self c.args.p in
    simp (to_z-of_z, o.slope, o.c2, z.watts, z.steep, z.twice, z.bend, z.rise)
