use Rattle.std.proofs.Common.{refl}
use Rattle.std.proofs.lemmas.Int.{to_z-of_z}
use Rattle.curved.proofs.Sizes.{own, at}
use Rattle.curved.proofs.quadratic.Quadratic.square_at.Goals as goal

pub overflow_mul-result : goal.overflow_mul-result
overflow_mul-result c =
    let o = own c.args.self in
    let z = at c.args.self c.args.p in
    simp (to_z-of_z, o.c2, z.watts) z.once

pub overflow_mul-result-2 : goal.overflow_mul-result-2
overflow_mul-result-2 c =
    let o = own c.args.self in
    let z = at c.args.self c.args.p in
    simp (to_z-of_z, o.c2, z.watts, z.once) z.square_fits

pub returns : goal.returns
returns c =
    let o = own c.args.self in
    let z = at c.args.self c.args.p in
    simp (to_z-of_z, o.c2, z.watts, z.once, z.square_fits) (record { value = refl; size = z.square })
