use Rattle.std.proofs.Common.{refl}
use Rattle.std.proofs.lemmas.Int.{to_z-of_z}
use Rattle.curved.proofs.Sizes.{own, at}
use Rattle.curved.proofs.quadratic.Quadratic.line_at.Goals as goal

pub overflow_mul-result-2 : goal.overflow_mul-result-2
overflow_mul-result-2 c =
    let o = own c.args.self in
    let z = at c.args.self c.args.p in
    simp (to_z-of_z, o.slope, z.watts) z.along

pub overflow_add-result : goal.overflow_add-result
overflow_add-result c =
    let o = own c.args.self in
    let z = at c.args.self c.args.p in
    simp (to_z-of_z, o.c0, o.slope, o.fixed, z.watts, z.along) z.line_fits

pub returns : goal.returns
returns c =
    let o = own c.args.self in
    let z = at c.args.self c.args.p in
    simp (to_z-of_z, o.c0, o.slope, o.fixed, z.watts, z.along, z.line_fits) (record { value = refl; size = z.line })
