use lib.IntN.{+ℤ_idl}
use Rattle.std.proofs.lemmas.Int.{to_z-of_z}
use Rattle.curved.proofs.Sizes.{own, least}
use Rattle.curved.proofs.quadratic.Quadratic.least_down.Goals as goal

pub overflow_mul-square-2 : goal.overflow_mul-square-2
overflow_mul-square-2 c =
    let o = own c.args.self in
    let z = least c.args.self in
    simp (to_z-of_z, o.slope, z.once) z.twice

pub overflow_sub-square : goal.overflow_sub-square
overflow_sub-square c =
    let o = own c.args.self in
    let z = least c.args.self in
    simp (to_z-of_z, o.slope, z.once, z.twice, +ℤ_idl) z.minus

pub overflow_add-result : goal.overflow_add-result
overflow_add-result c =
    let o = own c.args.self in
    let z = least c.args.self in
    simp (c.div_euclid.ensures, to_z-of_z, o.c0, o.slope, o.c2, o.fixed, z.once, z.twice, z.minus, z.lowest_fits, +ℤ_idl) z.total

pub returns : goal.returns
returns c =
    let o = own c.args.self in
    let z = least c.args.self in
    simp (c.div_euclid.ensures, to_z-of_z, o.c0, o.slope, o.c2, o.fixed, z.once, z.twice, z.minus, z.lowest_fits, z.total, +ℤ_idl)
