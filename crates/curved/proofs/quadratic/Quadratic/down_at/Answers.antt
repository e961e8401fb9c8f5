use Rattle.std.proofs.Common.{◌≡◌, pos, ◌*ℤ◌, arith}
use borrow.Author.Differences.{ints}
use Rattle.std.proofs.lemmas.Int.{to_z-of_z}
use Rattle.measure.specs.Range.{floor_div}
use Rattle.curved.proofs.Sizes.{at}
use Rattle.curved.proofs.quadratic.Quadratic.down_at.Goals as goal

pub overflow_add-result : goal.overflow_add-result
overflow_add-result c = omega (arith, ints, c.line_at.ensures.size, c.rounded_down.ensures.size)

pub returns : goal.returns
returns c =
    let z = at c.args.self c.args.p in
    let e : c.rounded_down.result ≡ floor_div (c.args.self.c2 *ℤ c.args.p.watts *ℤ c.args.p.watts) (pos 1000000) = simp (c.square_at.ensures.value, to_z-of_z, z.square_fits) at c.rounded_down.ensures.value in
    omega (arith, ints, e)
