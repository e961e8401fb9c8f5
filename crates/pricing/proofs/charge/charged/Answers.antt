use Rattle.std.proofs.lemmas.Int.{to_z-of_z}
use Rattle.pricing.proofs.Kept.{charged_sizes}
use Rattle.pricing.proofs.charge.charged.Goals as goal

pub overflow_mul-result : goal.overflow_mul-result
overflow_mul-result c = simp (to_z-of_z, c.ranges.weight, c.ranges.shift) (charged_sizes _ _ _ _ _ c.requires).shifted

pub overflow_mul-result-2 : goal.overflow_mul-result-2
overflow_mul-result-2 c =
    let z = charged_sizes c.args.weight c.args.shift c.args.congestion c.args.rating c.args.angle c.requires in
    simp (c.size.ensures, to_z-of_z, c.ranges.congestion, c.ranges.rating, z.size) z.rated

pub overflow_add-result : goal.overflow_add-result
overflow_add-result c =
    let z = charged_sizes c.args.weight c.args.shift c.args.congestion c.args.rating c.args.angle c.requires in
    simp (c.size.ensures, to_z-of_z, c.ranges.weight, c.ranges.shift, c.ranges.congestion, c.ranges.rating, z.size, z.shifted, z.rated) z.both

pub overflow_add-result-2 : goal.overflow_add-result-2
overflow_add-result-2 c =
    let z = charged_sizes c.args.weight c.args.shift c.args.congestion c.args.rating c.args.angle c.requires in
    simp (c.size.ensures, to_z-of_z, c.ranges.weight, c.ranges.shift, c.ranges.congestion, c.ranges.rating, c.ranges.angle, z.size, z.shifted, z.rated, z.both) z.sum

pub returns : goal.returns
returns c =
    let z = charged_sizes c.args.weight c.args.shift c.args.congestion c.args.rating c.args.angle c.requires in
    simp (c.size.ensures, to_z-of_z, c.ranges.weight, c.ranges.shift, c.ranges.congestion, c.ranges.rating, c.ranges.angle, z.size, z.shifted, z.rated, z.both, z.sum)
