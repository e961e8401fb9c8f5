use Rattle.std.proofs.Common.{pos, sym, ap, ◌∙◌, w64}
use lib.Signed.{le_z}
use Rattle.std.proofs.lemmas.Int.{to_z-of_z}
use Rattle.std.proofs.lemmas.Bool.{cond-true, cond-false}
use Rattle.pricing.proofs.Kept.{not_negative, stretched_sizes}
use Rattle.pricing.proofs.charge.stretched.Goals as goal

pub overflow_mul-result : goal.overflow_mul-result
overflow_mul-result c = simp (to_z-of_z, c.ranges.price, c.ranges.high) (stretched_sizes _ _ _ c.requires).above

pub overflow_mul-result-else-price-ge0 : goal.overflow_mul-result-else-price-ge0
overflow_mul-result-else-price-ge0 c = simp (to_z-of_z, c.ranges.price, c.ranges.low) (stretched_sizes _ _ _ c.requires).below

pub returns-then-price-ge0 : goal.returns-then-price-ge0
returns-then-price-ge0 c =
    let z = stretched_sizes c.args.price c.args.low c.args.high c.requires in
    let t = sym (not_negative c.args.price) ∙ ap (le_z (pos 0)) (sym (to_z-of_z w64 c.args.price c.ranges.price)) ∙ c.if-price-ge0.true in
    simp (to_z-of_z, c.ranges.price, c.ranges.high, z.above) (sym (cond-true _ _ _ t))

pub returns-else-price-ge0 : goal.returns-else-price-ge0
returns-else-price-ge0 c =
    let z = stretched_sizes c.args.price c.args.low c.args.high c.requires in
    let t = sym (not_negative c.args.price) ∙ ap (le_z (pos 0)) (sym (to_z-of_z w64 c.args.price c.ranges.price)) ∙ c.if-price-ge0.false in
    simp (to_z-of_z, c.ranges.price, c.ranges.low, z.below) (sym (cond-false _ _ _ t))
