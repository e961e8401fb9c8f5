use Rattle.std.proofs.Common.{ℕ, ◌*◌, ◌<◌, ℤ, ◌+ℤ◌, refl, subst, arith, w64, SFits}
use borrow.Author.Differences.{ints}
use Rattle.measure.specs.Range.{Within}
use Rattle.measure.specs.Rows.{IsSumOf}
use Rattle.measure.proofs.Sums.{sum_of-within, sum_of-more}
use Rattle.measure.proofs.rows.sum.Given.{Over, F-post}
use Rattle.measure.proofs.rows.sum.Goals as goal

-- the sum so far and the next number
sum_fits : (a b : ℤ) (n : ℕ) → n < 255 → Within (n * 36000000000000000) a → Within 36000000000000000 b → SFits w64 (a +ℤ b)
sum_fits a b n l h k = omega (arith, ints)

so_far : (g : Over) (c : goal.After-value-sum g) → IsSumOf (F-post g c.args.value) c.loop-row.row c.loop-row.sum
so_far g c = subst (λ z. IsSumOf (F-post g c.args.value) c.loop-row.row z) c.loop-row.sum-is c.loop-row.invariant

next : (g : Over) (c : goal.After-value-sum g) → SFits w64 (c.loop-row.sum +ℤ c.value-sum.result)
next g c =
    let n = c.loop-row.row in
    let t = c.loop-row-test.true in
    sum_fits c.loop-row.sum c.value-sum.result n (omega arith)
    (sum_of-within 36000000000000000 _ n c.loop-row.sum (λ i z l. c.requires.small i z (omega arith)) (so_far g c))
    (c.requires.small n c.value-sum.result (omega arith) c.value-sum.ensures)

pub overflow_add-sum : goal.overflow_add-sum
overflow_add-sum g c = let s = next g c in let e = c.loop-row.sum-is in let o = c.value-sum.type_inv in omega (arith, ints)

pub loop-row-init : goal.loop-row-init
unfolding IsSumOf
loop-row-init g c = refl

pub loop-row-preserved : goal.loop-row-preserved
loop-row-preserved g c =
    let s = next g c in
    let e = c.loop-row.sum-is in
    let o = c.value-sum.type_inv in
    sum_of-more _ c.loop-row.row c.loop-row.sum c.value-sum.result _ (so_far g c) c.value-sum.ensures (omega (arith, ints))
