use Rattle.std.proofs.Common.{◌≡◌, ℕ, Option, None, Result, Err, sym, ap, ◌∙◌, subst, arith}
use borrow.Author.Differences.{ints}
use Rattle.std.specs.Option.{ok_or}
use Rattle.std.specs.Result.{result_ok}
use Rattle.std.proofs.lemmas.Option.{MatchOption-at_none, MatchOption-at_some}
use Rattle.std.proofs.lemmas.Result.{err_from_is_err_and}
use Rattle.measure.specs.Fraction.{whole, ◌≤ᶠ◌}
use Rattle.measure.specs.Rows.{Row}
use Rattle.machine.specs.Group.{counted_cost, true_cost_of}
use Rattle.measure.proofs.Sums.{stands_read}
use Rattle.machine.proofs.Totals.{total_more, all_more, total_none, all_none, true_below_counted}
use Rattle.machine.proofs.group.total_cost.Goals as goal

-- where there is no value, `ok_or` answers the error that it was given
err_is : {X : Type 0} (o : Option X) (r : Result X ℕ) (e i : ℕ) → o ≡ None → r ≡ ok_or o i → r ≡ Err e → e ≡ i
err_is o r e i n v w = cc

pub returns-in_err-cost : goal.returns-in_err-cost
returns-in_err-cost g c =
    let p = err_from_is_err_and c.from_residual.result c.from_residual.ensures.1 in
    let o = c.ok_or.ensures.ok_part ∙ ap result_ok c.in_err-cost.was in
    let i : c.in_err-cost.field-0.0 ≡ c.loop-i.i = err_is c.cost.result c.ok_or.result _ _ o c.ok_or.ensures.value c.in_err-cost.was in
    rw (p.1, p.2, i) (record {
      item = c.index-machines-i.result;
      stands = stands_read c.args.machines.now c.loop-i.i c.index-machines-i.result c.loop-i-test.true c.index-machines-i.is;
      holds = simp c.at.ensures at (MatchOption-at_none _ _ o c.cost.ensures);
    })

pub overflow_add-total : goal.overflow_add-total
overflow_add-total g c =
    let k = (MatchOption-at_some _ _ _ (c.ok_or.ensures.ok_part ∙ ap result_ok c.in_ok-cost.was) c.cost.ensures) in
    let r = (g.met.M.Machine.lawful c.index-machines-i.result).answer_range _ k.0 in
    omega (arith, ints, r, k.1, c.loop-i.invariant.1, c.loop-i.total-is, c.loop-i-test.true, c.requires.few)

pub loop-i-preserved : goal.loop-i-preserved
loop-i-preserved g c =
    let M = g.M.Machine.meaning in
    let p = g.C.Column.value c.args.powers.now.column in
    let m = c.index-machines-i.result in
    let k = simp c.at.ensures at (MatchOption-at_some _ _ _ (c.ok_or.ensures.ok_part ∙ ap result_ok c.in_ok-cost.was) c.cost.ensures) in
    let r = (g.met.M.Machine.lawful m).answer_range (p c.loop-i.i) k.0 in
    let s = total_more c.args.machines.now c.loop-i.i m c.loop-i-test.true c.index-machines-i.is (λ (r : Row _). M.cost_answer r.item (p r.row)) in (
      omega (arith, ints, r, s, k.1, c.loop-i.invariant.0, c.loop-i.invariant.1, c.loop-i.total-is, c.loop-i-test.true, c.requires.few),
      omega (arith, ints, r, k.1, c.loop-i.invariant.1, c.loop-i.total-is, c.loop-i-test.true, c.requires.few),
      λ rest. c.loop-i.invariant.2 (all_more c.args.machines.now c.loop-i.i m c.loop-i-test.true c.index-machines-i.is (λ (r : Row _). M.Allowed r.item (whole (p r.row))) k.0 rest),
    )

pub returns : goal.returns
returns g c =
    let M = g.M.Machine.meaning in
    let ms = c.args.machines.now in
    let p = g.C.Column.value c.args.powers.now.column in
    let a = c.loop-i.invariant.2 (all_none ms c.loop-i.i c.loop-i-test.false (λ (r : Row _). M.Allowed r.item (whole (p r.row)))) in
    let e : _ ≡ counted_cost M ms p = omega (arith, ints, c.loop-i.invariant.0, c.loop-i.total-is, total_none ms c.loop-i.i c.loop-i-test.false (λ (r : Row _). M.cost_answer r.item (p r.row))) in
    record {
      allowed = a;
      counted = e;
      true_cost = subst (λ t. true_cost_of M ms (λ i. whole (p i)) ≤ᶠ whole t) (sym e) (true_below_counted M g.met.M.Machine.lawful ms p a);
    }
