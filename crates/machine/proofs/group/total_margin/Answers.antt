use Rattle.std.proofs.Common.{arith}
use borrow.Author.Differences.{ints}
use Rattle.std.proofs.lemmas.Option.{MatchOption-at_some}
use Rattle.measure.specs.Rows.{Row}
use Rattle.machine.proofs.Totals.{total_more, total_none}
use Rattle.machine.proofs.group.total_margin.Goals as goal

pub overflow_add-total : goal.overflow_add-total
overflow_add-total g c =
    let q = c.unwrap-price.result in
    let r = (g.met.M.Machine.lawful c.index-machines-i.result).margin_range q.value q.ok in
    omega (arith, ints, r, c.loop-i.invariant.1, c.margin-total.ensures, c.loop-i.total-is, c.loop-i-test.true, c.requires.few)

pub loop-i-preserved : goal.loop-i-preserved
loop-i-preserved g c =
    let M = g.M.Machine.meaning in
    let p = g.C.Column.value c.args.prices.now.column in
    let m = c.index-machines-i.result in
    let q = c.unwrap-price.result in
    let k = MatchOption-at_some _ _ q c.unwrap-price.ensures c.at.ensures in
    let r = (g.met.M.Machine.lawful m).margin_range q.value q.ok in
    let s = total_more c.args.machines.now c.loop-i.i m c.loop-i-test.true c.index-machines-i.is (λ (r : Row _). M.margin r.item (p r.row)) in
    let e = simp k at c.margin-total.ensures in (
      omega (arith, ints, r, s, e, c.loop-i.invariant.0, c.loop-i.invariant.1, c.margin-total.ensures, c.loop-i.total-is, c.loop-i-test.true, c.requires.few),
      omega (arith, ints, r, c.loop-i.invariant.1, c.margin-total.ensures, c.loop-i.total-is, c.loop-i-test.true, c.requires.few),
    )

pub returns : goal.returns
returns g c =
    let M = g.M.Machine.meaning in
    let p = g.C.Column.value c.args.prices.now.column in
    omega (arith, ints, c.loop-i.invariant.0, c.loop-i.total-is, total_none c.args.machines.now c.loop-i.i c.loop-i-test.false (λ (r : Row _). M.margin r.item (p r.row)))
