use Rattle.std.proofs.Common.{ℕ, ◌≤◌, get_or, arith, lit≤, w8, Fits, rules}
use Rattle.measure.proofs.Sums.{row_small, summed_rows}
use Rattle.judging.specs.Whole.{given_at}
use Rattle.judging.proofs.Whole.{given_within}
use Rattle.judging.proofs.balance.Injections.total.Goals as goal

pub sum-requires-clause-small : goal.sum-requires-clause-small
sum-requires-clause-small g c =
    let s = c.args.self.now in
    let p = g.C.Column.value s.powers.now.column in
    let place : ℕ → ℕ = λ i. get_or s.machines.places.now i 0 in
    λ i z l k.
    row_small 100000000 (given_at place p c.args.bus) s.machines.rows.now i z (lit≤ tt) (given_within place p c.args.bus) (search rules)

pub returns : goal.returns
returns g c =
    let s = c.args.self.now in
    let p = g.C.Column.value s.powers.now.column in
    let place : ℕ → ℕ = λ i. get_or s.machines.places.now i 0 in
    let h : Fits w8 c.args.self.now.machines.count = search rules in
    let n : c.args.self.now.machines.count ≤ 255 = omega arith in
    let k = summed_rows 100000000 (given_at place p c.args.bus) s.machines.rows.now _ s.machines.count c.sum.result c.sum.type_inv n (given_within place p c.args.bus) c.sum.ensures (λ i z l k. search rules) in
    record { small = k.0; exact = k.1 }
