use Rattle.std.proofs.Common.{◌≤◌, arith, lit≤, w8, Fits, rules}
use Rattle.measure.proofs.Sums.{row_small, summed_rows}
use Rattle.judging.specs.Whole.{angle_of, outflow_row}
use Rattle.judging.proofs.Whole.{outflow_within}
use Rattle.judging.proofs.flows.Flows.outflow.Goals as goal

pub sum-requires-clause-small : goal.sum-requires-clause-small
sum-requires-clause-small g c =
    let s = c.args.self.now in
    let θ = g.C.Column.value s.angles.given.now.column in
    λ i z l k.
    row_small 16000000000000 (outflow_row (angle_of s.angles.buses θ) c.args.bus) s.branches.now i z (lit≤ tt) (λ r. outflow_within s.angles.buses θ r.item c.args.bus) (search rules)

pub returns : goal.returns
returns g c =
    let s = c.args.self.now in
    let θ = g.C.Column.value s.angles.given.now.column in
    let h : Fits w8 c.args.self.now.count = search rules in
    let n : c.args.self.now.count ≤ 255 = omega arith in
    let k = summed_rows 16000000000000 (outflow_row (angle_of s.angles.buses θ) c.args.bus) s.branches.now _ s.count c.sum.result c.sum.type_inv n (λ r. outflow_within s.angles.buses θ r.item c.args.bus) c.sum.ensures (λ i z l k. search rules) in
    record { small = k.0; exact = k.1 }
