use Rattle.std.proofs.Common.{◌≤◌, arith, lit≤, w8, Fits, rules}
use Rattle.network.specs.View.{case_of}
use Rattle.pricing.specs.Kept.{prices_of, kept_prices, price_size}
use Rattle.measure.proofs.Sums.{row_small, summed_rows}
use Rattle.pricing.proofs.Kept.{price_size_within}
use Rattle.pricing.proofs.residue.PricedCase.price_sizes.Goals as goal

pub sum-requires-clause-small : goal.sum-requires-clause-small
sum-requires-clause-small g c =
    let s = c.args.self.now in
    let q = prices_of g.C.Column.value s.prices.now in
    λ i z l k.
    row_small 1000000 (price_size (case_of s.case) (kept_prices q)) s.case.buses.now i z (lit≤ tt) (price_size_within (case_of s.case) q) (search rules)

pub returns : goal.returns
returns g c =
    let s = c.args.self.now in
    let q = prices_of g.C.Column.value s.prices.now in
    let h : Fits w8 c.args.self.now.case.nb = search rules in
    let n : c.args.self.now.case.nb ≤ 255 = omega arith in
    let k = summed_rows 1000000 (price_size (case_of s.case) (kept_prices q)) s.case.buses.now _ s.case.nb c.sum.result c.sum.type_inv n (price_size_within (case_of s.case) q) c.sum.ensures (λ i z l k. search rules) in
    record { small = k.0; exact = k.1 }
