use Rattle.std.proofs.Common.{◌∙◌, lit≤, rules}
use Rattle.measure.proofs.Sums.{row_sum}
use Rattle.network.specs.View.{case_of}
use Rattle.pricing.specs.Kept.{prices_of, kept_prices, share}
use Rattle.measure.proofs.Sums.{row_small}
use Rattle.measure.proofs.Sizes.{gave}
use Rattle.pricing.proofs.Kept.{share_within, residue-shares}
use Rattle.pricing.proofs.residue.PricedCase.residue.Goals as goal

pub sum-requires-clause-small : goal.sum-requires-clause-small
sum-requires-clause-small g c =
    let s = c.args.self.now in
    let q = prices_of g.C.Column.value s.prices.now in
    λ i z l k.
    row_small 6000200000000 (share (case_of s.case) (kept_prices q) c.args.bus) s.case.branches.now i z (lit≤ tt) (share_within (case_of s.case) q c.args.bus) (search rules)

pub returns : goal.returns
returns g c =
    let s = c.args.self.now in
    let q = kept_prices (prices_of g.C.Column.value s.prices.now) in
    gave c.sum.type_inv (row_sum (share (case_of s.case) q c.args.bus) s.case.branches.now _ s.case.nl c.sum.result c.sum.ensures (λ i z l k. search rules))
    ∙ residue-shares (case_of s.case) q c.args.bus
