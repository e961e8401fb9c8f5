use Rattle.std.proofs.Common.{false, not, ◌&&◌, pos, neg_ℤ, ap, ◌∙◌}
use Rattle.measure.specs.Range.{between}
use Rattle.measure.proofs.Sums.{row_got}
use Rattle.network.specs.View.{case_of}
use Rattle.pricing.specs.Kept.{prices_of, kept_prices, overweight}
use Rattle.measure.proofs.Sizes.{gave}
use Rattle.pricing.proofs.residue.PricedCase.is_overweight.Goals as goal

pub returns : goal.returns
returns g c =
    let s = c.args.self.now in
    let b = c.in-Some.branch.now in
    row_got false (overweight (case_of s.case) (kept_prices (prices_of g.C.Column.value s.prices.now))) s.case.branches.now c.args.row b _ c.in-Some.ensures.lookup.3
    (ap (λ t. b.service && not t) (c.is_between.ensures ∙ ap (between (neg_ℤ (pos 10000000000)) (pos 10000000000)) (gave c.weight.type_inv c.weight.ensures)))
