use Rattle.std.proofs.Common.{false, not, ◌&&◌, ap, ◌∙◌}
use Rattle.measure.proofs.Sums.{row_got}
use Rattle.pricing.specs.Kept.{prices_of, unrated, is_zero}
use Rattle.pricing.proofs.Kept.{rating_fits}
use Rattle.pricing.proofs.PriceLists.{zero_bits}
use Rattle.pricing.proofs.residue.PricedCase.is_unrated.Goals as goal

pub returns : goal.returns
returns g c =
    let s = c.args.self.now in
    let b = c.in-Some.branch.now in
    let r = zero_bits b.rating.0 (rating_fits b).sfits in
    let m = zero_bits c.at.result c.at.type_inv ∙ ap is_zero c.at.ensures in
    row_got false (unrated (prices_of g.C.Column.value s.prices.now)) s.case.branches.now c.args.row b _ c.in-Some.ensures.lookup.3
    (λ i. b.service && r i && not (m i))
