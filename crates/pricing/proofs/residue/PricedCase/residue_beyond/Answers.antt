use Rattle.std.proofs.Common.{rules}
use Rattle.network.specs.View.{case_of}
use Rattle.pricing.specs.Kept.{prices_of, kept_prices, residue_beyond}
use Rattle.pricing.proofs.RowLimits.{first_below}
use Rattle.pricing.proofs.PriceLists.{residue_lowest}
use Rattle.pricing.proofs.residue.PricedCase.residue_beyond.Goals as goal

pub returns : goal.returns
returns g c =
    let s = c.args.self.now in
    let q = kept_prices (prices_of g.C.Column.value s.prices.now) in
    residue_lowest (case_of s.case) q c.first_broken.result (first_below (residue_beyond (case_of s.case) q) _ c.bus_count.result _ _ c.bus_count.ensures c.first_broken.ensures (λ i b l k. search rules))
