use Rattle.std.proofs.Common.{rules}
use Rattle.network.specs.View.{case_of}
use Rattle.pricing.specs.Kept.{prices_of, bus_price_beyond}
use Rattle.pricing.proofs.RowLimits.{first_below}
use Rattle.pricing.proofs.PriceLists.{bus_lowest}
use Rattle.pricing.proofs.residue.PricedCase.bus_price_beyond.Goals as goal

pub returns : goal.returns
returns g c =
    let s = c.args.self.now in
    let q = prices_of g.C.Column.value s.prices.now in
    bus_lowest (case_of s.case) q c.first_broken.result (first_below (bus_price_beyond q) _ c.bus_count.result _ _ c.bus_count.ensures c.first_broken.ensures (λ i b l k. search rules))
