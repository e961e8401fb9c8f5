use Rattle.std.proofs.Common.{rules}
use Rattle.measure.specs.Rows.{row_test}
use Rattle.measure.proofs.Sums.{first_of-lowest}
use Rattle.network.specs.View.{case_of}
use Rattle.pricing.specs.Kept.{prices_of, kept_prices, overweight}
use Rattle.pricing.proofs.RowLimits.{lowest_row}
use Rattle.pricing.proofs.PriceLists.{HeavyBranch, overweight_true, true_overweight}
use Rattle.pricing.proofs.residue.PricedCase.overweight.Goals as goal

pub returns : goal.returns
returns g c =
    let s = c.args.self.now in
    let k = case_of s.case in
    let q = kept_prices (prices_of g.C.Column.value s.prices.now) in
    lowest_row (overweight k q) (HeavyBranch k q) (overweight_true k q) (true_overweight k q) s.case.branches.now s.case.nl c.first_broken.result
    (first_of-lowest (row_test (overweight k q) s.case.branches.now) _ s.case.nl _ c.first_broken.ensures (λ i b l k. search rules))
