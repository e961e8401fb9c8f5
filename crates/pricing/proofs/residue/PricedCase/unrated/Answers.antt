use Rattle.std.proofs.Common.{rules}
use Rattle.measure.specs.Rows.{row_test}
use Rattle.measure.proofs.Sums.{first_of-lowest}
use Rattle.pricing.specs.Kept.{prices_of, unrated}
use Rattle.pricing.proofs.RowLimits.{lowest_row}
use Rattle.pricing.proofs.PriceLists.{UnratedBranch, unrated_true, true_unrated}
use Rattle.pricing.proofs.residue.PricedCase.unrated.Goals as goal

pub returns : goal.returns
returns g c =
    let s = c.args.self.now in
    let q = prices_of g.C.Column.value s.prices.now in
    lowest_row (unrated q) (UnratedBranch q) (unrated_true q) (true_unrated q) s.case.branches.now s.case.nl c.first_broken.result
    (first_of-lowest (row_test (unrated q) s.case.branches.now) _ s.case.nl _ c.first_broken.ensures (λ i b l k. search rules))
