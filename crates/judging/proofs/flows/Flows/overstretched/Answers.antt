use Rattle.std.proofs.Common.{rules}
use Rattle.measure.specs.Rows.{row_test}
use Rattle.measure.proofs.Sums.{first_of-lowest}
use Rattle.judging.specs.Whole.{angle_of, overstretched_row}
use Rattle.judging.proofs.flows.Flows.overstretched.Goals as goal

pub returns : goal.returns
returns g c =
    let s = c.args.self.now in
    first_of-lowest (row_test (overstretched_row (angle_of s.angles.buses (g.C.Column.value s.angles.given.now.column))) s.branches.now) _ s.count _ c.first_broken.ensures (λ i b l k. search rules)
