use Rattle.std.proofs.Common.{rules}
use Rattle.measure.specs.Rows.{row_test}
use Rattle.measure.proofs.Sums.{first_of-lowest}
use Rattle.network.specs.View.{case_of}
use Rattle.judging.specs.Whole.{angle_of, unbalanced}
use Rattle.judging.proofs.balance.Balance.unbalanced.Goals as goal

pub returns : goal.returns
returns g c =
    let s = c.args.self.now in
    let v = g.C.Column.value in
    first_of-lowest (row_test (unbalanced (case_of s.case) (v s.first.now.column) (v s.second.now.column) (angle_of s.angles.buses (v s.angles.given.now.column))) s.case.buses.now) _ s.case.nb _ c.first_broken.ensures (λ i b l k. search rules)
