use Rattle.std.proofs.Common.{◌+ℤ◌, ap, ◌∙◌, lit<}
use Rattle.measure.specs.Rows.{only}
use Rattle.measure.proofs.Sizes.{fits}
use Rattle.network.specs.Floor.{pull}
use Rattle.network.specs.View.{case_of}
use Rattle.pricing.specs.Kept.{prices_of}
use Rattle.measure.proofs.Sizes.{gave}
use Rattle.pricing.proofs.Kept.{fits_as, passed_as, pulled_within}
use Rattle.pricing.proofs.residue.PricedCase.pull.Goals as goal

pub overflow_add-weight : goal.overflow_add-weight
overflow_add-weight g c =
    let s = c.args.self.now in
    let w = gave c.weight.type_inv c.weight.ensures in
    let a = gave c.angle_price_at.type_inv c.angle_price_at.ensures in
    fits_as (λ i. w i +ℤ a i) (fits 3000100000000 _ (lit< tt) (pulled_within (case_of s.case) (prices_of g.C.Column.value s.prices.now) (record { item = c.args.branch.now; row = c.args.row })))

pub returns : goal.returns
unfolding pull
returns g c =
    let s = c.args.self.now in
    let w = gave c.weight.type_inv c.weight.ensures in
    let a = gave c.angle_price_at.type_inv c.angle_price_at.ensures in
    gave c.only_if.type_inv c.only_if.ensures
    ∙ ap (only c.args.branch.now.service) (passed_as (λ i. w i +ℤ a i) (fits 3000100000000 _ (lit< tt) (pulled_within (case_of s.case) (prices_of g.C.Column.value s.prices.now) (record { item = c.args.branch.now; row = c.args.row }))))
