use Rattle.std.proofs.Common.{ap, length, ◌∙◌}
use Rattle.std.proofs.lemmas.Result.{err_from_is_err_and}
use Rattle.panel.proofs.Judging.{judged_prices, unlawful_prices}
use Rattle.network.specs.View.{case_of}
use Rattle.panel.proofs.panel.Panel.floor_of.Goals as goal

pub returns-in_err-floor : goal.returns-in_err-floor
returns-in_err-floor g c =
    let p = err_from_is_err_and c.from_residual-in_err-floor.result c.from_residual-in_err-floor.ensures.1 in
    rw (p.1, p.2)
    (unlawful_prices g.M.Machine.meaning g.N.Machine.meaning c.args.self.now c.args.words.now _ _ c.in_ok-prices.prices
    (c.bus_count.ensures ∙ ap (λ k. length k.buses) c.case-case.ensures) (c.branch_count.ensures ∙ ap (λ k. length k.branches) c.case-case.ensures)
    c.in_ok-prices.ensures (case_of c.case-case.result) c.case-case.ensures c.in_err-floor.field-0.0 c.in_err-floor.ensures)

pub returns : goal.returns
returns g c =
    (judged_prices g.M.Machine.meaning g.N.Machine.meaning c.args.self.now c.args.words.now _ _ c.in_ok-prices.prices
    (c.bus_count.ensures ∙ ap (λ k. length k.buses) c.case-case.ensures) (c.branch_count.ensures ∙ ap (λ k. length k.branches) c.case-case.ensures)
    c.in_ok-prices.ensures (case_of c.case-case.result) c.case-case.ensures c.in_ok-floor.field-0 c.in_ok-floor.ensures)
