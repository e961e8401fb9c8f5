use Rattle.std.proofs.Common.{sym, ◌∙◌}
use Rattle.file_run.proofs.Calls.{dispatch_called, prices_called, demand_called, mark_called, hand_over_called}
use Rattle.file_run.proofs.papers.answer_paper.Goals as goal

pub returns-in-Dispatch : goal.returns-in-Dispatch
returns-in-Dispatch c =
    let k = c.offer_dispatch in
    dispatch_called _ _ _ _ _ _ k.result (sym c.in-Dispatch.is ∙ c.call_of.ensures) k.ensures.exact k.ensures.step c.offer_answer.ensures

pub returns-in-Prices : goal.returns-in-Prices
returns-in-Prices c =
    let k = c.offer_prices in
    prices_called _ _ _ _ _ _ k.result (sym c.in-Prices.is ∙ c.call_of.ensures) k.ensures.exact k.ensures.step c.offer_answer-in-Prices.ensures

pub returns-in-Demand : goal.returns-in-Demand
returns-in-Demand c =
    let k = c.change_demand in
    demand_called _ _ _ _ _ _ k.result (sym c.in-Demand.is ∙ c.call_of.ensures) k.ensures.exact k.ensures.step c.change_answer.ensures

pub returns-in-Mark : goal.returns-in-Mark
returns-in-Mark c =
    let k = c.change_mark in
    mark_called _ _ _ _ _ _ k.result (sym c.in-Mark.is ∙ c.call_of.ensures) k.ensures.exact k.ensures.step c.change_answer-in-Mark.ensures

pub returns-in-HandOver : goal.returns-in-HandOver
returns-in-HandOver c =
    let k = c.hand_over in
    hand_over_called _ _ _ _ _ _ k.result (sym c.in-HandOver.is ∙ c.call_of.ensures) k.ensures.exact k.ensures.step c.hand_over_answer.ensures
