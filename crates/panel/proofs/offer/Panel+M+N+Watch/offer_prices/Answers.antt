use Rattle.std.proofs.Common.{rules, Ok, Err}
use Rattle.panel.specs.declared.outcome.Outcome.TheVariants.{Held, Passed}
use Rattle.panel.specs.declared.refusal.OfferRefusal.TheVariants.{Full, Paper}
use Rattle.panel.proofs.Steps.{prices_step}
use Rattle.panel.proofs.offer.Panel+M+N+Watch.offer_prices.Goals as goal

pub returns-in_err-check_room-clause-step : goal.returns-in_err-check_room-clause-step
returns-in_err-check_room-clause-step g c = prices_step g.M.Machine.meaning g.N.Machine.meaning _ _ _ (Err Full) (search rules)

pub returns-in-Err-clause-step : goal.returns-in-Err-clause-step
returns-in-Err-clause-step g c = prices_step g.M.Machine.meaning g.N.Machine.meaning _ _ _ (Err (Paper c.in-Err.refusal)) (search rules)

pub returns-then-not-is_higher-clause-step : goal.returns-then-not-is_higher-clause-step
returns-then-not-is_higher-clause-step g c = prices_step g.M.Machine.meaning g.N.Machine.meaning _ _ _ (Ok (Passed c.in-Ok.floor)) (search rules)

pub returns-clause-step : goal.returns-clause-step
returns-clause-step g c = prices_step g.M.Machine.meaning g.N.Machine.meaning _ _ _ (Ok (Held c.in-Ok.floor)) (search rules)
