use Rattle.std.proofs.Common.{◌<ℤ◌, refl, rules}
use Rattle.std.proofs.lemmas.Fn.{always_returns_same}
use Rattle.case_paper.proofs.Orders.{all_in_turn, below, below_tests}
use Rattle.case_paper.proofs.order.rises.Goals as goal

pub returns : goal.returns
returns c =
    all_in_turn (λ x y. x <ℤ y) below below_tests c.args.xs.now c.is_sorted_by.result
    (c.is_sorted_by.ensures.cases below (always_returns_same _ _ _ (λ a r s m. (search (rules, m), refl))))
