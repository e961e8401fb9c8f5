use Rattle.std.proofs.Common.{◌≤ℤ◌, refl, rules}
use Rattle.std.proofs.lemmas.Fn.{always_returns_same}
use Rattle.case_paper.proofs.Orders.{all_in_turn, at_most, at_most_tests}
use Rattle.case_paper.proofs.order.keeps.Goals as goal

pub returns : goal.returns
returns c =
    all_in_turn (λ x y. x ≤ℤ y) at_most at_most_tests c.args.xs.now c.is_sorted_by.result
    (c.is_sorted_by.ensures.cases at_most (always_returns_same _ _ _ (λ a r s m. (search (rules, m), refl))))
