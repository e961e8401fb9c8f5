use Rattle.std.proofs.Common.{◌≡◌, ℕ, ◌+◌, ◌<◌, length, get_or, ◌≤ℤ◌, ◌<ℤ◌, ap, ◌∙◌, rules, arith}
use Rattle.case_paper.specs.Order.{amount_at}
use Rattle.case_paper.proofs.Orders.{part_on, on_part, tail_at}
use Rattle.case_paper.proofs.order.stepped_in_order.Goals as goal
use Rattle.case_paper.proofs.order.stepped_in_order.Goals.{After-keeps, Else-rises}

pub returns-then-rises : goal.returns-then-rises
returns-then-rises c =
    let split = c.split_at.ensures in
    let points : (k : ℕ) → k < length c.split_at.result.0.now → get_or c.split_at.result.0.now k 0 ≡ get_or c.args.xs.now (3 + k) 0 =
    λ k h. split.by_index.1 k 0 (omega arith) ∙ tail_at c.args.xs.now 3 k (omega arith) in
    let slopes : (k : ℕ) → k < length c.split_at.result.1.now → get_or c.split_at.result.1.now k 0 ≡ get_or c.args.xs.now ((3 + c.args.n) + k) 0 =
    λ k h. split.by_index.2 k 0 ∙ tail_at c.args.xs.now 3 (c.args.n + k) (omega arith) ∙ ap (λ (j : ℕ). get_or c.args.xs.now j 0) (omega arith) in
    let l : amount_at c.args.xs.now 0 ≤ℤ amount_at c.args.xs.now 1 = search rules in (
      λ t. (
        l,
        (λ k h. part_on (λ x y. x <ℤ y) c.args.xs.now c.split_at.result.0.now 3 points (c.rises.ensures.0 c.if-rises.true) k (omega arith)),
        λ k h. part_on (λ x y. x ≤ℤ y) c.args.xs.now c.split_at.result.1.now (3 + c.args.n) slopes (c.keeps.ensures.0 t) k (omega arith),
      ),
      λ o. c.keeps.ensures.1 (on_part (λ x y. x ≤ℤ y) c.args.xs.now c.split_at.result.1.now (3 + c.args.n) slopes (λ k h. o.2 k (omega arith))),
    )

pub returns-else-rises : goal.returns-else-rises
returns-else-rises c =
    let split = c.split_at.ensures in
    let points : (k : ℕ) → k < length c.split_at.result.0.now → get_or c.split_at.result.0.now k 0 ≡ get_or c.args.xs.now (3 + k) 0 =
    λ k h. split.by_index.1 k 0 (omega arith) ∙ tail_at c.args.xs.now 3 k (omega arith) in (
      λ t. absurd (search rules),
      λ o. c.rises.ensures.1 (on_part (λ x y. x <ℤ y) c.args.xs.now c.split_at.result.0.now 3 points (λ k h. o.1 k (omega arith))),
    )
