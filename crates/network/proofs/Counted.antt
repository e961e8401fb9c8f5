-- A whole dispatch truly costs at most what it is counted at: each cost answer is at least the true cost, and so are the sums.
use Rattle.measure.specs.Fraction.{whole}
use Rattle.measure.proofs.Fractions.{add_most}
use Rattle.machine.specs.Meaning.{Meaning, Keeps}
use Rattle.machine.specs.Group.{true_cost_of, counted_cost}
use Rattle.machine.proofs.Totals.{true_below_counted}
use Rattle.network.specs.Model.{true_cost, counted}
use Rattle.network.specs.Theorems.{CountedTheorem}

pub counted-covers : {M N : Type 0} (𝓜 : Meaning M) (𝓝 : Meaning N) → Keeps 𝓜 → Keeps 𝓝 → CountedTheorem 𝓜 𝓝
unfolding true_cost counted
counted-covers 𝓜 𝓝 keeps₁ keeps₂ c d meets =
    add_most (true_cost_of 𝓜 c.first.machines (λ i. whole (d.first i))) (true_cost_of 𝓝 c.second.machines (λ i. whole (d.second i)))
    (counted_cost 𝓜 c.first.machines d.first) (counted_cost 𝓝 c.second.machines d.second)
    (true_below_counted 𝓜 keeps₁ c.first.machines d.first meets.first_allowed)
    (true_below_counted 𝓝 keeps₂ c.second.machines d.second meets.second_allowed)
