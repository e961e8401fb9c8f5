-- What a kind of machine means, and the facts that tie its answers to that meaning.
use Rattle.std.specs.Prelude.{ℕ, ℤ, pos, neg_ℤ, ◌≤ℤ◌}
use Rattle.measure.specs.Range.{Within}
use Rattle.measure.specs.Fraction.{Fraction, whole, Same, ◌≤ᶠ◌, ◌-ᶠ◌, ◌·ᶠ◌, Between, Ceiling}

-- Of each machine of the kind: the name of its bus, the powers that it may run at (in fractions of a watt), its true cost at each, and its
-- answers: the cost that it gives at a whole power, and its margin at a price.
pub record Meaning (M : Type 0) : Type 1 where
  pub bus : M → ℕ
  pub Allowed : M → Fraction → Type 0
  pub true_cost : M → Fraction → Fraction
  pub cost_answer : M → ℤ → ℤ
  pub margin : M → ℤ → ℤ

-- r is the greatest whole number that is at most true cost - q × power at every allowed power
pub record Margin (Allowed : Fraction → Type 0) (cost : Fraction → Fraction) (q r : ℤ) : Type 0 where
  pub below : (x : Fraction) → Allowed x → whole r ≤ᶠ (cost x -ᶠ q ·ᶠ x)
  pub greatest : (s : ℤ) → ((x : Fraction) → Allowed x → whole s ≤ᶠ (cost x -ᶠ q ·ᶠ x)) → s ≤ℤ r

-- What each kind must prove of a machine. Allowed powers lie within ±100,000,000 and one of them is whole; a cost answer is the least whole
-- number not below the true cost; prices lie within ±1,000,000, and answers within ±10^15. Fractions that are the same are treated alike.
pub record Lawful (Allowed : Fraction → Type 0) (cost : Fraction → Fraction) (answer margin : ℤ → ℤ) : Type 0 where
  pub allowed_same : (x y : Fraction) → Same x y → Allowed x → Allowed y
  pub cost_same : (x y : Fraction) → Same x y → Allowed x → Same (cost x) (cost y)
  pub allowed_range : (x : Fraction) → Allowed x → Between (neg_ℤ (pos 100000000)) (pos 100000000) x
  pub allowed_whole : (p : ℤ) × Allowed (whole p)
  pub answer_is : (p : ℤ) → Allowed (whole p) → Ceiling (cost (whole p)) (answer p)
  pub answer_range : (p : ℤ) → Allowed (whole p) → Within 1000000000000000 (answer p)
  pub margin_is : (q : ℤ) → Within 1000000 q → Margin Allowed cost q (margin q)
  pub margin_range : (q : ℤ) → Within 1000000 q → Within 1000000000000000 (margin q)

-- every machine of the kind keeps them
abbrev pub Keeps : {M : Type 0} → Meaning M → Type 0
Keeps {M} 𝓜 = (m : M) → Lawful (𝓜.Allowed m) (𝓜.true_cost m) (𝓜.cost_answer m) (𝓜.margin m)
