-- A machine whose cost is a quadratic: 1,000,000 c0 + c1 p + c2 p p / 1,000,000 at power p, from lo to hi.
use Rattle.std.specs.Prelude.{Bool, cond, ◌&&◌, ℤ, pos, ◌+ℤ◌, ◌-ℤ◌, ◌*ℤ◌, neg_ℤ, ◌≤ℤ◌, int_le}
use Rattle.measure.specs.Range.{Within, between, floor_div, ceil_div}
use Rattle.measure.specs.Fraction.{Fraction, whole, millionths, Between, ◌+ᶠ◌, ◌*ᶠ◌, ◌·ᶠ◌}
use Rattle.machine.specs.Meaning.{Meaning}
use Rattle.machine.specs.Idle.{allowed_if, cost_if, answer_if}
use Rattle.machine.specs.Limits.{limits_in_range, Limits}
use Rattle.curved.specs.declared.curved.Curved.{Curved}

-- the row keeps its ranges, and its limits are not crossed
abbrev pub in_range : Curved → Bool
in_range m =
    limits_in_range m.bus m.lo.0 m.hi.0
    && between (neg_ℤ (pos 100000000)) (pos 100000000) m.c0
    && between (neg_ℤ (pos 1000000)) (pos 1000000) m.c1
    && between (pos 1) (pos 500) m.c2

-- what that test tells
pub record Ranges (m : Curved) : Type 0 where
  pub limits : Limits m.lo.0 m.hi.0
  pub c0 : Within 100000000 m.c0
  pub c1 : Within 1000000 m.c1
  pub c2_low : pos 1 ≤ℤ m.c2
  pub c2_high : m.c2 ≤ℤ pos 500

-- the true cost at power x
abbrev pub quadratic : Curved → Fraction → Fraction
quadratic m x = whole (pos 1000000 *ℤ m.c0) +ᶠ m.c1 ·ᶠ x +ᶠ millionths m.c2 *ᶠ x *ᶠ x

-- the same at a whole power, rounded up
abbrev pub rounded_up : Curved → ℤ → ℤ
rounded_up m p = pos 1000000 *ℤ m.c0 +ℤ m.c1 *ℤ p +ℤ ceil_div (m.c2 *ℤ p *ℤ p) (pos 1000000)

-- cost - q × power at the whole power p, rounded down; b is q - c1
abbrev pub at_limit : Curved → ℤ → ℤ → ℤ
at_limit m b p = pos 1000000 *ℤ m.c0 -ℤ b *ℤ p +ℤ floor_div (m.c2 *ℤ p *ℤ p) (pos 1000000)

-- the same at the power where it is least, 1,000,000 b / (2 c2)
abbrev pub at_vertex : Curved → ℤ → ℤ
at_vertex m b = pos 1000000 *ℤ m.c0 +ℤ floor_div (neg_ℤ (pos 250000 *ℤ b *ℤ b)) m.c2

-- the least over lo to hi: at a limit, or at the vertex where that lies between them
abbrev pub least_over : Curved → ℤ → ℤ
least_over m b =
    cond (int_le (pos 1000000 *ℤ b) (pos 2 *ℤ m.c2 *ℤ m.lo.0)) (at_limit m b m.lo.0)
    (cond (int_le (pos 2 *ℤ m.c2 *ℤ m.hi.0) (pos 1000000 *ℤ b)) (at_limit m b m.hi.0) (at_vertex m b))

abbrev pub curved_meaning : Meaning Curved
curved_meaning = record {
  bus = λ m. m.bus;
  Allowed = λ m. allowed_if (in_range m) (Between m.lo.0 m.hi.0);
  true_cost = λ m. cost_if (in_range m) (quadratic m);
  cost_answer = λ m. answer_if (in_range m) (rounded_up m);
  margin = λ m. answer_if (in_range m) (λ q. least_over m (q -ℤ m.c1));
}
