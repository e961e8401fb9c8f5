-- Fractions: a whole number over a whole number of at least 1. Two with equal cross products are the same number; no other equality is used.
use Rattle.std.specs.Prelude.{◌≡◌, ℕ, ◌*◌, ◌≤◌, ℤ, pos, ◌+ℤ◌, ◌-ℤ◌, ◌*ℤ◌, ◌≤ℤ◌}
use Rattle.std.proofs.Math.Nat.{one-le-mul}
use Rattle.std.proofs.Common.{lit≤}

pub record Fraction : Type 0 where
  pub num : ℤ
  pub den : ℕ
  pub positive : 1 ≤ den

-- a whole number as a fraction
abbrev pub whole : ℤ → Fraction
whole n = record { num = n; den = 1; positive = lit≤ tt }

-- a number of millionths
abbrev pub millionths : ℤ → Fraction
millionths n = record { num = n; den = 1000000; positive = lit≤ tt }

-- the same number
pub record Same (a b : Fraction) : Type 0 where
  pub cross : a.num *ℤ pos b.den ≡ b.num *ℤ pos a.den

-- at most
infix 5 ◌≤ᶠ◌
pub record ◌≤ᶠ◌ (a b : Fraction) : Type 0 where
  pub cross : (a.num *ℤ pos b.den) ≤ℤ (b.num *ℤ pos a.den)

infixl 6 ◌+ᶠ◌ ◌-ᶠ◌
unfoldable pub ◌+ᶠ◌ : Fraction → Fraction → Fraction
a +ᶠ b =
    record {
      num = a.num *ℤ pos b.den +ℤ b.num *ℤ pos a.den;
      den = a.den * b.den;
      positive = one-le-mul a.positive b.positive;
    }

unfoldable pub ◌-ᶠ◌ : Fraction → Fraction → Fraction
a -ᶠ b =
    record {
      num = a.num *ℤ pos b.den -ℤ b.num *ℤ pos a.den;
      den = a.den * b.den;
      positive = one-le-mul a.positive b.positive;
    }

infixl 7 ◌*ᶠ◌ ◌·ᶠ◌
unfoldable pub ◌*ᶠ◌ : Fraction → Fraction → Fraction
a *ᶠ b = record { num = a.num *ℤ b.num; den = a.den * b.den; positive = one-le-mul a.positive b.positive }

-- a whole multiple
unfoldable pub ◌·ᶠ◌ : ℤ → Fraction → Fraction
k ·ᶠ a = record { num = k *ℤ a.num; den = a.den; positive = a.positive }

-- a ≤ x ≤ b, for whole numbers a and b
pub record Between (a b : ℤ) (x : Fraction) : Type 0 where
  pub low : whole a ≤ᶠ x
  pub high : x ≤ᶠ whole b

-- r is the least whole number not below x
pub record Ceiling (x : Fraction) (r : ℤ) : Type 0 where
  pub above : x ≤ᶠ whole r
  pub least : (s : ℤ) → x ≤ᶠ whole s → r ≤ℤ s
