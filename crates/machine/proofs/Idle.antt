-- A machine that stands idle keeps the laws; so a kind keeps them that does where its rows are in range.
use Rattle.std.proofs.Common.{◌≡◌, Bool, true, false, ℤ, pos, ◌*ℤ◌, refl, ap, ◌∙◌, arith}
use lib.IntN.{*ℤ-zero}
use Rattle.measure.specs.Fraction.{Fraction, whole, Same, ◌≤ᶠ◌, ◌-ᶠ◌, ◌·ᶠ◌}
use Rattle.machine.specs.Meaning.{Lawful}
use Rattle.machine.specs.Idle.{allowed_if, cost_if, answer_if}
use Rattle.measure.proofs.Laws.{lin}
use Rattle.measure.proofs.Order.{mul_cancel_eq}
use Rattle.measure.proofs.Fractions.{den_positive}

zero_num : (x : Fraction) → Same x (whole (pos 0)) → x.num ≡ pos 0
zero_num x s = omega (arith, lin, s.cross)

zero_same : (x : Fraction) → x.num ≡ pos 0 → Same x (whole (pos 0))
zero_same x e = record { cross = omega (arith, lin) }

-- same as a fraction that is 0
zero_too : (x y : Fraction) → Same x y → x.num ≡ pos 0 → y.num ≡ pos 0
zero_too x y s e = mul_cancel_eq y.num (pos 0) (pos x.den) (den_positive x) (omega (arith, lin, rw e at s.cross))

abbrev none : Fraction → Type 0
none x = Same x (whole (pos 0))

abbrev free : Fraction → Fraction
free x = whole (pos 0)

abbrev nothing : ℤ → ℤ
nothing z = pos 0

idle_below : (q : ℤ) (x : Fraction) → x.num ≡ pos 0 → whole (pos 0) ≤ᶠ (free x -ᶠ q ·ᶠ x)
unfolding ◌-ᶠ◌ ◌·ᶠ◌
idle_below q x e = record { cross = omega (arith, lin, ap (λ (n : ℤ). q *ℤ n) e ∙ *ℤ-zero q) }

idle : Lawful none free nothing nothing
unfolding ◌-ᶠ◌ ◌·ᶠ◌
idle = record {
  allowed_same = λ x y s a. zero_same y (zero_too x y s (zero_num x a));
  cost_same = λ x y s a. record { cross = refl };
  allowed_range = λ x a. let e = zero_num x a in record { low = record { cross = omega (arith, lin) }; high = record { cross = omega (arith, lin) } };
  allowed_whole = (pos 0, record { cross = refl });
  answer_is = λ p a. record { above = record { cross = omega (arith, lin) }; least = λ s h. omega (arith, lin, h.cross) };
  answer_range = λ p a. omega (arith, lin);
  margin_is = λ q r. record { below = λ x a. idle_below q x (zero_num x a); greatest = λ s h. omega (arith, lin, (h (whole (pos 0)) (record { cross = refl })).cross) };
  margin_range = λ q r. omega (arith, lin);
}

pub lawful_if : (ok : Bool) (Allowed : Fraction → Type 0) (cost : Fraction → Fraction) (answer margin : ℤ → ℤ) → (ok ≡ true → Lawful Allowed cost answer margin) → Lawful (allowed_if ok Allowed) (cost_if ok cost) (answer_if ok answer) (answer_if ok margin)
lawful_if true Allowed cost answer margin h = h refl
lawful_if false Allowed cost answer margin h = idle
