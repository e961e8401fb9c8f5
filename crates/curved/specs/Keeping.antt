-- A curved machine keeps the laws.
use Rattle.std.specs.Prelude.{◌≡◌, true, false, ℤ, pos, ◌-ℤ◌, ◌*ℤ◌, neg_ℤ, ◌≤ℤ◌, int_le, unsigned_abs}
use Rattle.std.proofs.Common.{sym, arith}
use Rattle.std.proofs.Math.Path.{subst}
use Rattle.std.proofs.lemmas.Int.{ints}
use Rattle.std.proofs.lemmas.Bool.{and_parts, cond_both}
use Rattle.measure.specs.Range.{Within, between}
use Rattle.measure.specs.Fraction.{Fraction, whole, ◌+ᶠ◌, ◌-ᶠ◌, ◌*ᶠ◌, ◌·ᶠ◌, Between, Ceiling}
use Rattle.machine.specs.Meaning.{Lawful, Margin, Keeps}
use Rattle.machine.specs.Limits.{limits_in_range}
use Rattle.curved.specs.Quadratic.{Ranges, in_range, quadratic, rounded_up, at_limit, at_vertex, least_over, curved_meaning}
use Rattle.machine.proofs.Idle.{lawful_if}
use Rattle.machine.proofs.InRange.{limits, limits_lawful}
use Rattle.curved.specs.declared.curved.Curved.{Curved}
use Rattle.measure.proofs.Laws.{lin}
use Rattle.measure.proofs.Order.{test_within}
use Rattle.measure.proofs.Fractions.{den_positive}
use Rattle.curved.specs.Forms.{rounded_within, limit_within, vertex_within, Below, slope_up, slope_down, vertex_above, vertex_under, below_from, plain_from, plain_from_limit, plain_from_vertex, limit_plain, limit_greatest, vertex_fits, vertex_greatest, rounded_above, rounded_least, above_from, above_to, same_cost}

pub ranges : (m : Curved) → in_range m ≡ true → Ranges m
ranges m e =
    let f = and_parts _ (between (pos 1) (pos 500) m.c2) e in
    let g = and_parts _ (between (neg_ℤ (pos 1000000)) (pos 1000000) m.c1) f.0 in
    let h = and_parts (limits_in_range m.bus m.lo.0 m.hi.0) (between (neg_ℤ (pos 100000000)) (pos 100000000) m.c0) g.0 in
    let c2 = and_parts (int_le (pos 1) m.c2) (int_le m.c2 (pos 500)) f.1 in
    record {
      limits = limits m.bus m.lo.0 m.hi.0 h.0;
      c0 = test_within 100000000 m.c0 h.1;
      c1 = test_within 1000000 m.c1 g.1;
      c2_low = omega (arith, lin, c2.0);
      c2_high = omega (arith, lin, c2.1);
    }

module _ (m : Curved) (ok : Ranges m) where
  abbrev allowed : Fraction → Type 0
  allowed = Between m.lo.0 m.hi.0

  abbrev fixed : ℤ
  fixed = pos 1000000 *ℤ m.c0

  answer_is : (p : ℤ) → Ceiling (quadratic m (whole p)) (rounded_up m p)
  unfolding ◌+ᶠ◌ ◌-ᶠ◌ ◌*ᶠ◌ ◌·ᶠ◌
  answer_is p = record {
    above = record { cross = above_from fixed m.c1 m.c2 (rounded_up m p) p (rounded_above fixed m.c1 m.c2 p) };
    least = λ s h. rounded_least fixed m.c1 m.c2 p s (above_to fixed m.c1 m.c2 s p h.cross);
  }

  limit_is : (q p : ℤ) → m.lo.0 ≤ℤ p → p ≤ℤ m.hi.0 → ((x : Fraction) → allowed x → pos 0 ≤ℤ ((x.num -ℤ p *ℤ pos x.den) *ℤ (m.c2 *ℤ p *ℤ pos 2 -ℤ (q -ℤ m.c1) *ℤ pos 1000000))) → Margin allowed (quadratic m) q (at_limit m (q -ℤ m.c1) p)
  unfolding ◌+ᶠ◌ ◌-ᶠ◌ ◌*ᶠ◌ ◌·ᶠ◌
  limit_is q p l h slope = record {
    below = λ x a. record { cross = below_from fixed m.c1 m.c2 q (at_limit m (q -ℤ m.c1) p) x.num (pos x.den) (den_positive x) (plain_from_limit fixed (q -ℤ m.c1) m.c2 (at_limit m (q -ℤ m.c1) p) x.num (pos x.den) (den_positive x) ok.c2_low p (slope x a) (limit_plain fixed (q -ℤ m.c1) m.c2 p)) };
    greatest = λ s g. limit_greatest fixed (q -ℤ m.c1) m.c2 p s (plain_from fixed m.c1 m.c2 q s p (pos 1) (omega (arith, lin)) (g (whole p) (record { low = record { cross = omega (arith, lin) }; high = record { cross = omega (arith, lin) } })).cross);
  }

  -- the power where cost - q * power is least, 500,000 (q - c1) / c2
  abbrev vertex : ℤ → Fraction
  vertex q = record { num = (q -ℤ m.c1) *ℤ pos 500000; den = unsigned_abs m.c2; positive = omega (arith, ints, ok.c2_low) }

  vertex_den : pos (unsigned_abs m.c2) ≡ m.c2
  vertex_den = omega (arith, ints, ok.c2_low)

  vertex_is : (q : ℤ) → int_le (pos 1000000 *ℤ (q -ℤ m.c1)) (pos 2 *ℤ m.c2 *ℤ m.lo.0) ≡ false → int_le (pos 2 *ℤ m.c2 *ℤ m.hi.0) (pos 1000000 *ℤ (q -ℤ m.c1)) ≡ false → Margin allowed (quadratic m) q (at_vertex m (q -ℤ m.c1))
  unfolding ◌+ᶠ◌ ◌-ᶠ◌ ◌*ᶠ◌ ◌·ᶠ◌
  vertex_is q l h = record {
    below = λ x a. record { cross = below_from fixed m.c1 m.c2 q (at_vertex m (q -ℤ m.c1)) x.num (pos x.den) (den_positive x) (plain_from_vertex fixed (q -ℤ m.c1) m.c2 (at_vertex m (q -ℤ m.c1)) x.num (pos x.den) (den_positive x) ok.c2_low (vertex_fits fixed (q -ℤ m.c1) m.c2 ok.c2_low)) };
    greatest = λ s g. vertex_greatest fixed (q -ℤ m.c1) m.c2 ok.c2_low s
        (plain_from fixed m.c1 m.c2 q s ((q -ℤ m.c1) *ℤ pos 500000) m.c2 ok.c2_low
        (subst (λ (d : ℤ). Below fixed m.c1 m.c2 q s ((q -ℤ m.c1) *ℤ pos 500000) d) vertex_den
        (g (vertex q) (record { low = record { cross = subst (λ (d : ℤ). (m.lo.0 *ℤ d) ≤ℤ ((q -ℤ m.c1) *ℤ pos 500000 *ℤ pos 1)) (sym vertex_den) (vertex_above (q -ℤ m.c1) m.c2 m.lo.0 l) }; high = record { cross = subst (λ (d : ℤ). ((q -ℤ m.c1) *ℤ pos 500000 *ℤ pos 1) ≤ℤ (m.hi.0 *ℤ d)) (sym vertex_den) (vertex_under (q -ℤ m.c1) m.c2 m.hi.0 h) } })).cross));
  }

  margin_is : (q : ℤ) → Margin allowed (quadratic m) q (least_over m (q -ℤ m.c1))
  margin_is q =
      cond_both _ _ _ (Margin allowed (quadratic m) q) (λ e. limit_is q m.lo.0 (omega (arith, lin)) ok.limits.order (λ x a. slope_up (q -ℤ m.c1) m.c2 m.lo.0 x.num (pos x.den) e a.low.cross))
      (λ e. cond_both _ _ _ (Margin allowed (quadratic m) q) (λ f. limit_is q m.hi.0 ok.limits.order (omega (arith, lin)) (λ x a. slope_down (q -ℤ m.c1) m.c2 m.hi.0 x.num (pos x.den) f a.high.cross)) (λ f. vertex_is q e f))

  margin_range : (q : ℤ) → Within 1000000 q → Within 1000000000000000 (least_over m (q -ℤ m.c1))
  margin_range q h =
      let c1 = ok.c1 in
      let b : Within 2000000 (q -ℤ m.c1) = omega (arith, lin) in
      let c2 : Within 500 m.c2 = omega (arith, lin, ok.c2_low, ok.c2_high) in
      cond_both _ _ _ (Within 1000000000000000) (λ e. limit_within m.c0 m.c1 m.c2 m.lo.0 ok.c0 c2 ok.limits.low (q -ℤ m.c1) b)
      (λ e. cond_both _ _ _ (Within 1000000000000000) (λ f. limit_within m.c0 m.c1 m.c2 m.hi.0 ok.c0 c2 ok.limits.high (q -ℤ m.c1) b)
      (λ f. vertex_within m.c0 (q -ℤ m.c1) m.c2 m.lo.0 m.hi.0 ok.c0 b ok.c2_low ok.limits.low ok.limits.high (vertex_above (q -ℤ m.c1) m.c2 m.lo.0 e) (vertex_under (q -ℤ m.c1) m.c2 m.hi.0 f)))

  answer_range : (p : ℤ) → Within 100000000 p → Within 1000000000000000 (rounded_up m p)
  answer_range p power = rounded_within m.c0 m.c1 m.c2 p ok.c0 (omega (arith, lin, ok.c2_low, ok.c2_high)) power ok.c1

  lawful : Lawful allowed (quadratic m) (rounded_up m) (λ q. least_over m (q -ℤ m.c1))
  unfolding ◌+ᶠ◌ ◌-ᶠ◌ ◌*ᶠ◌ ◌·ᶠ◌
  lawful =
      limits_lawful m.lo.0 m.hi.0 ok.limits (quadratic m) (rounded_up m) (λ q. least_over m (q -ℤ m.c1))
      (λ x y s. record { cross = same_cost fixed m.c1 m.c2 x.num (pos x.den) y.num (pos y.den) s.cross })
      answer_is answer_range margin_is margin_range

pub curved_lawful : Keeps curved_meaning
curved_lawful m = lawful_if (in_range m) (Between m.lo.0 m.hi.0) (quadratic m) (rounded_up m) (λ q. least_over m (q -ℤ m.c1)) (λ e. lawful m (ranges m e))
