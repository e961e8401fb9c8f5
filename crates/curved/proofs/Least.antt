-- The three ways to the least margin.
use Rattle.std.proofs.Common.{◌≡◌, true, false, ℤ, pos, ◌+ℤ◌, ◌-ℤ◌, ◌*ℤ◌, neg_ℤ, ◌≤ℤ◌, ◌<ℤ◌, refl, sym, ap, ◌∙◌, arith}
use lib.Signed.{le_z}
use Rattle.std.proofs.lemmas.Bool.{cond-true, cond-false}
use Rattle.measure.specs.Range.{floor_div}
use Rattle.measure.proofs.Laws.{expand, flat, lin}
use Rattle.measure.proofs.Order.{test, at_most, under}
use Rattle.curved.specs.Quadratic.{at_limit, least_over}
use Rattle.curved.specs.declared.curved.Curved.{Curved}

not_le : (a b : ℤ) → b <ℤ a → le_z a b ≡ false
not_le a b h = (elim (le_z a b) as (λ t. le_z a b ≡ t → le_z a b ≡ false) [ true ↦ λ e. absurd (omega (arith, lin, e)) | false ↦ λ e. e ]) refl

module _ (m : Curved) (q : ℤ) where
  turned : (p : ℤ) → (m.c1 -ℤ q) *ℤ p ≡ neg_ℤ ((q -ℤ m.c1) *ℤ p)
  turned p = simp expand (omega (arith, lin))

  millionfold : pos 1000000 *ℤ (m.c1 -ℤ q) ≡ neg_ℤ (pos 1000000 *ℤ (q -ℤ m.c1))
  millionfold = simp expand (omega (arith, lin))

  squared : pos 250000 *ℤ (m.c1 -ℤ q) *ℤ (m.c1 -ℤ q) ≡ pos 250000 *ℤ (q -ℤ m.c1) *ℤ (q -ℤ m.c1)
  squared = simp expand (simp flat (omega (arith, lin)))

  -- its rise and its value at p, and its least value
  abbrev rise : ℤ → ℤ
  rise p = pos 1000000 *ℤ (m.c1 -ℤ q) +ℤ pos 2 *ℤ m.c2 *ℤ p

  abbrev down : ℤ → ℤ
  down p = pos 1000000 *ℤ m.c0 +ℤ (m.c1 -ℤ q) *ℤ p +ℤ floor_div (m.c2 *ℤ p *ℤ p) (pos 1000000)

  abbrev lowest : ℤ
  lowest = pos 1000000 *ℤ m.c0 +ℤ floor_div (neg_ℤ (pos 250000 *ℤ (m.c1 -ℤ q) *ℤ (m.c1 -ℤ q))) m.c2

  at_limit_too : (r p : ℤ) → r ≡ down p → r ≡ at_limit m (q -ℤ m.c1) p
  at_limit_too r p e =
      let f = turned p in
      let g : r ≡ pos 1000000 *ℤ m.c0 +ℤ (m.c1 -ℤ q) *ℤ p +ℤ floor_div (m.c2 *ℤ p *ℤ p) (pos 1000000) = e in
      omega (arith, lin)

  low_up : le_z (pos 0) (rise m.lo.0) ≡ true → le_z (pos 1000000 *ℤ (q -ℤ m.c1)) (pos 2 *ℤ m.c2 *ℤ m.lo.0) ≡ true
  low_up e =
      let h : pos 0 ≤ℤ (pos 1000000 *ℤ (m.c1 -ℤ q) +ℤ pos 2 *ℤ m.c2 *ℤ m.lo.0) = at_most (pos 0) (rise m.lo.0) e in
      test (pos 1000000 *ℤ (q -ℤ m.c1)) (pos 2 *ℤ m.c2 *ℤ m.lo.0) (omega (arith, lin, millionfold))

  low_down : le_z (pos 0) (rise m.lo.0) ≡ false → le_z (pos 1000000 *ℤ (q -ℤ m.c1)) (pos 2 *ℤ m.c2 *ℤ m.lo.0) ≡ false
  low_down e =
      let h : (pos 1000000 *ℤ (m.c1 -ℤ q) +ℤ pos 2 *ℤ m.c2 *ℤ m.lo.0) <ℤ pos 0 = under (pos 0) (rise m.lo.0) e in
      not_le (pos 1000000 *ℤ (q -ℤ m.c1)) (pos 2 *ℤ m.c2 *ℤ m.lo.0) (omega (arith, lin, millionfold))

  high_down : le_z (rise m.hi.0) (pos 0) ≡ true → le_z (pos 2 *ℤ m.c2 *ℤ m.hi.0) (pos 1000000 *ℤ (q -ℤ m.c1)) ≡ true
  high_down e =
      let h : (pos 1000000 *ℤ (m.c1 -ℤ q) +ℤ pos 2 *ℤ m.c2 *ℤ m.hi.0) ≤ℤ pos 0 = at_most (rise m.hi.0) (pos 0) e in
      test (pos 2 *ℤ m.c2 *ℤ m.hi.0) (pos 1000000 *ℤ (q -ℤ m.c1)) (omega (arith, lin, millionfold))

  high_up : le_z (rise m.hi.0) (pos 0) ≡ false → le_z (pos 2 *ℤ m.c2 *ℤ m.hi.0) (pos 1000000 *ℤ (q -ℤ m.c1)) ≡ false
  high_up e =
      let h : pos 0 <ℤ (pos 1000000 *ℤ (m.c1 -ℤ q) +ℤ pos 2 *ℤ m.c2 *ℤ m.hi.0) = under (rise m.hi.0) (pos 0) e in
      not_le (pos 2 *ℤ m.c2 *ℤ m.hi.0) (pos 1000000 *ℤ (q -ℤ m.c1)) (omega (arith, lin, millionfold))

  pub least_low : (r : ℤ) → le_z (pos 0) (rise m.lo.0) ≡ true → r ≡ down m.lo.0 → r ≡ least_over m (q -ℤ m.c1)
  least_low r t e = at_limit_too r m.lo.0 e ∙ sym (cond-true _ _ _ (low_up t))

  pub least_high : (r : ℤ) → le_z (pos 0) (rise m.lo.0) ≡ false → le_z (rise m.hi.0) (pos 0) ≡ true → r ≡ down m.hi.0 → r ≡ least_over m (q -ℤ m.c1)
  least_high r s t e = at_limit_too r m.hi.0 e ∙ sym (cond-true _ _ _ (high_down t)) ∙ sym (cond-false _ _ _ (low_down s))

  pub least_inside : (r : ℤ) → le_z (pos 0) (rise m.lo.0) ≡ false → le_z (rise m.hi.0) (pos 0) ≡ false → r ≡ lowest → r ≡ least_over m (q -ℤ m.c1)
  least_inside r s t e =
      e
      ∙ ap (λ z. pos 1000000 *ℤ m.c0 +ℤ floor_div (neg_ℤ z) m.c2) squared
      ∙ sym (cond-false _ _ _ (high_up t))
      ∙ sym (cond-false _ _ _ (low_down s))
