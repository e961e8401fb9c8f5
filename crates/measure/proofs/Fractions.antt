-- The order of fractions, and fractions that are the same.
use Rattle.std.proofs.Common.{◌≡◌, List, [], ◌∷◌, ℤ, pos, ◌+ℤ◌, ◌*ℤ◌, ◌≤ℤ◌, ap, arith}
use Rattle.measure.specs.Fraction.{Fraction, whole, Same, ◌≤ᶠ◌, ◌+ᶠ◌, Between}
use Rattle.measure.specs.Rows.{total, totalᶠ}
use Rattle.measure.proofs.Laws.{expand, lin}
use Rattle.measure.proofs.Ring.{var, con, add, mul}
use Rattle.measure.proofs.Order.{mul_mono, mul_cancel, ◌⊕◌, ring_le}
use Rattle.measure.proofs.Sums.{In, here, there}

pub den_positive : (x : Fraction) → pos 1 ≤ℤ pos x.den
den_positive x = omega (arith, lin, x.positive)

-- a / e ≤ n / d, and n / d is m / f
module _ (a e n d m f : ℤ) (d-positive : pos 1 ≤ℤ d) (f-positive : pos 1 ≤ℤ f) (same : n *ℤ f ≡ m *ℤ d) where
  pub move_above : (a *ℤ d) ≤ℤ (n *ℤ e) → (a *ℤ f) ≤ℤ (m *ℤ e)
  move_above h =
      let t = mul_mono _ _ f (omega (arith, lin)) h in
      let s = ap (λ (z : ℤ). z *ℤ e) same in
      mul_cancel _ _ d d-positive (simp expand (omega (arith, lin, simp expand at t, simp expand at s)))

  pub move_below : (n *ℤ e) ≤ℤ (a *ℤ d) → (m *ℤ e) ≤ℤ (a *ℤ f)
  move_below h =
      let t = mul_mono _ _ f (omega (arith, lin)) h in
      let s = ap (λ (z : ℤ). z *ℤ e) same in
      mul_cancel _ _ d d-positive (simp expand (omega (arith, lin, simp expand at t, simp expand at s)))

pub between-same : (a b : ℤ) (x y : Fraction) → Same x y → Between a b x → Between a b y
between-same a b x y s h = record {
  low = record { cross = move_above a (pos 1) x.num (pos x.den) y.num (pos y.den) (den_positive x) (den_positive y) s.cross h.low.cross };
  high = record { cross = move_below b (pos 1) x.num (pos x.den) y.num (pos y.den) (den_positive x) (den_positive y) s.cross h.high.cross };
}

pub between-wider : (a b c d : ℤ) (x : Fraction) → c ≤ℤ a → b ≤ℤ d → Between a b x → Between c d x
between-wider a b c d x l h k =
    let p : pos 0 ≤ℤ pos x.den = omega (arith, lin, den_positive x) in
    let s = mul_mono c a (pos x.den) p l in
    let t = mul_mono b d (pos x.den) p h in
    record { low = record { cross = omega (arith, lin, k.low.cross, s) }; high = record { cross = omega (arith, lin, k.high.cross, t) } }

-- a whole number between two others
pub between_whole : (a b p : ℤ) → a ≤ℤ p → p ≤ℤ b → Between a b (whole p)
between_whole a b p l h = record { low = record { cross = omega (arith, lin) }; high = record { cross = omega (arith, lin) } }

pub whole_between : (a b p : ℤ) → Between a b (whole p) → (a ≤ℤ p) × (p ≤ℤ b)
whole_between a b p h = (omega (arith, lin, h.low.cross), omega (arith, lin, h.high.cross))

-- a / d ≤ m and b / e ≤ n add up
crossed_sum : (a b d e m n : ℤ) → pos 0 ≤ℤ d → pos 0 ≤ℤ e → (a *ℤ pos 1) ≤ℤ (m *ℤ d) → (b *ℤ pos 1) ≤ℤ (n *ℤ e) → ((a *ℤ e +ℤ b *ℤ d) *ℤ pos 1) ≤ℤ ((m +ℤ n) *ℤ (d *ℤ e))
crossed_sum a b d e m n d-not-negative e-not-negative h k =
    let a' = var 0 in let b' = var 1 in let d' = var 2 in let e' = var 3 in let m' = var 4 in let n' = var 5 in let one = con (pos 1) in
    ring_le (mul (add (mul a' e') (mul b' d')) one) (mul (add m' n') (mul d' e'))
    (add (mul (mul a' one) e') (mul (mul b' one) d')) (add (mul (mul m' d') e') (mul (mul n' e') d'))
    (a ∷ (b ∷ (d ∷ (e ∷ (m ∷ (n ∷ []))))))
    (mul_mono (a *ℤ pos 1) (m *ℤ d) e e-not-negative h ⊕ mul_mono (b *ℤ pos 1) (n *ℤ e) d d-not-negative k) tt

pub add_most : (f g : Fraction) (m n : ℤ) → f ≤ᶠ whole m → g ≤ᶠ whole n → (f +ᶠ g) ≤ᶠ whole (m +ℤ n)
unfolding ◌+ᶠ◌
add_most f g m n h k = record {
  cross = crossed_sum f.num g.num (pos f.den) (pos g.den) m n (omega (arith, lin)) (omega (arith, lin)) h.cross k.cross;
}

-- a sum of fractions, each at most a whole number, is at most the sum of these
pub total-most : {X : Type 0} (f : X → Fraction) (g : X → ℤ) (xs : List X) → ((x : X) → In x xs → f x ≤ᶠ whole (g x)) → totalᶠ f xs ≤ᶠ whole (total g xs)
unfolding totalᶠ total
total-most f g [] h = record { cross = omega (arith, lin) }
total-most f g (x ∷ xs) h = add_most (f x) (totalᶠ f xs) (g x) (total g xs) (h x here) (total-most f g xs (λ y k. h y (there k)))
