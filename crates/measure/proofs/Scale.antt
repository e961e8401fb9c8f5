-- Fractions over a common denominator D: `Over D f X` says that f is X / D. Sums, whole multiples and the order of fractions are then those of ℤ.
use Rattle.std.proofs.Common.{◌≡◌, ℕ, suc, ◌+◌, ◌*◌, ◌/◌, ◌<◌, ◌≤◌, Bool, true, false, List, [], ◌∷◌, ◌++◌, map, length, ℤ, pos, ◌+ℤ◌, ◌-ℤ◌, ◌*ℤ◌, neg_ℤ, ◌≤ℤ◌, sym, refl, ap, ◌∙◌, subst, arith, lit≤}
use Prim.Native.Nat.{◌∣◌}
use native.Mathlib.Nat.{div-mul_cancel, dvd-mul_right, dvd-mul_left_of_dvd, one-le-mul}
use native.Mathlib.Decide.{dec_lt}
use lib.IntN.{zero-*ℤ, *ℤ_comm}
use Rattle.measure.specs.Fraction.{Fraction, whole, ◌+ᶠ◌, ◌-ᶠ◌, ◌·ᶠ◌, ◌≤ᶠ◌, Between, Same}
use Rattle.measure.specs.Rows.{Row, numbered, total, totalᶠ, only, onlyᶠ}
use Rattle.measure.proofs.Laws.{lin, mul_assoc, mul_one, neg_mul}
use Rattle.measure.proofs.Ring.{ring, var, add, sub, mul}
use Rattle.measure.proofs.Order.{mul_le, cancel, mul_cancel_eq, along}
use Rattle.measure.proofs.Sums.{In, here, there}

pub record Over (D : ℕ) (f : Fraction) (X : ℤ) : Type 0 where
  pub cross : f.num *ℤ pos D ≡ X *ℤ pos f.den

module _ (D : ℕ) where
  pub over_whole : (k : ℤ) → Over D (whole k) (k *ℤ pos D)
  over_whole k = record { cross = sym (mul_one (k *ℤ pos D)) }

  pub over_zero : Over D (whole (pos 0)) (pos 0)
  over_zero = record { cross = zero-*ℤ (pos D) }

  pub over_add : (f g : Fraction) (X Y : ℤ) → Over D f X → Over D g Y → Over D (f +ᶠ g) (X +ℤ Y)
  unfolding ◌+ᶠ◌
  over_add f g X Y h k = record {
    cross = ring (mul (add (mul (var 0) (var 1)) (mul (var 2) (var 3))) (var 4)) (add (mul (mul (var 0) (var 4)) (var 1)) (mul (mul (var 2) (var 4)) (var 3))) (f.num ∷ (pos g.den ∷ (g.num ∷ (pos f.den ∷ (pos D ∷ []))))) tt
        ∙ (λ i. h.cross i *ℤ pos g.den +ℤ k.cross i *ℤ pos f.den)
        ∙ ring (add (mul (mul (var 0) (var 1)) (var 3)) (mul (mul (var 2) (var 3)) (var 1))) (mul (add (var 0) (var 2)) (mul (var 1) (var 3))) (X ∷ (pos f.den ∷ (Y ∷ (pos g.den ∷ [])))) tt;
  }

  pub over_sub : (f g : Fraction) (X Y : ℤ) → Over D f X → Over D g Y → Over D (f -ᶠ g) (X -ℤ Y)
  unfolding ◌-ᶠ◌
  over_sub f g X Y h k = record {
    cross = ring (mul (sub (mul (var 0) (var 1)) (mul (var 2) (var 3))) (var 4)) (sub (mul (mul (var 0) (var 4)) (var 1)) (mul (mul (var 2) (var 4)) (var 3))) (f.num ∷ (pos g.den ∷ (g.num ∷ (pos f.den ∷ (pos D ∷ []))))) tt
        ∙ (λ i. h.cross i *ℤ pos g.den -ℤ k.cross i *ℤ pos f.den)
        ∙ ring (sub (mul (mul (var 0) (var 1)) (var 3)) (mul (mul (var 2) (var 3)) (var 1))) (mul (sub (var 0) (var 2)) (mul (var 1) (var 3))) (X ∷ (pos f.den ∷ (Y ∷ (pos g.den ∷ [])))) tt;
  }

  pub over_times : (k : ℤ) (f : Fraction) (X : ℤ) → Over D f X → Over D (k ·ᶠ f) (k *ℤ X)
  unfolding ◌·ᶠ◌
  over_times k f X h = record { cross = mul_assoc k f.num (pos D) ∙ ap (λ x. k *ℤ x) h.cross ∙ sym (mul_assoc k X (pos f.den)) }

  pub over_only : (t : Bool) (f : Fraction) (X : ℤ) → Over D f X → Over D (onlyᶠ t f) (only t X)
  over_only true f X h = h
  over_only false f X h = over_zero

  pub over_total : {A : Type 0} (f : A → Fraction) (g : A → ℤ) (xs : List A) → ((x : A) → In x xs → Over D (f x) (g x)) → Over D (totalᶠ f xs) (total g xs)
  unfolding totalᶠ total
  over_total f g [] h = over_zero
  over_total f g (x ∷ xs) h = over_add (f x) (totalᶠ f xs) (g x) (total g xs) (h x here) (over_total f g xs (λ y k. h y (there k)))

  -- both sides of a comparison, brought over D
  crossed : (f g : Fraction) (X : ℤ) → Over D f X → pos D *ℤ (f.num *ℤ pos g.den) ≡ X *ℤ pos (f.den * g.den)
  crossed f g X h =
      ring (mul (var 0) (mul (var 1) (var 2))) (mul (mul (var 1) (var 0)) (var 2)) (pos D ∷ (f.num ∷ (pos g.den ∷ []))) tt
      ∙ ap (λ x. x *ℤ pos g.den) h.cross ∙ mul_assoc X (pos f.den) (pos g.den)

  crossed' : (f g : Fraction) (Y : ℤ) → Over D g Y → pos D *ℤ (g.num *ℤ pos f.den) ≡ Y *ℤ pos (f.den * g.den)
  crossed' f g Y k = crossed g f Y k ∙ ap (λ n. Y *ℤ pos n) (native.Mathlib.Nat.mul_comm g.den f.den)

  pub over_le : (f g : Fraction) (X Y : ℤ) → Over D f X → Over D g Y → f ≤ᶠ g → X ≤ℤ Y
  over_le f g X Y h k l =
      cancel X Y (f.den * g.den) (one-le-mul f.positive g.positive)
      (rw (← crossed f g X h, ← crossed' f g Y k) (mul_le (pos D) (f.num *ℤ pos g.den) (g.num *ℤ pos f.den) (omega (arith, lin)) l.cross))

  pub le_over : 1 ≤ D → (f g : Fraction) (X Y : ℤ) → Over D f X → Over D g Y → X ≤ℤ Y → f ≤ᶠ g
  le_over one f g X Y h k l = record {
    cross = cancel (f.num *ℤ pos g.den) (g.num *ℤ pos f.den) D one
        (rw (*ℤ_comm (f.num *ℤ pos g.den) (pos D), *ℤ_comm (g.num *ℤ pos f.den) (pos D), crossed f g X h, crossed' f g Y k)
        (rw (*ℤ_comm X (pos (f.den * g.den)), *ℤ_comm Y (pos (f.den * g.den))) (mul_le (pos (f.den * g.den)) X Y (omega (arith, lin)) l)));
  }

  -- between two whole numbers, over D
  pub between_over : (a b : ℤ) (f : Fraction) (X : ℤ) → Over D f X → Between a b f → ((a *ℤ pos D) ≤ℤ X) × (X ≤ℤ (b *ℤ pos D))
  between_over a b f X h w = (
    over_le (whole a) f (a *ℤ pos D) X (over_whole a) h w.low,
    over_le f (whole b) X (b *ℤ pos D) h (over_whole b) w.high,
  )

  pub over_between : 1 ≤ D → (a b : ℤ) (f : Fraction) (X : ℤ) → Over D f X → (a *ℤ pos D) ≤ℤ X → X ≤ℤ (b *ℤ pos D) → Between a b f
  over_between one a b f X h l u = record {
    low = le_over one (whole a) f (a *ℤ pos D) X (over_whole a) h l;
    high = le_over one f (whole b) X (b *ℤ pos D) h (over_whole b) u;
  }

  -- a fraction whose denominator divides D
  abbrev pub scaled : Fraction → ℤ
  scaled f = f.num *ℤ pos (D / f.den)

  pub over_scaled : (f : Fraction) → f.den ∣ D → Over D f (scaled f)
  over_scaled f h = record { cross = ap (λ n. f.num *ℤ pos n) (sym (div-mul_cancel f.den h)) ∙ sym (mul_assoc f.num (pos (D / f.den)) (pos f.den)) }

-- a common denominator of a list of fractions
unfoldable pub common : List Fraction → ℕ
common [] = 1
common (f ∷ fs) = f.den * common fs

pub common-positive : (fs : List Fraction) → 1 ≤ common fs
unfolding common
common-positive [] = lit≤ tt
common-positive (f ∷ fs) = one-le-mul f.positive (common-positive fs)

pub divides_common : (f : Fraction) (fs : List Fraction) → In f fs → f.den ∣ common fs
unfolding common
divides_common f [] k = elim k [ ]
divides_common f (g ∷ fs) here = dvd-mul_right g.den (common fs)
divides_common f (g ∷ fs) (there k) = dvd-mul_left_of_dvd f.den (divides_common f fs k) g.den

pub in_left : {X : Type 0} (x : X) (xs ys : List X) → In x xs → In x (xs ++ ys)
in_left x [] ys k = elim k [ ]
in_left x (y ∷ xs) ys here = here
in_left x (y ∷ xs) ys (there k) = there (in_left x xs ys k)

pub in_right : {X : Type 0} (x : X) (xs ys : List X) → In x ys → In x (xs ++ ys)
in_right x [] ys k = k
in_right x (y ∷ xs) ys k = there (in_right x xs ys k)

pub in_map : {X Y : Type 0} (f : X → Y) (x : X) (xs : List X) → In x xs → In (f x) (map f xs)
in_map f x [] k = elim k [ ]
in_map f x (y ∷ xs) here = here
in_map f x (y ∷ xs) (there k) = there (in_map f x xs k)

-- what is looked up by the number of a row, listed over a table
pub in_rows : {X Y : Type 0} (f : ℕ → Y) (n : ℕ) (xs : List X) (i : ℕ) → n ≤ i → i < n + length xs → In (f i) (map (λ (r : Row X). f r.row) (numbered n xs))
unfolding numbered
in_rows f n [] i h l = absurd (omega arith)
in_rows f n (x ∷ xs) i h l =
    elim (dec_lt n i) [
      | yes m ↦ there (in_rows f (suc n) xs i (omega arith) (omega arith))
      | no m ↦ let e : n ≡ i = omega arith in
          subst (λ (j : ℕ). In (f j) (f n ∷ map (λ (r : Row _). f r.row) (numbered (suc n) xs))) e here
    ]

-- two fractions that are the same number over D
pub over_same : (D : ℕ) → 1 ≤ D → (f g : Fraction) (X : ℤ) → Over D f X → Over D g X → Same f g
over_same D one f g X h k = record {
  cross = mul_cancel_eq (f.num *ℤ pos g.den) (g.num *ℤ pos f.den) (pos D) (omega (arith, lin))
      (*ℤ_comm (f.num *ℤ pos g.den) (pos D) ∙ crossed D f g X h ∙ sym (crossed' D f g X k) ∙ *ℤ_comm (pos D) (g.num *ℤ pos f.den));
}

-- a whole number over 1
pub over_one : (k : ℤ) → Over 1 (whole k) k
over_one k = record { cross = refl }

-- within ±a, over D
pub within_over : (D : ℕ) (a : ℤ) (f : Fraction) (X : ℤ) → Over D f X → Between (neg_ℤ a) a f → (neg_ℤ (a *ℤ pos D) ≤ℤ X) × (X ≤ℤ (a *ℤ pos D))
within_over D a f X h w = let b = between_over D (neg_ℤ a) a f X h w in (along (neg_mul a (pos D)) refl b.0, b.1)

-- a fraction of a list, over the list's common denominator
abbrev common_over : (fs : List Fraction) (f : Fraction) → In f fs → Over (common fs) f (scaled (common fs) f)
common_over fs f k = over_scaled (common fs) f (divides_common f fs k)

-- fractions that are the same, over D
pub same_over : (D : ℕ) (f g : Fraction) (X Y : ℤ) → Over D f X → Over D g Y → Same f g → X ≡ Y
same_over D f g X Y h k s =
    let a = over_le D f g X Y h k (record { cross = omega (arith, lin, s.cross) }) in
    let b = over_le D g f Y X k h (record { cross = omega (arith, lin, s.cross) }) in
    omega (arith, lin)

-- two that are the same as a third
pub same-both : (f g r : Fraction) → Same f r → Same g r → Same f g
same-both f g r s t =
    let fs = f ∷ (g ∷ (r ∷ [])) in
    let D = common fs in
    let F = common_over fs f here in
    let G = common_over fs g (there here) in
    let R = common_over fs r (there (there here)) in
    over_same D (common-positive fs) f g (scaled D f) F (subst (Over D g) (same_over D g r _ _ G R t ∙ sym (same_over D f r _ _ F R s)) G)

-- two that differ by the same from two that are the same
pub difference-same : (a b f g r : Fraction) → Same a b → Same (f -ᶠ a) r → Same (g -ᶠ b) r → Same f g
difference-same a b f g r s t u =
    let fs = a ∷ (b ∷ (f ∷ (g ∷ (r ∷ [])))) in
    let D = common fs in
    let A = common_over fs a here in
    let B = common_over fs b (there here) in
    let F = common_over fs f (there (there here)) in
    let G = common_over fs g (there (there (there here))) in
    let R = common_over fs r (there (there (there (there here)))) in
    let e = same_over D a b _ _ A B s in
    let h = same_over D (f -ᶠ a) r _ _ (over_sub D f a _ _ F A) R t in
    let k = same_over D (g -ᶠ b) r _ _ (over_sub D g b _ _ G B) R u in
    over_same D (common-positive fs) f g (scaled D f) F (subst (Over D g) (equal (scaled D a) (scaled D b) (scaled D f) (scaled D g) (scaled D r) e h k) G)
  where
    equal : (a b f g r : ℤ) → a ≡ b → f -ℤ a ≡ r → g -ℤ b ≡ r → g ≡ f
    equal a b f g r e h k = omega (arith, lin)
