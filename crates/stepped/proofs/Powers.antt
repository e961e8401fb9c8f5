-- The numbers of a list of powers, part by part.
use Rattle.std.proofs.Common.{◌≡◌, ℕ, ◌+◌, ◌-◌, Bool, true, false, ◌&&◌, arith, List, [], ◌∷◌, length, get_or, take, drop, ℤ, pos, sym, refl, ap, ◌∙◌}
use Rattle.std.proofs.lemmas.List.{length-map, take-map, drop-map}
use Rattle.measure.specs.declared.Watts.{Watts}
use Rattle.std.specs.List.{IsAllAdjacentAnswer, list_all}
use Rattle.std.proofs.Math.ListN.{get_or-map}
use Rattle.measure.specs.Range.{between}
use Rattle.stepped.specs.Piecewise.{powers_of, each_between, first}
use Rattle.stepped.proofs.Slices.{tail}

-- as many as the powers
pub length_powers : (xs : List Watts) → length (powers_of xs) ≡ length xs
length_powers xs = length-map xs (λ (w : Watts). w.0)

-- the first of them
pub head_power : (xs : List Watts) → (get_or xs 0 (record { 0 = pos 0 })).0 ≡ first (powers_of xs)
head_power [] = refl
head_power (x ∷ xs) = refl

-- the first so many
pub take_powers : (n : ℕ) (xs : List Watts) → powers_of (take n xs) ≡ take n (powers_of xs)
take_powers n xs = sym (take-map (λ (w : Watts). w.0) n xs)

-- so many after the first
pub inner_powers : (k : ℕ) (xs : List Watts) → powers_of (take k (drop 1 xs)) ≡ take k (drop 1 (powers_of xs))
inner_powers k xs = take_powers k (drop 1 xs) ∙ ap (take k) (sym (drop-map (λ (w : Watts). w.0) 1 xs))

-- all after the first
pub tail_powers : (xs : List Watts) → powers_of (take (length xs - 1) (drop 1 xs)) ≡ tail (powers_of xs)
tail_powers xs = inner_powers (length xs - 1) xs ∙ ap (λ n. take (n - 1) (drop 1 (powers_of xs))) (sym (length-map xs (λ (w : Watts). w.0)))

-- each of them lies between a and b
pub each_power : (a b : ℤ) (xs : List Watts) → list_all (λ (w : Watts). between a b w.0) xs ≡ each_between a b (powers_of xs)
each_power a b [] = refl
each_power a b (x ∷ xs) = ap (λ t. between a b x.0 && t) (each_power a b xs)

-- a test of each power against the next is one of their numbers
module _ (e : ℤ → ℤ → Bool) (xs : List Watts) where
  at_power : (k : ℕ) (d : ℤ) → get_or (powers_of xs) k d ≡ (get_or xs k (record { 0 = d })).0
  at_power k d = get_or-map (λ (w : Watts). w.0) xs k (record { 0 = d })

  pub adjacent_powers : (r : Bool) → IsAllAdjacentAnswer (λ (x : Watts) (y : Watts) b. b ≡ e x.0 y.0) xs r → IsAllAdjacentAnswer (λ x y b. b ≡ e x y) (powers_of xs) r
  adjacent_powers true h = λ k d l. rw (at_power k d, at_power (k + 1) d) (h k (record { 0 = d }) (omega (arith, length_powers xs, l)))
  adjacent_powers false h = (h.0, omega (arith, length_powers xs, h.1), λ d. rw (at_power h.0 d, at_power (h.0 + 1) d) (h.2 (record { 0 = d })))
