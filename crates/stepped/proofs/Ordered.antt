-- The tests of a list's numbers, one by one and each against the next, as std's `all` and `is_sorted_by` answer them.
use Rattle.std.proofs.Common.{◌≡◌, ℕ, zero, suc, ◌+◌, ◌<◌, Bool, true, false, ◌&&◌, List, [], ◌∷◌, length, get_or, ℤ, sym, refl, ap, ◌∙◌, add-one, arith}
use lib.Signed.{le_z, lt_z}
use Rattle.std.specs.List.{IsAllAdjacentAnswer, list_all}
use Rattle.measure.specs.Range.{between}
use Rattle.stepped.specs.Piecewise.{each_between, rising, never_falling}

pub each-is : (a b : ℤ) (xs : List ℤ) → list_all (between a b) xs ≡ each_between a b xs
each-is a b [] = refl
each-is a b (x ∷ xs) = ap (λ t. between a b x && t) (each-is a b xs)

-- a test of a list that is the test e of each number against the next
module _ (e : ℤ → ℤ → Bool) (F : List ℤ → Bool) (none : F [] ≡ true) (one : (x : ℤ) → F (x ∷ []) ≡ true) (more : (x y : ℤ) (ys : List ℤ) → F (x ∷ (y ∷ ys)) ≡ (e x y && F (y ∷ ys))) where
  passes : (xs : List ℤ) → ((k : ℕ) (d : ℤ) → k + 1 < length xs → true ≡ e (get_or xs k d) (get_or xs (k + 1) d)) → true ≡ F xs
  passes [] h = sym none
  passes (x ∷ []) h = sym (one x)
  passes (x ∷ (y ∷ ys)) h =
      let rest = passes (y ∷ ys) (λ k d l. h (suc k) d (omega arith) ∙ ap (λ i. e (get_or (y ∷ ys) k d) (get_or (x ∷ (y ∷ ys)) i d)) (add-one (suc k)) ∙ ap (λ i. e (get_or (y ∷ ys) k d) (get_or (y ∷ ys) i d)) (sym (add-one k))) in
      let here : true ≡ e x y = h 0 x (omega arith) in
      let all : true ≡ (e x y && F (y ∷ ys)) = rw (sym here, sym rest) refl in
      all ∙ sym (more x y ys)

  fails : (xs : List ℤ) (k : ℕ) → k + 1 < length xs → ((d : ℤ) → false ≡ e (get_or xs k d) (get_or xs (k + 1) d)) → false ≡ F xs
  fails [] k l h = absurd (omega arith)
  fails (x ∷ []) k l h = absurd (omega arith)
  fails (x ∷ (y ∷ ys)) zero l h =
      let here : false ≡ e x y = h x in
      let all : false ≡ (e x y && F (y ∷ ys)) = rw (sym here) refl in
      all ∙ sym (more x y ys)
  fails (x ∷ (y ∷ ys)) (suc k) l h =
      let rest = fails (y ∷ ys) k (omega arith) (λ d. h d ∙ ap (λ i. e (get_or (y ∷ ys) k d) (get_or (x ∷ (y ∷ ys)) i d)) (add-one (suc k)) ∙ ap (λ i. e (get_or (y ∷ ys) k d) (get_or (y ∷ ys) i d)) (sym (add-one k))) in
      let all : false ≡ (e x y && F (y ∷ ys)) = elim (e x y) as (λ t. false ≡ (t && F (y ∷ ys))) [ true ↦ rest | false ↦ refl ] in
      all ∙ sym (more x y ys)

  answered : (xs : List ℤ) (r : Bool) → IsAllAdjacentAnswer (λ x y b. b ≡ e x y) xs r → r ≡ F xs
  answered xs true h = passes xs h
  answered xs false h = fails xs h.0 h.1 h.2

pub rising_is : (xs : List ℤ) (r : Bool) → IsAllAdjacentAnswer (λ x y b. b ≡ lt_z x y) xs r → r ≡ rising xs
rising_is = answered lt_z rising refl (λ x. refl) (λ x y ys. refl)

pub never_falling_is : (xs : List ℤ) (r : Bool) → IsAllAdjacentAnswer (λ x y b. b ≡ le_z x y) xs r → r ≡ never_falling xs
never_falling_is = answered le_z never_falling refl (λ x. refl) (λ x y ys. refl)
