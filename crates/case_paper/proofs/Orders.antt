-- The orders of amounts, by what is found of each and the next.
use Rattle.std.proofs.Common.{◌≡◌, ℕ, ◌+◌, ◌-◌, ◌<◌, Bool, true, false, not, List, length, get_or, take, drop, ℤ, ◌≤ℤ◌, ◌<ℤ◌, Decides, sym, refl, ap, ◌∙◌, subst, arith}
use Rattle.std.specs.Int.Signed.{lt_z}
use Rattle.std.specs.List.{IsAllAdjacentAnswer}
use Rattle.std.proofs.lemmas.Bool.{true≢false}
use Rattle.std.proofs.lemmas.Int.{ints}
use Rattle.std.proofs.lemmas.List.{get_or-take, get_or-drop}
use Rattle.word.specs.Word.{amount_of}
use Rattle.case_paper.specs.Order.{amount_at}

module _ (R : ℤ → ℤ → Type 0) where
  -- each amount and the next stand so
  abbrev pub InTurn : List ℕ → Type 0
  InTurn xs = (k : ℕ) → k + 1 < length xs → R (amount_at xs k) (amount_at xs (k + 1))

  -- and of n amounts from place i on
  abbrev pub FromOn : List ℕ → ℕ → ℕ → Type 0
  FromOn xs i n = (k : ℕ) → k + 1 < n → R (amount_at xs (i + k)) (amount_at xs (i + (k + 1)))

  -- by a test of two words that decides it of their amounts
  pub all_in_turn : (e : ℕ → ℕ → Bool) → ((x y : ℕ) → Decides (e x y) (R (amount_of x) (amount_of y))) → (xs : List ℕ) (r : Bool) → IsAllAdjacentAnswer (λ x y b. b ≡ e x y) xs r → Decides r (InTurn xs)
  all_in_turn e tests xs true a =
      ((λ t k h. (tests (get_or xs k 0) (get_or xs (k + 1) 0)).0 (sym (a k 0 h))), λ o. refl)
  all_in_turn e tests xs false (k, h, f) =
      ((λ t. absurd (true≢false (sym t))), λ o. f 0 ∙ (tests (get_or xs k 0) (get_or xs (k + 1) 0)).1 (o k h))

  -- of a part of the words
  module _ (xs part : List ℕ) (i : ℕ) (same : (k : ℕ) → k < length part → get_or part k 0 ≡ get_or xs (i + k) 0) where
    pub part_on : InTurn part → FromOn xs i (length part)
    part_on t k h =
        subst (R (amount_at xs (i + k))) (ap amount_of (same (k + 1) h))
        (subst (λ (z : ℤ). R z (amount_at part (k + 1))) (ap amount_of (same k (omega arith))) (t k h))

    pub on_part : FromOn xs i (length part) → InTurn part
    on_part t k h =
        subst (R (amount_at part k)) (ap amount_of (sym (same (k + 1) h)))
        (subst (λ (z : ℤ). R z (amount_at xs (i + (k + 1)))) (ap amount_of (sym (same k (omega arith)))) (t k h))

-- the words from place i on
pub tail_at : (xs : List ℕ) (i k : ℕ) → i + k < length xs → get_or (take (length xs - i) (drop i xs)) k 0 ≡ get_or xs (i + k) 0
tail_at xs i k h = get_or-take (length xs - i) (drop i xs) k 0 (omega arith) ∙ get_or-drop i xs k 0

abbrev pub below : ℕ → ℕ → Bool
below x y = lt_z (amount_of x) (amount_of y)

abbrev pub at_most : ℕ → ℕ → Bool
at_most x y = not (lt_z (amount_of y) (amount_of x))

pub below_tests : (x y : ℕ) → Decides (below x y) (amount_of x <ℤ amount_of y)
below_tests x y = grind (arith, ints)

pub at_most_tests : (x y : ℕ) → Decides (at_most x y) (amount_of x ≤ℤ amount_of y)
at_most_tests x y = grind (arith, ints)
