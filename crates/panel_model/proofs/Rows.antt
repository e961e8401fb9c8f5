-- A table with one row in another state: what the rows keep, the table keeps.
use Rattle.std.proofs.Common.{◌≡◌, ℕ, zero, suc, List, [], ◌∷◌, length, sym, refl, ap, ◌∙◌}
use Rattle.measure.specs.Rows.{Stands}
use Rattle.panel_model.specs.Change.{with_row}

pub length_with_row : {X : Type 0} (f : X → X) (xs : List X) (i : ℕ) → length (with_row f xs i) ≡ length xs
unfolding with_row
length_with_row f [] i = refl
length_with_row f (x ∷ xs) zero = refl
length_with_row f (x ∷ xs) (suc i) = ap suc (length_with_row f xs i)

module _ {X K : Type 0} (f : X → X) (key : X → K) (keeps : (x : X) → key (f x) ≡ key x) where
  -- the row of the table before in the place of one after, and the other way round
  pub row_before : (xs : List X) (i j : ℕ) (y : X) → Stands (with_row f xs i) j y → (x : X) × Stands xs j x × (key y ≡ key x)
  unfolding with_row Stands
  row_before [] i j y s = absurd s
  row_before (x ∷ xs) zero zero y s = (x, refl, ap key s ∙ keeps x)
  row_before (x ∷ xs) zero (suc j) y s = (y, s, refl)
  row_before (x ∷ xs) (suc i) zero y s = (y, s, refl)
  row_before (x ∷ xs) (suc i) (suc j) y s = row_before xs i j y s

  pub row_after : (xs : List X) (i j : ℕ) (x : X) → Stands xs j x → (y : X) × Stands (with_row f xs i) j y × (key y ≡ key x)
  unfolding with_row Stands
  row_after [] i j x s = absurd s
  row_after (z ∷ xs) zero zero x s = (f z, refl, keeps z ∙ sym (ap key s))
  row_after (z ∷ xs) zero (suc j) x s = (x, s, refl)
  row_after (z ∷ xs) (suc i) zero x s = (x, s, refl)
  row_after (z ∷ xs) (suc i) (suc j) x s = row_after xs i j x s
