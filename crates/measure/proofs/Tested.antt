-- A test of each of a table's first rows: none passes it, or the row that does.
use Rattle.std.proofs.Common.{◌≡◌, ℕ, zero, suc, ◌+◌, ◌<◌, Bool, true, false, List, [], ◌∷◌, length, take, sym, refl, ap, ◌∙◌, subst, add-zero, zero-add, arith}
use Rattle.std.proofs.lemmas.Bool.{both_ways}
use Rattle.measure.specs.Rows.{Row, numbered, rows, All, Stands, HoldsAt, row_or, row_test}
use Rattle.measure.proofs.Sums.{In, look, stands_row, next_row}

none_from : {X : Type 0} (f : Row X → Bool) (k : ℕ) (xs : List X) (n : ℕ) → ((i : ℕ) → i < n → row_or false f k xs i ≡ true → ⊥) → All (λ (r : Row X). f r ≡ true → ⊥) (numbered k (take n xs))
unfolding row_or numbered All
none_from f k xs zero h = tt
none_from f k [] (suc n) h = tt
none_from f k (x ∷ xs) (suc n) h = (h 0 (omega arith), none_from f (suc k) xs n (λ i l. h (suc i) (omega arith)))

-- no row passes
pub none_passes : {X : Type 0} (f : Row X → Bool) (xs : List X) (n : ℕ) → ((i : ℕ) → i < n → row_test f xs i ≡ true → ⊥) → All (λ (r : Row X). f r ≡ true → ⊥) (rows (take n xs))
none_passes f xs n h = none_from f 0 xs n h

record Passes {X : Type 0} (f : Row X → Bool) (k : ℕ) (xs : List X) (i : ℕ) : Type 0 where
  item : X
  stands : Stands xs i item
  passes : f (record { item = item; row = k + i }) ≡ true

passes_from : {X : Type 0} (f : Row X → Bool) (k : ℕ) (xs : List X) (n i : ℕ) → i < n → row_or false f k xs i ≡ true → Passes f k (take n xs) i
unfolding row_or Stands
passes_from f k xs zero i l e = absurd (omega arith)
passes_from f k [] (suc n) i l e = absurd (both_ways false refl e)
passes_from f k (x ∷ xs) (suc n) zero l e = record { item = x; stands = refl; passes = ap (λ m. f (record { item = x; row = m })) (add-zero k) ∙ e }
passes_from f k (x ∷ xs) (suc n) (suc i) l e =
    let p = passes_from f (suc k) xs n i (omega arith) e in
    record { item = p.item; stands = p.stands; passes = ap (λ m. f (record { item = p.item; row = m })) (next_row k i) ∙ p.passes }

-- a row that passes
pub row_passes : {X : Type 0} (f : Row X → Bool) (xs : List X) (n i : ℕ) → i < n → row_test f xs i ≡ true → HoldsAt (λ (r : Row X). f r ≡ true) (take n xs) i
row_passes f xs n i l e =
    let p = passes_from f 0 xs n i l e in
    record { item = p.item; stands = p.stands; holds = ap (λ m. f (record { item = p.item; row = m })) (sym (zero-add i)) ∙ p.passes }

-- what follows row by row
pub holds_so : {X : Type 0} (P Q : Row X → Type 0) (xs : List X) (i : ℕ) → ((r : Row X) → P r → Q r) → HoldsAt P xs i → HoldsAt Q xs i
holds_so P Q xs i f h = record { item = h.item; stands = h.stands; holds = f (record { item = h.item; row = i }) h.holds }

-- a row of which something holds is one of the rows
pub holds_in : {X : Type 0} (P : Row X → Type 0) (xs : List X) (i : ℕ) (h : HoldsAt P xs i) → In (record { item = h.item; row = i }) (rows xs)
holds_in P xs i h = subst (λ (n : ℕ). In (record { item = h.item; row = n }) (rows xs)) (zero-add i) (stands_row 0 xs i h.item h.stands)

-- what holds of each row does not fail at one
pub holds_not : {X : Type 0} (P : Row X → Type 0) (xs : List X) (i : ℕ) → All P (rows xs) → HoldsAt (λ r. P r → ⊥) xs i → ⊥
holds_not P xs i a h = h.holds (look P _ (rows xs) a (holds_in (λ r. P r → ⊥) xs i h))

-- an item stands in each row below the table's length
pub row_there : {X : Type 0} (xs : List X) (i : ℕ) → i < length xs → (x : X) × Stands xs i x
unfolding Stands
row_there [] i h = absurd (omega arith)
row_there (x ∷ xs) zero h = (x, refl)
row_there (x ∷ xs) (suc i) h = row_there xs i (omega arith)
