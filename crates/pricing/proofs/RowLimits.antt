-- Limits by row: from a test of each row to what holds of the table's rows.
use Rattle.std.proofs.Common.{◌≡◌, ℕ, zero, suc, ◌+◌, ◌<◌, Bool, true, false, List, [], ◌∷◌, take, Some, None, Option, sym, ap, ◌∙◌, subst, add-zero, zero-add, arith}
use Rattle.measure.specs.Rows.{Row, rows, All, Stands, HoldsAt, Lowest, row_or, row_test, IsFirstOf}
use Rattle.measure.proofs.Sums.{each, row_stands, next_row, first_of-lowest}
use Rattle.measure.proofs.Tested.{row_passes, holds_so}

-- the lowest of which P holds is the lowest of which Q holds, where the two say the same
pub lowest-as : (P Q : ℕ → Type 0) → ((i : ℕ) → P i → Q i) → ((i : ℕ) → Q i → P i) → (r : Option ℕ) → Lowest P r → Lowest Q r
lowest-as P Q to from None h = λ i k. h i (from i k)
lowest-as P Q to from (Some i) h = (to i h.0, λ j l k. h.1 j l (from j k))

-- the lowest of a table's m rows that passes a test, where each of the first n is tested
pub first_below : (test : ℕ → Bool) (gives : ℕ → Bool → Type 0) (n m : ℕ) (r : Option ℕ) → n ≡ m → IsFirstOf gives n r → ((i : ℕ) (b : Bool) → i < n → gives i b → b ≡ test i) → Lowest (λ i. (i < m) × (test i ≡ true)) r
first_below test gives n m r e s each =
    subst (λ k. Lowest (λ i. (i < k) × (test i ≡ true)) r) e (first_of-lowest test gives n r s each)

-- row i of a table's first n rows, of whose item the test is true, passes it
passed : {X : Type 0} (f : Row X → Bool) (k : ℕ) (xs : List X) (n i : ℕ) (x : X) → Stands (take n xs) i x → f (record { item = x; row = k + i }) ≡ true → (i < n) × (row_or false f k xs i ≡ true)
unfolding row_or Stands
passed f k [] zero i x s e = absurd s
passed f k [] (suc n) i x s e = absurd s
passed f k (y ∷ ys) zero i x s e = absurd s
passed f k (y ∷ ys) (suc n) zero x s e =
    (omega arith, ap (λ (z : _). f (record { item = z; row = k })) (sym s) ∙ subst (λ m. f (record { item = x; row = m }) ≡ true) (add-zero k) e)
passed f k (y ∷ ys) (suc n) (suc i) x s e =
    let p = passed f (suc k) ys n i x s (subst (λ m. f (record { item = x; row = m }) ≡ true) (next_row k i) e) in
    let l = p.0 in
    (omega arith, p.1)

-- a limit that a test tells of each row of a table: its lowest broken row
pub lowest_row : {X : Type 0} (f : Row X → Bool) (Broken : Row X → Type 0) → ((r : Row X) → f r ≡ true → Broken r) → ((r : Row X) → Broken r → f r ≡ true) → (xs : List X) (n : ℕ) (r : Option ℕ) → Lowest (λ i. (i < n) × (row_test f xs i ≡ true)) r → Lowest (HoldsAt Broken (take n xs)) r
lowest_row f Broken to from xs n r h =
    lowest-as (λ i. (i < n) × (row_test f xs i ≡ true)) (HoldsAt Broken (take n xs))
    (λ i k. holds_so _ Broken (take n xs) i to (row_passes f xs n i k.0 k.1))
    (λ i k. passed f 0 xs n i k.item k.stands (subst (λ m. f (record { item = k.item; row = m }) ≡ true) (sym (zero-add i)) (from _ k.holds)))
    r h

-- no row of a table breaks a limit that each row keeps or breaks
pub none_broken : {X : Type 0} (Broken Kept : Row X → Type 0) (xs : List X) → ((r : Row X) → (Broken r → ⊥) → Kept r) → Lowest (HoldsAt Broken xs) None → All Kept (rows xs)
none_broken Broken Kept xs keep none =
    each Kept (rows xs)
    (λ r k.
    let s = row_stands 0 xs r k in
    let e : s.0 ≡ r.row = omega (arith, s.1) in
    keep r (λ b. none r.row (record { item = r.item; stands = subst (λ m. Stands xs m r.item) e s.3; holds = b })))
