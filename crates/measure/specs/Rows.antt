-- Tables: their rows with their numbers, sums over a table, what holds of each row, and the lowest row of which something holds.
use Rattle.std.specs.Prelude.{◌≡◌, ℕ, zero, suc, ◌<◌, Bool, true, false, List, [], ◌∷◌, ℤ, pos, ◌+ℤ◌, Some, None, Option, MatchOption}
use Rattle.measure.specs.Range.{Within}
use Rattle.measure.specs.Fraction.{Fraction, whole, ◌+ᶠ◌}

-- a row of a table: its item and its number, counted from 0
pub record Row (X : Type 0) : Type 0 where
  pub item : X
  pub row : ℕ

unfoldable pub numbered : {X : Type 0} → ℕ → List X → List (Row X)
numbered n [] = []
numbered n (x ∷ xs) = record { item = x; row = n } ∷ numbered (suc n) xs

abbrev pub rows : {X : Type 0} → List X → List (Row X)
rows xs = numbered 0 xs

-- the sum of f over a list, in whole numbers and in fractions
unfoldable pub total : {X : Type 0} → (X → ℤ) → List X → ℤ
total f [] = pos 0
total f (x ∷ xs) = f x +ℤ total f xs

unfoldable pub totalᶠ : {X : Type 0} → (X → Fraction) → List X → Fraction
totalᶠ f [] = whole (pos 0)
totalᶠ f (x ∷ xs) = f x +ᶠ totalᶠ f xs

-- x where the test passes, else 0
abbrev pub only : Bool → ℤ → ℤ
only true x = x
only false x = pos 0

abbrev pub onlyᶠ : Bool → Fraction → Fraction
onlyᶠ true x = x
onlyᶠ false x = whole (pos 0)

-- P of each element, along the list as the sums go; the library's `All` goes by index
unfoldable pub All : {X : Type 0} → (X → Type 0) → List X → Type 0
All P [] = Unit {0}
All P (x ∷ xs) = P x × All P xs

-- x stands in row i of the table
unfoldable pub Stands : {X : Type 0} → List X → ℕ → X → Type 0
Stands [] i x = ⊥
Stands (y ∷ ys) zero x = x ≡ y
Stands (y ∷ ys) (suc i) x = Stands ys i x

-- row i is in the table, and P holds of it
pub record HoldsAt {X : Type 0} (P : Row X → Type 0) (xs : List X) (i : ℕ) : Type 0 where
  pub item : X
  pub stands : Stands xs i item
  pub holds : P (record { item = item; row = i })

-- the lowest number of which P holds, or none where there is none
abbrev pub Lowest : (ℕ → Type 0) → Option ℕ → Type 0
Lowest P None = (i : ℕ) → P i → ⊥
Lowest P (Some i) = P i × ((j : ℕ) → j < i → P j → ⊥)

-- the sum of f over the first n numbers
unfoldable pub sum_to : (ℕ → ℤ) → ℕ → ℤ
sum_to f zero = pos 0
sum_to f (suc n) = sum_to f n +ℤ f n

-- each of the first n is so small that 255 of them add up within 64 bits
abbrev pub Small : (ℕ → ℤ) → ℕ → Type 0
Small f n = (i : ℕ) → i < n → Within 36000000000000000 (f i)

-- f of the row i, where the table's first row has the number n; y past its end
unfoldable pub row_or : {X Y : Type 0} → Y → (Row X → Y) → ℕ → List X → ℕ → Y
row_or y f n [] i = y
row_or y f n (x ∷ xs) zero = f (record { item = x; row = n })
row_or y f n (x ∷ xs) (suc i) = row_or y f (suc n) xs i

-- a number of the row i; 0 past the end
abbrev pub row_value : {X : Type 0} → (Row X → ℤ) → List X → ℕ → ℤ
row_value f xs i = row_or (pos 0) f 0 xs i

-- a test of the row i; it fails past the end
abbrev pub row_test : {X : Type 0} → (Row X → Bool) → List X → ℕ → Bool
row_test f xs i = row_or false f 0 xs i

-- z is the sum of what is given at the first n numbers, one number at each
unfoldable pub IsSumOf : (ℕ → ℤ → Type 0) → ℕ → ℤ → Type 0
IsSumOf gives zero z = z ≡ pos 0
IsSumOf gives (suc n) z = (a : ℤ) × (b : ℤ) × IsSumOf gives n a × gives n b × (z ≡ a +ℤ b)

-- the lowest of the first n numbers at which a test answers true, or none where it answers false at each
pub record IsFirstOf (gives : ℕ → Bool → Type 0) (n : ℕ) (r : Option ℕ) : Type 0 where
  pub lowest : MatchOption r ((i : ℕ) → i < n → gives i false) (λ i. (i < n) × gives i true × ((j : ℕ) → j < i → gives j false))
