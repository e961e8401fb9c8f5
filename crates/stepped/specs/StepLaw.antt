-- The cost of a stepped machine by its points and slopes: a law that one cost keeps, and no other.
use Rattle.std.specs.Prelude.{ℕ, ◌+◌, ◌<◌, ℤ, pos, ◌*ℤ◌, slice_index_or}
use Rattle.measure.specs.Fraction.{Fraction, whole, Same, ◌≤ᶠ◌, ◌-ᶠ◌, ◌·ᶠ◌}
use Rattle.stepped.specs.Piecewise.{powers_of, stepped_meaning}
use Rattle.stepped.specs.declared.stepped.Stepped.{Stepped}

-- point i and slope i of the row, counted from 0
abbrev pub point : Stepped → ℕ → ℤ
point m i = slice_index_or (powers_of m.points) i (pos 0)

abbrev pub slope : Stepped → ℕ → ℤ
slope m i = slice_index_or m.slopes i (pos 0)

-- x lies on piece i, from point i to point i + 1; the first piece goes on below without end, and the last, piece n - 2, above
pub record OnPiece (m : Stepped) (i : ℕ) (x : Fraction) : Type 0 where
  pub low : 0 < i → whole (point m i) ≤ᶠ x
  pub high : i + 2 < m.n → x ≤ᶠ whole (point m (i + 1))

-- a cost that is 1,000,000 c at the first point, and between any two powers on one piece moves by the slope of the piece
pub record SteppedCostLaw (m : Stepped) (cost : Fraction → Fraction) : Type 0 where
  pub start : Same (cost (whole (point m 0))) (whole (pos 1000000 *ℤ m.c))
  pub along : (i : ℕ) → i + 1 < m.n → (x y : Fraction) → OnPiece m i x → OnPiece m i y → Same (cost y -ᶠ cost x) (slope m i ·ᶠ (y -ᶠ x))

-- the machine's true cost is one, and every other is the same number at every power
pub record OneCost (m : Stepped) : Type 0 where
  pub law : SteppedCostLaw m (stepped_meaning.true_cost m)
  pub only : (cost : Fraction → Fraction) → SteppedCostLaw m cost → (x : Fraction) → Same (cost x) (stepped_meaning.true_cost m x)
