-- Each fact on the points and slopes along a cost has one proof.
use Rattle.std.specs.Prelude.{ℕ, List, [], ◌∷◌, ℤ, ◌<ℤ◌}
use Rattle.std.specs.Coded.{×_prop, Unit-prop}
use Rattle.std.proofs.Props.{props}
use Rattle.measure.specs.Range.{Within}
use Rattle.measure.specs.Rows.{All}
use Rattle.stepped.specs.Piecewise.{Chain}

within-prop : (n : ℕ) (z : ℤ) → IsProp (Within n z)
within-prop n z = Prim.hlevel props

below-prop : (p k : ℤ) → IsProp (p <ℤ k)
below-prop p k = Prim.hlevel props

pub All_within-prop : (n : ℕ) (xs : List ℤ) → IsProp (All (Within n) xs)
unfolding All
All_within-prop n [] = Unit-prop
All_within-prop n (x ∷ xs) = ×_prop (within-prop n x) (All_within-prop n xs)

pub Chain-prop : (p : ℤ) (ks : List ℤ) → IsProp (Chain p ks)
Chain-prop p [] = Unit-prop
Chain-prop p (k ∷ ks) = ×_prop (below-prop p k) (Chain-prop k ks)
