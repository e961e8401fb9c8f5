-- The test of a stepped row, once the number of points is known to be in range.
use Rattle.std.proofs.Common.{◌≡◌, ◌-◌, ◌≤◌, Bool, ◌&&◌, leb, take, pos, neg_ℤ, sym, ◌∙◌, ap₂}
use Rattle.std.proofs.lemmas.Bool.{le-leb}
use Rattle.measure.specs.Range.{between}
use Rattle.machine.specs.Limits.{limits_in_range}
use Rattle.stepped.specs.Piecewise.{powers_of, each_between, rising, never_falling, in_range}
use Rattle.stepped.specs.declared.stepped.Stepped.{Stepped}

module _ (m : Stepped) (low : 2 ≤ m.n) (high : m.n ≤ 8) where
  pub row_test : (limits c points rise slopes fall : Bool) → limits ≡ limits_in_range m.bus m.lo.0 m.hi.0 → c ≡ between (neg_ℤ (pos 100000000)) (pos 100000000) m.c → points ≡ each_between (neg_ℤ (pos 100000000)) (pos 100000000) (take m.n (powers_of m.points)) → rise ≡ rising (take m.n (powers_of m.points)) → slopes ≡ each_between (neg_ℤ (pos 1000000)) (pos 1000000) (take (m.n - 1) m.slopes) → fall ≡ never_falling (take (m.n - 1) m.slopes) → (limits && c && points && rise && slopes && fall) ≡ in_range m
  row_test limits c points rise slopes fall e1 e2 e3 e4 e5 e6 =
      ap₂ ◌&&◌ (ap₂ ◌&&◌ (ap₂ ◌&&◌ (ap₂ ◌&&◌ (ap₂ ◌&&◌ (e1 ∙ few) e2) e3) e4) e5) e6
    where
      few : limits_in_range m.bus m.lo.0 m.hi.0 ≡ (leb 2 m.n && leb m.n 8 && limits_in_range m.bus m.lo.0 m.hi.0)
      few = sym (ap₂ (λ a b. a && b && limits_in_range m.bus m.lo.0 m.hi.0) (le-leb 2 m.n low) (le-leb m.n 8 high))
