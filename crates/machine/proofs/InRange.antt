-- What the tests of a row's ranges tell.
use Rattle.std.proofs.Common.{◌≡◌, ℕ, true, ◌&&◌, leb, ℤ, pos, neg_ℤ, ◌≤ℤ◌, arith}
use lib.Signed.{le_z}
use Rattle.std.proofs.lemmas.Bool.{and_parts}
use Rattle.measure.specs.Range.{Within, between}
use Rattle.measure.specs.Fraction.{Fraction, whole, Same, Between, Ceiling}
use Rattle.measure.proofs.Laws.{lin}
use Rattle.measure.proofs.Order.{test_within}
use Rattle.measure.proofs.Fractions.{between-same, between-wider, between_whole, whole_between}
use Rattle.machine.specs.Meaning.{Lawful, Margin}
use Rattle.machine.specs.Limits.{limits_in_range, Limits}

pub limits : (bus : ℕ) (lo hi : ℤ) → limits_in_range bus lo hi ≡ true → Limits lo hi
limits bus lo hi e =
    let f = and_parts _ (le_z lo hi) e in
    let g = and_parts _ (between (neg_ℤ (pos 100000000)) (pos 100000000) hi) f.0 in
    let h = and_parts (leb 1 bus && leb bus 255) (between (neg_ℤ (pos 100000000)) (pos 100000000) lo) g.0 in
    record { low = test_within 100000000 lo h.1; high = test_within 100000000 hi g.1; order = omega (arith, lin, f.1) }

module _ (lo hi : ℤ) (ok : Limits lo hi) where
  pub power_within : (p : ℤ) → lo ≤ℤ p → p ≤ℤ hi → Within 100000000 p
  power_within p l h =
      let a = ok.low in
      let b = ok.high in
      omega (arith, lin)

  -- what is left to prove of a machine with such limits
  pub limits_lawful : (cost : Fraction → Fraction) (answer margin : ℤ → ℤ) → ((x y : Fraction) → Same x y → Same (cost x) (cost y)) → ((p : ℤ) → Ceiling (cost (whole p)) (answer p)) → ((p : ℤ) → Within 100000000 p → Within 1000000000000000 (answer p)) → ((q : ℤ) → Margin (Between lo hi) cost q (margin q)) → ((q : ℤ) → Within 1000000 q → Within 1000000000000000 (margin q)) → Lawful (Between lo hi) cost answer margin
  limits_lawful cost answer margin same answer_is answer_range margin_is margin_range = record {
    allowed_same = between-same lo hi;
    cost_same = λ x y s a. same x y s;
    allowed_range = λ x a. between-wider lo hi (neg_ℤ (pos 100000000)) (pos 100000000) x ok.low.0 ok.high.1 a;
    allowed_whole = (lo, between_whole lo hi lo (omega (arith, lin)) ok.order);
    answer_is = λ p a. answer_is p;
    answer_range = λ p a. let l = whole_between lo hi p a in answer_range p (power_within p l.0 l.1);
    margin_is = λ q h. margin_is q;
    margin_range = margin_range;
  }
