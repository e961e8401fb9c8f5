-- Runs of amounts: what they say, and what numbers in a range write.
use Rattle.std.proofs.Common.{◌≡◌, ℕ, zero, suc, true, ◌&&◌, leb, List, [], ◌∷◌, map, length, replicate, ℤ, pos, neg_ℤ, ◌≤ℤ◌, refl, ap, arith}
use lib.Signed.{le_z}
use Rattle.std.proofs.lemmas.Bool.{and_parts, and_from, leb-true, le-leb}
use Rattle.measure.specs.Range.{Within, between}
use Rattle.measure.proofs.Laws.{lin}
use Rattle.measure.proofs.Order.{test, test_within, within_test}
use Rattle.word.specs.Word.{amount_of, amount_word}
use Rattle.word.specs.Laws.{Short}
use Rattle.word.specs.Slot.{Byte, Matches}
use Rattle.word.specs.declared.slot.Slot.TheVariants.{Amount}
use Rattle.word.proofs.Words.{amount_same, amount_back}
use Rattle.word.proofs.Fillings.{amount_fits}
use Rattle.machine.specs.Limits.{limits_in_range}
use Rattle.stepped.specs.Piecewise.{powers_of, each_between}
use Rattle.case_tables.specs.Rows.{powered}

-- ---- tests of ranges
pub between_to : (a b z : ℤ) → between a b z ≡ true → (a ≤ℤ z) × (z ≤ℤ b)
between_to a b z e = let h = and_parts (le_z a z) (le_z z b) e in (omega (arith, lin), omega (arith, lin))

pub between_from : (a b z : ℤ) → (a ≤ℤ z) × (z ≤ℤ b) → between a b z ≡ true
between_from a b z h = and_from (le_z a z) (le_z z b) (test a z h.0) (test z b h.1)

-- the bus and the limits of a machine
pub record Limited (bus : ℕ) (lo hi : ℤ) : Type 0 where
  pub bus_named : Byte bus
  pub low : Within 100000000 lo
  pub high : Within 100000000 hi
  pub order : lo ≤ℤ hi

pub limits_to : (bus : ℕ) (lo hi : ℤ) → limits_in_range bus lo hi ≡ true → Limited bus lo hi
limits_to bus lo hi e =
    let f = and_parts _ (le_z lo hi) e in
    let g = and_parts _ (between (neg_ℤ (pos 100000000)) (pos 100000000) hi) f.0 in
    let h = and_parts (leb 1 bus && leb bus 255) (between (neg_ℤ (pos 100000000)) (pos 100000000) lo) g.0 in
    let j = and_parts (leb 1 bus) (leb bus 255) h.0 in
    record {
      bus_named = (leb-true 1 bus j.0, leb-true bus 255 j.1);
      low = test_within 100000000 lo h.1;
      high = test_within 100000000 hi g.1;
      order = omega (arith, lin, f.1);
    }

pub limits_from : (bus : ℕ) (lo hi : ℤ) → Limited bus lo hi → limits_in_range bus lo hi ≡ true
limits_from bus lo hi l =
    and_from _ (le_z lo hi)
    (and_from _ (between (neg_ℤ (pos 100000000)) (pos 100000000) hi)
    (and_from (leb 1 bus && leb bus 255) (between (neg_ℤ (pos 100000000)) (pos 100000000) lo)
    (and_from (leb 1 bus) (leb bus 255) (le-leb 1 bus l.bus_named.0) (le-leb bus 255 l.bus_named.1))
    (within_test 100000000 lo l.low))
    (within_test 100000000 hi l.high))
    (test lo hi l.order)

-- ---- runs of amounts in one range
module _ (least most : ℤ) where
  abbrev pub Inside : ℤ → Type 0
  Inside z = (least ≤ℤ z) × (z ≤ℤ most)

  -- words that fit a run are what their amounts write, and these are in the range
  pub record ReadRun (n : ℕ) (xs : List ℕ) : Type 0 where
    pub written : map amount_word (map amount_of xs) ≡ xs
    pub inside : each_between least most (map amount_of xs) ≡ true
    pub long : length xs ≡ n

  pub read_run : (n : ℕ) (xs : List ℕ) → Matches (replicate n (Amount least most)) xs → ReadRun n xs
  read_run zero [] m = record { written = refl; inside = refl; long = refl }
  read_run zero (x ∷ xs) m = absurd m
  read_run (suc n) [] m = absurd m
  read_run (suc n) (x ∷ xs) m =
      let r = read_run n xs m.1 in
      let e : amount_word (amount_of x) ≡ x = amount_same x m.0.0 in
      let w = r.written in
      record {
        written = λ i. e i ∷ w i;
        inside = and_from (between least most (amount_of x)) (each_between least most (map amount_of xs)) (between_from least most (amount_of x) m.0.1) r.inside;
        long = ap suc r.long;
      }

  -- what numbers in the range write fits a run, and says them
  pub record WrittenRun (zs : List ℤ) : Type 0 where
    pub fits : Matches (replicate (length zs) (Amount least most)) (map amount_word zs)
    pub said : map amount_of (map amount_word zs) ≡ zs

  pub written_run : ((z : ℤ) → Inside z → Short z) → (zs : List ℤ) → each_between least most zs ≡ true → WrittenRun zs
  written_run short [] e = record { fits = tt; said = refl }
  written_run short (z ∷ zs) e =
      let h = and_parts (between least most z) (each_between least most zs) e in
      let b = between_to least most z h.0 in
      let r = written_run short zs h.1 in
      let s : amount_of (amount_word z) ≡ z = amount_back z (short z b) in
      let t = r.said in
      record {
        fits = (amount_fits least most z (short z b) b, r.fits);
        said = λ i. s i ∷ t i;
      }

pub power_short : (z : ℤ) → Within 100000000 z → Short z
power_short z h = (omega (arith, lin), omega (arith, lin))

pub price_short : (z : ℤ) → Within 1000000 z → Short z
price_short z h = (omega (arith, lin), omega (arith, lin))

-- powers of these watts
pub powers_back : (zs : List ℤ) → powers_of (map powered zs) ≡ zs
powers_back [] = refl
powers_back (z ∷ zs) = ap (λ (l : List ℤ). z ∷ l) (powers_back zs)
