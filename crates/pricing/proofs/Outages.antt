-- Service marks of branches, set and put back.
use Rattle.std.proofs.Common.{◌≡◌, ℕ, zero, suc, ◌<◌, Bool, List, [], ◌∷◌, length, get_or, take, set, ℤ, pos, ◌≤ℤ◌, refl, ap, arith}
use native.Mathlib.Bridge.{le_prop}
use denote.Struct.Props.{props}
use Rattle.network.specs.declared.branch.Branch.{Branch}
use Rattle.measure.specs.Range.{Within}
use Rattle.network.specs.Ranges.{NameRange, Limits}
use Rattle.pricing.specs.Outage.{marked, with_mark}

-- a branch with another mark, whatever the proofs of its ranges
range_same : {n : ℕ} (x y : NameRange n) → x ≡ y
range_same x y = λ i. (le_prop x.0 y.0 i, le_prop x.1 y.1 i)

-- that one whole number is at most another has one proof at most
at_most_prop : {a b : ℤ} → IsProp (a ≤ℤ b)
at_most_prop = hlevel props

between-same : {a b c d : ℤ} (x y : (a ≤ℤ b) × (c ≤ℤ d)) → x ≡ y
between-same x y = λ i. (at_most_prop x.0 y.0 i, at_most_prop x.1 y.1 i)

pub marked-as : (m : Bool) (b : Branch) (n : NameRange b.name.circuit × NameRange b.name.from × NameRange b.name.to) (s : (pos 1 ≤ℤ b.susceptance) × (b.susceptance ≤ℤ pos 1000000)) (h : Within 1600000 b.shift.0) (r : (pos 0 ≤ℤ b.rating.0) × (b.rating.0 ≤ℤ pos 100000000)) (l : Limits b.angmin.0 b.angmax.0) → ◌≡◌ {A = Branch} (record { name = b.name; ends = b.ends; susceptance = b.susceptance; shift = b.shift; rating = b.rating; angmin = b.angmin; angmax = b.angmax; service = m; named = n; susceptible = s; shifted = h; rated = r; limited = l }) (marked m b)
marked-as m b n s h r l =
    λ i.
    record {
      name = b.name;
      ends = b.ends;
      susceptance = b.susceptance;
      shift = b.shift;
      rating = b.rating;
      angmin = b.angmin;
      angmax = b.angmax;
      service = m;
      named = (range_same n.0 b.named.0 i, range_same n.1 b.named.1 i, range_same n.2 b.named.2 i);
      susceptible = between-same s b.susceptible i;
      shifted = between-same h b.shifted i;
      rated = between-same r b.rated i;
      limited = (between-same l.0 b.limited.0 i, between-same l.1 b.limited.1 i, at_most_prop l.2 b.limited.2 i);
    }

-- a mark set in a row
pub set_mark : (bs : List Branch) (i : ℕ) (d : Branch) (m : Bool) (x : Branch) → x ≡ marked m (get_or bs i d) → i < length bs → set bs i x ≡ with_mark bs i m
unfolding with_mark
set_mark [] i d m x e h = absurd (omega arith)
set_mark (b ∷ bs) zero d m x e h = ap (λ y. y ∷ bs) e
set_mark (b ∷ bs) (suc i) d m x e h = ap (λ xs. b ∷ xs) (set_mark bs i d m x e (omega arith))

-- a mark set over another, and a row's own mark set
pub mark_twice : (bs : List Branch) (i : ℕ) (m n : Bool) → with_mark (with_mark bs i m) i n ≡ with_mark bs i n
unfolding with_mark
mark_twice [] i m n = refl
mark_twice (b ∷ bs) zero m n = refl
mark_twice (b ∷ bs) (suc i) m n = ap (λ xs. b ∷ xs) (mark_twice bs i m n)

pub own_mark : (bs : List Branch) (i : ℕ) (d : Branch) → i < length bs → with_mark bs i (get_or bs i d).service ≡ bs
unfolding with_mark
own_mark [] i d h = absurd (omega arith)
own_mark (b ∷ bs) zero d h = refl
own_mark (b ∷ bs) (suc i) d h = ap (λ xs. b ∷ xs) (own_mark bs i d (omega arith))

-- the first rows of a table with a mark set in one of them
pub take_mark : (n : ℕ) (bs : List Branch) (i : ℕ) (m : Bool) → take n (with_mark bs i m) ≡ with_mark (take n bs) i m
unfolding with_mark
take_mark zero bs i m = refl
take_mark (suc n) [] i m = refl
take_mark (suc n) (b ∷ bs) zero m = refl
take_mark (suc n) (b ∷ bs) (suc i) m = ap (λ xs. b ∷ xs) (take_mark n bs i m)
