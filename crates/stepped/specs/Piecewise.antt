-- A machine whose cost is a line in pieces: 1,000,000 c at the first point, from there on by the slope between two neighbouring points,
-- with the first and the last slope going on outside. So the slope changes only at the points between the first and the last.
use Rattle.std.specs.Prelude.{◌-◌, ◌≤◌, Bool, true, cond, ◌&&◌, List, [], ◌∷◌, map, take, drop, ℤ, pos, ◌+ℤ◌, ◌-ℤ◌, ◌*ℤ◌, neg_ℤ, ◌≤ℤ◌, ◌<ℤ◌, int_le, int_lt, nat_le, slice_index_or}
use Rattle.std.specs.Int.{int_min}
use Rattle.measure.specs.Range.{Within, between}
use Rattle.measure.specs.Fraction.{Fraction, Between}
use Rattle.measure.specs.Rows.{All}
use Rattle.machine.specs.Meaning.{Meaning}
use Rattle.machine.specs.Idle.{allowed_if, cost_if, answer_if}
use Rattle.machine.specs.Limits.{limits_in_range, Limits}
use Rattle.measure.specs.declared.Watts.{Watts}
use Rattle.stepped.specs.declared.stepped.Stepped.{Stepped}

-- powers as numbers of watts
abbrev pub powers_of : List Watts → List ℤ
powers_of ws = map (λ w. w.0) ws

-- each number lies between a and b
abbrev pub each_between : ℤ → ℤ → List ℤ → Bool
each_between a b [] = true
each_between a b (x ∷ xs) = between a b x && each_between a b xs

-- each number is above the one before
abbrev pub rising : List ℤ → Bool
rising [] = true
rising (x ∷ []) = true
rising (x ∷ (y ∷ ys)) = int_lt x y && rising (y ∷ ys)

-- no number is below the one before
abbrev pub never_falling : List ℤ → Bool
never_falling [] = true
never_falling (x ∷ []) = true
never_falling (x ∷ (y ∷ ys)) = int_le x y && never_falling (y ∷ ys)

-- the row keeps its ranges and orders
abbrev pub in_range : Stepped → Bool
in_range m =
    nat_le 2 m.n
    && nat_le m.n 8
    && limits_in_range m.bus m.lo.0 m.hi.0
    && between (neg_ℤ (pos 100000000)) (pos 100000000) m.c
    && each_between (neg_ℤ (pos 100000000)) (pos 100000000) (take m.n (powers_of m.points))
    && rising (take m.n (powers_of m.points))
    && each_between (neg_ℤ (pos 1000000)) (pos 1000000) (take (m.n - 1) m.slopes)
    && never_falling (take (m.n - 1) m.slopes)

-- the points ks rise from p on
abbrev pub Chain : ℤ → List ℤ → Type 0
Chain p [] = Unit {0}
Chain p (k ∷ ks) = (p <ℤ k) × Chain k ks

-- how large the cost at the point p can be: it moves by at most 1,000,000 a watt
abbrev pub Carried : ℤ → ℤ → Type 0
Carried base p = (neg_ℤ (pos 200000000000000 +ℤ p *ℤ pos 1000000) ≤ℤ base) × (base ≤ℤ (pos 200000000000000 +ℤ p *ℤ pos 1000000))

-- d times the cost at the power n / d, where it is `base` at p, rises by s from there, and by the slopes ts after the points ks
abbrev pub walk : ℤ → ℤ → ℤ → List ℤ → List ℤ → ℤ → ℤ → ℤ
walk base p s [] ts n d = base *ℤ d +ℤ s *ℤ (n -ℤ p *ℤ d)
walk base p s (k ∷ ks) [] n d = base *ℤ d +ℤ s *ℤ (n -ℤ p *ℤ d)
walk base p s (k ∷ ks) (t ∷ ts) n d = cond (int_le n (k *ℤ d)) (base *ℤ d +ℤ s *ℤ (n -ℤ p *ℤ d)) (walk (base +ℤ s *ℤ (k -ℤ p)) k t ks ts n d)

-- cost - q × power at the whole power y, on the line through `base` at p
abbrev pub net : ℤ → ℤ → ℤ → ℤ → ℤ → ℤ
net base p s q y = base +ℤ s *ℤ (y -ℤ p) -ℤ q *ℤ y

-- the least of cost - q × power from a to b: at a, at b or at a point between
abbrev pub least_walk : ℤ → ℤ → ℤ → List ℤ → List ℤ → ℤ → ℤ → ℤ → ℤ
least_walk base p s [] ts a b q = int_min (net base p s q a) (net base p s q b)
least_walk base p s (k ∷ ks) [] a b q = int_min (net base p s q a) (net base p s q b)
least_walk base p s (k ∷ ks) (t ∷ ts) a b q =
    cond (int_le b k) (int_min (net base p s q a) (net base p s q b))
    (cond (int_le k a) (least_walk (base +ℤ s *ℤ (k -ℤ p)) k t ks ts a b q)
    (int_min (net base p s q a) (least_walk (base +ℤ s *ℤ (k -ℤ p)) k t ks ts k b q)))

-- the first of a row's numbers, and those between its first and its last
abbrev pub first : List ℤ → ℤ
first xs = slice_index_or xs 0 (pos 0)

abbrev pub inner : Stepped → List ℤ → List ℤ
inner m xs = take (m.n - 1 - 1) (drop 1 xs)

-- what the test of a row tells
pub record Ranges (m : Stepped) : Type 0 where
  pub limits : Limits m.lo.0 m.hi.0
  pub c : Within 100000000 m.c
  pub n_low : 2 ≤ m.n
  pub n_high : m.n ≤ 8
  pub first_point : Within 100000000 (first (powers_of m.points))
  pub first_slope : Within 1000000 (first m.slopes)
  pub points : All (Within 100000000) (inner m (powers_of m.points))
  pub slopes : All (Within 1000000) (inner m m.slopes)
  pub chain : Chain (first (powers_of m.points)) (inner m (powers_of m.points))

-- the true cost at power x
abbrev pub piecewise : Stepped → Fraction → Fraction
piecewise m x = record { num = walk (pos 1000000 *ℤ m.c) (first (powers_of m.points)) (first m.slopes) (inner m (powers_of m.points)) (inner m m.slopes) x.num (pos x.den); den = x.den; positive = x.positive }

-- the same at a whole power
abbrev pub piecewise_whole : Stepped → ℤ → ℤ
piecewise_whole m p = walk (pos 1000000 *ℤ m.c) (first (powers_of m.points)) (first m.slopes) (inner m (powers_of m.points)) (inner m m.slopes) p (pos 1)

abbrev pub least_piecewise : Stepped → ℤ → ℤ
least_piecewise m q = least_walk (pos 1000000 *ℤ m.c) (first (powers_of m.points)) (first m.slopes) (inner m (powers_of m.points)) (inner m m.slopes) m.lo.0 m.hi.0 q

abbrev pub stepped_meaning : Meaning Stepped
stepped_meaning = record {
  bus = λ m. m.bus;
  Allowed = λ m. allowed_if (in_range m) (Between m.lo.0 m.hi.0);
  true_cost = λ m. cost_if (in_range m) (piecewise m);
  cost_answer = λ m. answer_if (in_range m) (piecewise_whole m);
  margin = λ m. answer_if (in_range m) (least_piecewise m);
}
