-- A stepped machine keeps the laws.
use Rattle.std.specs.Prelude.{◌≡◌, ℕ, zero, suc, ◌-◌, ◌≤◌, true, List, [], ◌∷◌, take, drop, ℤ, pos, ◌+ℤ◌, ◌-ℤ◌, ◌*ℤ◌, neg_ℤ, ◌≤ℤ◌, int_lt, nat_le}
use Rattle.std.proofs.Common.{subst, arith}
use Rattle.std.proofs.lemmas.Bool.{and_parts, leb-true}
use Rattle.measure.specs.Range.{Within, between}
use Rattle.measure.specs.Fraction.{Fraction, whole, ◌-ᶠ◌, ◌·ᶠ◌, Between, Ceiling}
use Rattle.measure.specs.Rows.{All}
use Rattle.machine.specs.Meaning.{Lawful, Margin, Keeps}
use Rattle.machine.specs.Limits.{limits_in_range}
use Rattle.stepped.specs.Piecewise.{powers_of, each_between, rising, never_falling, in_range, Ranges, Chain, Carried, first, inner, piecewise, piecewise_whole, least_piecewise, stepped_meaning}
use Rattle.stepped.specs.declared.stepped.Stepped.{Stepped}
use Rattle.measure.proofs.Laws.{expand, lin, mul_one}
use Rattle.measure.proofs.Order.{product_within, mul_mono, test_within}
use Rattle.machine.proofs.Idle.{lawful_if}
use Rattle.machine.proofs.InRange.{limits, power_within, limits_lawful}
use Rattle.measure.proofs.Fractions.{den_positive, between_whole}
use Rattle.stepped.specs.Forms.{least_below, least_reached, walk_same, walk_within}

-- all but the last of those that were tested
all_prefix : (n k : ℕ) (xs : List ℤ) → each_between (neg_ℤ (pos n)) (pos n) (take (suc k) xs) ≡ true → All (Within n) (take k xs)
unfolding All
all_prefix n zero xs e = tt
all_prefix n (suc k) [] e = tt
all_prefix n (suc k) (x ∷ xs) e =
    let h = and_parts (between (neg_ℤ (pos n)) (pos n) x) (each_between (neg_ℤ (pos n)) (pos n) (take (suc k) xs)) e in
    (test_within n x h.0, all_prefix n k xs h.1)

all_tested : (n k : ℕ) (xs : List ℤ) → each_between (neg_ℤ (pos n)) (pos n) (take k xs) ≡ true → All (Within n) (take k xs)
unfolding All
all_tested n zero xs e = tt
all_tested n (suc k) [] e = tt
all_tested n (suc k) (x ∷ xs) e =
    let h = and_parts (between (neg_ℤ (pos n)) (pos n) x) (each_between (neg_ℤ (pos n)) (pos n) (take k xs)) e in
    (test_within n x h.0, all_tested n k xs h.1)

chain_prefix : (x : ℤ) (k : ℕ) (xs : List ℤ) → rising (x ∷ take (suc k) xs) ≡ true → Chain x (take k xs)
chain_prefix x zero xs e = tt
chain_prefix x (suc k) [] e = tt
chain_prefix x (suc k) (y ∷ ys) e =
    let h = and_parts (int_lt x y) (rising (y ∷ take (suc k) ys)) e in
    (omega (arith, lin, h.0), chain_prefix y k ys h.1)

record Points (j : ℕ) (xs : List ℤ) : Type 0 where
  start : Within 100000000 (first xs)
  rest : All (Within 100000000) (take j (drop 1 xs))
  chain : Chain (first xs) (take j (drop 1 xs))

points_at : (k : ℕ) (xs : List ℤ) → each_between (neg_ℤ (pos 100000000)) (pos 100000000) (take (suc (suc k)) xs) ≡ true → rising (take (suc (suc k)) xs) ≡ true → Points k xs
unfolding All
points_at zero [] e f = record { start = omega (arith, lin); rest = tt; chain = tt }
points_at (suc k) [] e f = record { start = omega (arith, lin); rest = tt; chain = tt }
points_at k (x ∷ xs) e f =
    let h = and_parts (between (neg_ℤ (pos 100000000)) (pos 100000000) x) (each_between (neg_ℤ (pos 100000000)) (pos 100000000) (take (suc k) xs)) e in
    record { start = test_within 100000000 x h.0; rest = all_prefix 100000000 k xs h.1; chain = chain_prefix x k xs f }

points_of : (n : ℕ) (xs : List ℤ) → 2 ≤ n → each_between (neg_ℤ (pos 100000000)) (pos 100000000) (take n xs) ≡ true → rising (take n xs) ≡ true → Points (n - 1 - 1) xs
points_of zero xs h e f = absurd (omega arith)
points_of (suc zero) xs h e f = absurd (omega arith)
points_of (suc (suc k)) xs h e f = let j : k ≡ suc (suc k) - 1 - 1 = omega arith in subst (λ i. Points i xs) j (points_at k xs e f)

record Slopes (j : ℕ) (xs : List ℤ) : Type 0 where
  start : Within 1000000 (first xs)
  rest : All (Within 1000000) (take j (drop 1 xs))

slopes_at : (k : ℕ) (xs : List ℤ) → each_between (neg_ℤ (pos 1000000)) (pos 1000000) (take (suc k) xs) ≡ true → Slopes k xs
unfolding All
slopes_at zero [] e = record { start = omega (arith, lin); rest = tt }
slopes_at (suc k) [] e = record { start = omega (arith, lin); rest = tt }
slopes_at k (x ∷ xs) e =
    let h = and_parts (between (neg_ℤ (pos 1000000)) (pos 1000000) x) (each_between (neg_ℤ (pos 1000000)) (pos 1000000) (take k xs)) e in
    record { start = test_within 1000000 x h.0; rest = all_tested 1000000 k xs h.1 }

slopes_of : (n : ℕ) (xs : List ℤ) → 1 ≤ n → each_between (neg_ℤ (pos 1000000)) (pos 1000000) (take n xs) ≡ true → Slopes (n - 1) xs
slopes_of zero xs h e = absurd (omega arith)
slopes_of (suc k) xs h e = let j : k ≡ suc k - 1 = omega arith in subst (λ i. Slopes i xs) j (slopes_at k xs e)

pub ranges : (m : Stepped) → in_range m ≡ true → Ranges m
ranges m e =
    let a = and_parts _ (never_falling (take (m.n - 1) m.slopes)) e in
    let b = and_parts _ (each_between (neg_ℤ (pos 1000000)) (pos 1000000) (take (m.n - 1) m.slopes)) a.0 in
    let c = and_parts _ (rising (take m.n (powers_of m.points))) b.0 in
    let d = and_parts _ (each_between (neg_ℤ (pos 100000000)) (pos 100000000) (take m.n (powers_of m.points))) c.0 in
    let f = and_parts _ (between (neg_ℤ (pos 100000000)) (pos 100000000) m.c) d.0 in
    let g = and_parts _ (limits_in_range m.bus m.lo.0 m.hi.0) f.0 in
    let j = and_parts (nat_le 2 m.n) (nat_le m.n 8) g.0 in
    let low = leb-true 2 m.n j.0 in
    let ps = points_of m.n (powers_of m.points) low d.1 c.1 in
    let ss = slopes_of (m.n - 1) m.slopes (omega arith) b.1 in
    record {
      limits = limits m.bus m.lo.0 m.hi.0 g.1;
      c = test_within 100000000 m.c f.1;
      n_low = low;
      n_high = leb-true m.n 8 j.1;
      first_point = ps.start;
      first_slope = ss.start;
      points = ps.rest;
      slopes = ss.rest;
      chain = ps.chain;
    }

-- a margin at a fraction, as the operations on fractions give it: the cost is w / d
margin_from : (w q n d r : ℤ) → pos 1 ≤ℤ d → (r *ℤ d) ≤ℤ (w -ℤ q *ℤ n) → (r *ℤ (d *ℤ d)) ≤ℤ ((w *ℤ d -ℤ q *ℤ n *ℤ d) *ℤ pos 1)
margin_from w q n d r h k = let t = mul_mono _ _ d (omega (arith, lin)) k in simp expand (omega (arith, lin, simp expand at t))

-- and at a whole power
margin_whole : (w q y r s : ℤ) → w ≡ r +ℤ q *ℤ y → (s *ℤ (pos 1 *ℤ pos 1)) ≤ℤ ((w *ℤ pos 1 -ℤ q *ℤ y *ℤ pos 1) *ℤ pos 1) → s ≤ℤ r
margin_whole w q y r s e h = let t = simp mul_one at h in omega (arith, lin, t)

module _ (m : Stepped) (ok : Ranges m) where
  abbrev allowed : Fraction → Type 0
  allowed = Between m.lo.0 m.hi.0

  abbrev base : ℤ
  base = pos 1000000 *ℤ m.c

  answer_is : (p : ℤ) → Ceiling (piecewise m (whole p)) (piecewise_whole m p)
  answer_is p = record { above = record { cross = omega (arith, lin) }; least = λ s h. omega (arith, lin, h.cross) }

  carried : Carried (pos 1000000 *ℤ m.c) (first (powers_of m.points))
  carried =
      let a = product_within 1000000 100000000 (pos 1000000) m.c (omega (arith, lin)) ok.c in
      let b = ok.first_point in
      omega (arith, lin)

  cost_within : (p : ℤ) → Within 100000000 p → Within 500000000000000 (piecewise_whole m p)
  cost_within p h = walk_within base (first (powers_of m.points)) (first m.slopes) (inner m (powers_of m.points)) (inner m m.slopes) p ok.chain carried ok.first_point ok.first_slope ok.points ok.slopes h

  answer_range : (p : ℤ) → Within 100000000 p → Within 1000000000000000 (piecewise_whole m p)
  answer_range p h = omega (arith, lin, cost_within p h)

  reached : (q : ℤ) → (y : ℤ) × (m.lo.0 ≤ℤ y) × (y ≤ℤ m.hi.0) × (piecewise_whole m y ≡ least_piecewise m q +ℤ q *ℤ y)
  reached q = least_reached base (first (powers_of m.points)) (first m.slopes) (inner m (powers_of m.points)) (inner m m.slopes) m.lo.0 m.hi.0 q ok.chain ok.limits.order

  margin_is : (q : ℤ) → Margin allowed (piecewise m) q (least_piecewise m q)
  unfolding ◌-ᶠ◌ ◌·ᶠ◌
  margin_is q = record {
    below = λ x a. record {
      cross = margin_from _ q x.num (pos x.den) (least_piecewise m q) (den_positive x)
          (least_below base (first (powers_of m.points)) (first m.slopes) (inner m (powers_of m.points)) (inner m m.slopes) m.lo.0 m.hi.0 q x.num (pos x.den) (den_positive x) ok.chain (omega (arith, lin, a.low.cross)) (omega (arith, lin, a.high.cross)));
    };
    greatest = λ s g.
        let r = reached q in
        margin_whole (piecewise_whole m r.0) q r.0 (least_piecewise m q) s r.3 (g (whole r.0) (between_whole m.lo.0 m.hi.0 r.0 r.1 r.2)).cross;
  }

  margin_range : (q : ℤ) → Within 1000000 q → Within 1000000000000000 (least_piecewise m q)
  margin_range q h =
      let r = reached q in
      let p = power_within m.lo.0 m.hi.0 ok.limits r.0 r.1 r.2 in
      let w = cost_within r.0 p in
      let t = product_within 1000000 100000000 q r.0 h p in
      omega (arith, lin, w, t, r.3)

  lawful : Lawful allowed (piecewise m) (piecewise_whole m) (least_piecewise m)
  lawful =
      limits_lawful m.lo.0 m.hi.0 ok.limits (piecewise m) (piecewise_whole m) (least_piecewise m)
      (λ x y s. record { cross = walk_same base (first (powers_of m.points)) (first m.slopes) (inner m (powers_of m.points)) (inner m m.slopes) x.num (pos x.den) y.num (pos y.den) (den_positive x) (den_positive y) ok.chain s.cross })
      answer_is answer_range margin_is margin_range

pub stepped_lawful : Keeps stepped_meaning
stepped_lawful m = lawful_if (in_range m) (Between m.lo.0 m.hi.0) (piecewise m) (piecewise_whole m) (least_piecewise m) (λ e. lawful m (ranges m e))
