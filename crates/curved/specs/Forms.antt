-- The quadratic over fractions, as inequalities between whole numbers. A power is n / d; `a` is the fixed cost, b is q - c1.
use Rattle.std.specs.Prelude.{◌≡◌, true, false, ℤ, pos, ◌+ℤ◌, ◌-ℤ◌, ◌*ℤ◌, neg_ℤ, ◌≤ℤ◌, ◌<ℤ◌, int_le}
use Rattle.std.proofs.Common.{ap, arith}
use Rattle.std.proofs.lemmas.Int.{by_lt_z}
use Rattle.measure.specs.Range.{Within, floor_div, ceil_div}
use Rattle.measure.proofs.Quotient.{floor_div-is}
use Rattle.measure.proofs.Laws.{expand, flat, lin}
use Rattle.measure.proofs.Order.{product_within, product_between, mul_mono, mul_cancel, mul_cancel_strict, mul_nonneg, mul_positive, square_nonneg, positive_factor, at_most, under}

-- r ≤ a - b x + c2 x x / 1,000,000
abbrev pub Plain : ℤ → ℤ → ℤ → ℤ → ℤ → ℤ → Type 0
Plain a b c2 r n d = (r *ℤ d *ℤ d *ℤ pos 1000000) ≤ℤ (a *ℤ d *ℤ d *ℤ pos 1000000 -ℤ b *ℤ n *ℤ d *ℤ pos 1000000 +ℤ c2 *ℤ n *ℤ n)

-- the cost, as the operations on fractions give it
abbrev pub cost_num : ℤ → ℤ → ℤ → ℤ → ℤ → ℤ
cost_num a c1 c2 n d = (a *ℤ d +ℤ c1 *ℤ n *ℤ pos 1) *ℤ (pos 1000000 *ℤ d *ℤ d) +ℤ c2 *ℤ n *ℤ n *ℤ (pos 1 *ℤ d)

abbrev pub cost_den : ℤ → ℤ
cost_den d = pos 1 *ℤ d *ℤ (pos 1000000 *ℤ d *ℤ d)

-- the same as Plain, in those terms; b is q - c1
abbrev pub Below : ℤ → ℤ → ℤ → ℤ → ℤ → ℤ → ℤ → Type 0
Below a c1 c2 q r n d =
    (r *ℤ (cost_den d *ℤ d)) ≤ℤ ((cost_num a c1 c2 n d *ℤ d -ℤ q *ℤ n *ℤ cost_den d) *ℤ pos 1)

module _ (a c1 c2 q r n d : ℤ) (positive : pos 1 ≤ℤ d) where
  pub below_from : Plain a (q -ℤ c1) c2 r n d → Below a c1 c2 q r n d
  below_from h =
      let t = mul_mono _ _ (d *ℤ d) (mul_nonneg d d (omega (arith, lin)) (omega (arith, lin))) h in
      simp expand (simp flat (omega (arith, lin, simp flat at (simp expand at t))))

  pub plain_from : Below a c1 c2 q r n d → Plain a (q -ℤ c1) c2 r n d
  plain_from h =
      mul_cancel _ _ (d *ℤ d) (mul_positive d d positive positive)
      (simp expand (simp flat (omega (arith, lin, simp flat at (simp expand at h)))))

module _ (a b c2 r n d : ℤ) (positive : pos 1 ≤ℤ d) (convex : pos 1 ≤ℤ c2) where
  -- by the square of c2 n - 500,000 b d
  pub plain_from_vertex : (b *ℤ b *ℤ pos 250000) ≤ℤ ((a -ℤ r) *ℤ c2) → Plain a b c2 r n d
  plain_from_vertex h =
      let s = square_nonneg (c2 *ℤ n -ℤ b *ℤ d *ℤ pos 500000) in
      let t = mul_mono _ _ (d *ℤ d) (mul_nonneg d d (omega (arith, lin)) (omega (arith, lin))) h in
      mul_cancel _ _ c2 convex
      (simp expand (simp flat (omega (arith, lin, simp flat at (simp expand at s), simp flat at (simp expand at t)))))

  -- the slope at the limit p points up towards x
  pub plain_from_limit : (p : ℤ) → pos 0 ≤ℤ ((n -ℤ p *ℤ d) *ℤ (c2 *ℤ p *ℤ pos 2 -ℤ b *ℤ pos 1000000)) → Plain a b c2 r p (pos 1) → Plain a b c2 r n d
  plain_from_limit p h k =
      let s = mul_nonneg c2 _ (omega (arith, lin)) (square_nonneg (n -ℤ p *ℤ d)) in
      let t = mul_mono _ _ (d *ℤ d) (mul_nonneg d d (omega (arith, lin)) (omega (arith, lin))) k in
      let u = mul_mono _ _ d (omega (arith, lin)) h in
      simp expand (simp flat (omega (arith, lin, simp flat at (simp expand at s), simp flat at (simp expand at t), simp flat at (simp expand at u))))

-- the value at a limit, rounded down
pub limit_plain : (a b c2 p : ℤ) → Plain a b c2 (a -ℤ b *ℤ p +ℤ floor_div (c2 *ℤ p *ℤ p) (pos 1000000)) p (pos 1)
limit_plain a b c2 p = let h = floor_div-is (c2 *ℤ p *ℤ p) (pos 1000000) (omega (arith, lin)) in omega (arith, lin)

pub limit_greatest : (a b c2 p s : ℤ) → Plain a b c2 s p (pos 1) → s ≤ℤ (a -ℤ b *ℤ p +ℤ floor_div (c2 *ℤ p *ℤ p) (pos 1000000))
limit_greatest a b c2 p s k = let h = floor_div-is (c2 *ℤ p *ℤ p) (pos 1000000) (omega (arith, lin)) in omega (arith, lin)

-- the value at the vertex, rounded down
module _ (a b c2 : ℤ) (convex : pos 1 ≤ℤ c2) where
  pub vertex_fits : (b *ℤ b *ℤ pos 250000) ≤ℤ ((a -ℤ (a +ℤ floor_div (neg_ℤ (pos 250000 *ℤ b *ℤ b)) c2)) *ℤ c2)
  vertex_fits =
      let h = floor_div-is (neg_ℤ (pos 250000 *ℤ b *ℤ b)) c2 convex in
      simp expand (simp flat (omega (arith, lin, simp flat at (simp expand at h.0))))

  pub vertex_greatest : (s : ℤ) → Plain a b c2 s (b *ℤ pos 500000) c2 → s ≤ℤ (a +ℤ floor_div (neg_ℤ (pos 250000 *ℤ b *ℤ b)) c2)
  vertex_greatest s k =
      let h = floor_div-is (neg_ℤ (pos 250000 *ℤ b *ℤ b)) c2 convex in
      let l : ((s *ℤ c2) *ℤ c2) ≤ℤ ((a *ℤ c2 -ℤ b *ℤ b *ℤ pos 250000) *ℤ c2) =
      simp expand (simp flat (omega (arith, lin, simp flat at (simp expand at k)))) in
      let m : (s *ℤ c2) ≤ℤ (a *ℤ c2 -ℤ b *ℤ b *ℤ pos 250000) = mul_cancel _ _ c2 convex l in
      let e : s <ℤ (a +ℤ floor_div (neg_ℤ (pos 250000 *ℤ b *ℤ b)) c2 +ℤ pos 1) =
      mul_cancel_strict _ _ c2 (omega (arith, lin)) (simp expand (simp flat (omega (arith, lin, simp flat at (simp expand at h.1), simp flat at (simp expand at m))))) in
      omega (arith, lin)

-- the cost at a whole power, rounded up
abbrev pub Above : ℤ → ℤ → ℤ → ℤ → ℤ → Type 0
Above a c1 c2 r p = (a *ℤ pos 1000000 +ℤ c1 *ℤ p *ℤ pos 1000000 +ℤ c2 *ℤ p *ℤ p) ≤ℤ (r *ℤ pos 1000000)

pub rounded_above : (a c1 c2 p : ℤ) → Above a c1 c2 (a +ℤ c1 *ℤ p +ℤ ceil_div (c2 *ℤ p *ℤ p) (pos 1000000)) p
rounded_above a c1 c2 p = let h = floor_div-is (neg_ℤ (c2 *ℤ p *ℤ p)) (pos 1000000) (omega (arith, lin)) in omega (arith, lin)

pub rounded_least : (a c1 c2 p s : ℤ) → Above a c1 c2 s p → (a +ℤ c1 *ℤ p +ℤ ceil_div (c2 *ℤ p *ℤ p) (pos 1000000)) ≤ℤ s
rounded_least a c1 c2 p s k = let h = floor_div-is (neg_ℤ (c2 *ℤ p *ℤ p)) (pos 1000000) (omega (arith, lin)) in omega (arith, lin)

-- the cost at a whole power, as the operations on fractions give it
pub above_from : (a c1 c2 r p : ℤ) → Above a c1 c2 r p → (cost_num a c1 c2 p (pos 1) *ℤ pos 1) ≤ℤ (r *ℤ cost_den (pos 1))
above_from a c1 c2 r p h = simp expand (simp flat (omega (arith, lin, simp flat at (simp expand at h))))

pub above_to : (a c1 c2 r p : ℤ) → (cost_num a c1 c2 p (pos 1) *ℤ pos 1) ≤ℤ (r *ℤ cost_den (pos 1)) → Above a c1 c2 r p
above_to a c1 c2 r p h = simp expand (simp flat (omega (arith, lin, simp flat at (simp expand at h))))

-- the same fraction has the same cost
pub same_cost : (a c1 c2 n d m e : ℤ) → n *ℤ e ≡ m *ℤ d → cost_num a c1 c2 n d *ℤ cost_den e ≡ cost_num a c1 c2 m e *ℤ cost_den d
same_cost a c1 c2 n d m e h =
    let s = ap (λ (t : ℤ). t *ℤ (c1 *ℤ d *ℤ d *ℤ e *ℤ e)) h in
    let t : (n *ℤ e) *ℤ (n *ℤ e) *ℤ (c2 *ℤ d *ℤ e) ≡ (m *ℤ d) *ℤ (m *ℤ d) *ℤ (c2 *ℤ d *ℤ e) = ap (λ (t : ℤ). t *ℤ t *ℤ (c2 *ℤ d *ℤ e)) h in
    simp expand (simp flat (omega (arith, lin, simp flat at (simp expand at s), simp flat at (simp expand at t))))

-- the slope at a limit, and the way from it to n / d
module _ (b c2 p n d : ℤ) where
  pub slope_up : int_le (pos 1000000 *ℤ b) (pos 2 *ℤ c2 *ℤ p) ≡ true → (p *ℤ d) ≤ℤ (n *ℤ pos 1) → pos 0 ≤ℤ ((n -ℤ p *ℤ d) *ℤ (c2 *ℤ p *ℤ pos 2 -ℤ b *ℤ pos 1000000))
  slope_up e h =
      let t = at_most (pos 1000000 *ℤ b) (pos 2 *ℤ c2 *ℤ p) e in
      mul_nonneg (n -ℤ p *ℤ d) (c2 *ℤ p *ℤ pos 2 -ℤ b *ℤ pos 1000000) (omega (arith, lin)) (simp expand (simp flat (omega (arith, lin, simp flat at (simp expand at t)))))

  pub slope_down : int_le (pos 2 *ℤ c2 *ℤ p) (pos 1000000 *ℤ b) ≡ true → (n *ℤ pos 1) ≤ℤ (p *ℤ d) → pos 0 ≤ℤ ((n -ℤ p *ℤ d) *ℤ (c2 *ℤ p *ℤ pos 2 -ℤ b *ℤ pos 1000000))
  slope_down e h =
      let t = at_most (pos 2 *ℤ c2 *ℤ p) (pos 1000000 *ℤ b) e in
      let u = mul_nonneg (p *ℤ d -ℤ n) (b *ℤ pos 1000000 -ℤ c2 *ℤ p *ℤ pos 2) (omega (arith, lin)) (simp expand (simp flat (omega (arith, lin, simp flat at (simp expand at t))))) in
      simp expand (simp flat (omega (arith, lin, simp flat at (simp expand at u))))

-- the vertex lies between the limits
module _ (b c2 p : ℤ) where
  pub vertex_above : int_le (pos 1000000 *ℤ b) (pos 2 *ℤ c2 *ℤ p) ≡ false → (p *ℤ c2) ≤ℤ (b *ℤ pos 500000 *ℤ pos 1)
  vertex_above e = let t = under (pos 1000000 *ℤ b) (pos 2 *ℤ c2 *ℤ p) e in simp expand (omega (arith, lin, simp flat at (simp expand at t)))

  pub vertex_under : int_le (pos 2 *ℤ c2 *ℤ p) (pos 1000000 *ℤ b) ≡ false → (b *ℤ pos 500000 *ℤ pos 1) ≤ℤ (p *ℤ c2)
  vertex_under e = let t = under (pos 2 *ℤ c2 *ℤ p) (pos 1000000 *ℤ b) e in simp expand (omega (arith, lin, simp flat at (simp expand at t)))

-- how large the answers are
pub square_within : (c2 p : ℤ) → Within 500 c2 → Within 100000000 p → Within 5000000000000000000 (c2 *ℤ p *ℤ p)
square_within c2 p h k = product_within 50000000000 100000000 (c2 *ℤ p) p (product_within 500 100000000 c2 p h k) k

module _ (c0 c1 c2 p : ℤ) (h0 : Within 100000000 c0) (h2 : Within 500 c2) (hp : Within 100000000 p) where
  fixed_within : Within 100000000000000 (pos 1000000 *ℤ c0)
  fixed_within = product_within 1000000 100000000 (pos 1000000) c0 (omega (arith, lin)) h0

  pub rounded_within : Within 1000000 c1 → Within 1000000000000000 (pos 1000000 *ℤ c0 +ℤ c1 *ℤ p +ℤ ceil_div (c2 *ℤ p *ℤ p) (pos 1000000))
  rounded_within h1 =
      let s = product_within 1000000 100000000 c1 p h1 hp in
      let f = fixed_within in
      let t = square_within c2 p h2 hp in
      let q = floor_div-is (neg_ℤ (c2 *ℤ p *ℤ p)) (pos 1000000) (omega (arith, lin)) in
      omega (arith, lin)

  pub limit_within : (b : ℤ) → Within 2000000 b → Within 1000000000000000 (pos 1000000 *ℤ c0 -ℤ b *ℤ p +ℤ floor_div (c2 *ℤ p *ℤ p) (pos 1000000))
  limit_within b h =
      let s = product_within 2000000 100000000 b p h hp in
      let f = fixed_within in
      let t = square_within c2 p h2 hp in
      let q = floor_div-is (c2 *ℤ p *ℤ p) (pos 1000000) (omega (arith, lin)) in
      omega (arith, lin)

module _ (b c2 f : ℤ) (convex : pos 1 ≤ℤ c2) where
  floor_low : (b *ℤ b) ≤ℤ (c2 *ℤ pos 400000000) → neg_ℤ (b *ℤ b *ℤ pos 250000) <ℤ (f *ℤ c2 +ℤ c2) → pos 0 <ℤ (f +ℤ pos 100000000000001)
  floor_low h k = positive_factor _ c2 (omega (arith, lin)) (simp expand (omega (arith, lin, simp flat at (simp expand at k), h)))

  floor_high : (f *ℤ c2) ≤ℤ neg_ℤ (b *ℤ b *ℤ pos 250000) → f ≤ℤ pos 0
  floor_high h =
      by_lt_z (pos 0) f
      (λ s. let t = mul_positive f c2 (omega (arith, lin)) convex in absurd (omega (arith, lin, square_nonneg b)))
      (λ s. s)

-- at the vertex |b| is at most 200 c2
pub vertex_within : (c0 b c2 lo hi : ℤ) → Within 100000000 c0 → Within 2000000 b → pos 1 ≤ℤ c2 → Within 100000000 lo → Within 100000000 hi → (lo *ℤ c2) ≤ℤ (b *ℤ pos 500000 *ℤ pos 1) → (b *ℤ pos 500000 *ℤ pos 1) ≤ℤ (hi *ℤ c2) → Within 1000000000000000 (pos 1000000 *ℤ c0 +ℤ floor_div (neg_ℤ (pos 250000 *ℤ b *ℤ b)) c2)
vertex_within c0 b c2 lo hi h0 hb convex l h below above =
    let q = floor_div-is (neg_ℤ (pos 250000 *ℤ b *ℤ b)) c2 convex in
    let r : pos 250000 *ℤ b *ℤ b ≡ b *ℤ b *ℤ pos 250000 = simp expand in
    let u = mul_nonneg (lo +ℤ pos 100000000) c2 (omega (arith, lin)) (omega (arith, lin)) in
    let v = mul_nonneg (pos 100000000 -ℤ hi) c2 (omega (arith, lin)) (omega (arith, lin)) in
    let u' : (neg_ℤ (c2 *ℤ pos 200)) ≤ℤ b = omega (arith, lin, simp expand at u, simp expand at below) in
    let v' : b ≤ℤ (c2 *ℤ pos 200) = omega (arith, lin, simp expand at v, simp expand at above) in
    let w = product_between (c2 *ℤ pos 200) (pos 2000000) b b u' v' hb.0 hb.1 in
    let f = product_within 1000000 100000000 (pos 1000000) c0 (omega (arith, lin)) h0 in
    let x = floor_low b c2 (floor_div (neg_ℤ (pos 250000 *ℤ b *ℤ b)) c2) convex (omega (arith, lin, w.1)) (omega (arith, lin, q.1, r)) in
    let y = floor_high b c2 (floor_div (neg_ℤ (pos 250000 *ℤ b *ℤ b)) c2) convex (omega (arith, lin, q.0, r)) in
    omega (arith, lin, f, x, y)
