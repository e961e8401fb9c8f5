-- The walk along a cost in straight pieces.
use Rattle.std.specs.Prelude.{◌≡◌, ◌⊎◌, List, [], ◌∷◌, ℤ, pos, ◌+ℤ◌, ◌-ℤ◌, ◌*ℤ◌, ◌≤ℤ◌, ◌<ℤ◌, int_le, int_lt, refl}
use Rattle.std.proofs.Common.{sym, ap, subst, ◌∙◌, inl, inr, ⊎_elim, arith}
use Rattle.std.specs.Int.{int_min}
use Rattle.std.proofs.lemmas.Int.{by_lt_z, clamps}
use Rattle.std.proofs.lemmas.Bool.{cond_both, cond-true}
use Rattle.measure.specs.Range.{Within}
use Rattle.measure.specs.Rows.{All}
use Rattle.stepped.specs.Piecewise.{Chain, Carried, walk, net, least_walk}
use Rattle.measure.proofs.Laws.{expand, lin, mul_one}
use Rattle.measure.proofs.Order.{mul_mono, mul_nonneg, product_within, product_between, test, at_most, under}
use Rattle.measure.proofs.Fractions.{move_above, move_below}

min_left : (x y : ℤ) → int_min x y ≤ℤ x
min_left x y = omega (arith, lin, clamps)

min_right : (x y : ℤ) → int_min x y ≤ℤ y
min_right x y = omega (arith, lin, clamps)

min_either : (x y : ℤ) → (int_min x y ≡ x) ⊎ (int_min x y ≡ y)
min_either x y = cond_both (int_lt y x) y x (λ r. (r ≡ x) ⊎ (r ≡ y)) (λ e. inr refl) (λ e. inl refl)

-- on one line, between two whole powers
module _ (base p s q a b n d : ℤ) (positive : pos 1 ≤ℤ d) (low : (a *ℤ d) ≤ℤ n) (high : n ≤ℤ (b *ℤ d)) where
  abbrev here : ℤ
  here = base *ℤ d +ℤ s *ℤ (n -ℤ p *ℤ d) -ℤ q *ℤ n

  from_left : q ≤ℤ s → (net base p s q a *ℤ d) ≤ℤ here
  from_left h =
      let t = mul_nonneg (s -ℤ q) (n -ℤ a *ℤ d) (omega (arith, lin)) (omega (arith, lin)) in
      simp expand (omega (arith, lin, simp expand at t))

  from_right : s ≤ℤ q → (net base p s q b *ℤ d) ≤ℤ here
  from_right h =
      let t = mul_nonneg (q -ℤ s) (b *ℤ d -ℤ n) (omega (arith, lin)) (omega (arith, lin)) in
      simp expand (omega (arith, lin, simp expand at t))

  pub line_least : (r : ℤ) → r ≤ℤ net base p s q a → r ≤ℤ net base p s q b → (r *ℤ d) ≤ℤ here
  line_least r h k =
      by_lt_z s q
      (λ l. let t = from_right (omega (arith, lin)) in let u = mul_mono r (net base p s q b) d (omega (arith, lin)) k in omega (arith, lin))
      (λ l. let t = from_left l in let u = mul_mono r (net base p s q a) d (omega (arith, lin)) h in omega (arith, lin))

-- at its own start a walk has its base
start_line : (base p s d : ℤ) → base *ℤ d +ℤ s *ℤ (p *ℤ d -ℤ p *ℤ d) ≡ base *ℤ d
start_line base p s d = simp expand (omega (arith, lin))

pub walk_start : (base p s : ℤ) (ks ts : List ℤ) (d : ℤ) → pos 1 ≤ℤ d → Chain p ks → walk base p s ks ts (p *ℤ d) d ≡ base *ℤ d
walk_start base p s [] ts d h c = start_line base p s d
walk_start base p s (k ∷ ks) [] d h c = start_line base p s d
walk_start base p s (k ∷ ks) (t ∷ ts) d h c =
    cond-true (int_le (p *ℤ d) (k *ℤ d)) _ _ (test (p *ℤ d) (k *ℤ d) (mul_mono p k d (omega (arith, lin)) (omega (arith, lin, c.0)))) ∙ start_line base p s d

line_end : (base p s k d : ℤ) → base *ℤ d +ℤ s *ℤ (k *ℤ d -ℤ p *ℤ d) ≡ (base +ℤ s *ℤ (k -ℤ p)) *ℤ d
line_end base p s k d = simp expand (omega (arith, lin))

-- from the next point on, the walk is the walk from there
pub walk_next : (base p s k t : ℤ) (ks ts : List ℤ) (n d : ℤ) → pos 1 ≤ℤ d → Chain k ks → (k *ℤ d) ≤ℤ n → walk base p s (k ∷ ks) (t ∷ ts) n d ≡ walk (base +ℤ s *ℤ (k -ℤ p)) k t ks ts n d
walk_next base p s k t ks ts n d h c l =
    cond_both (int_le n (k *ℤ d)) _ _ (λ w. w ≡ walk (base +ℤ s *ℤ (k -ℤ p)) k t ks ts n d)
    (λ e.
    let f = at_most n (k *ℤ d) e in
    let same : n ≡ k *ℤ d = omega (arith, lin) in
    ap (λ z. base *ℤ d +ℤ s *ℤ (z -ℤ p *ℤ d)) same
    ∙ line_end base p s k d
    ∙ sym (walk_start (base +ℤ s *ℤ (k -ℤ p)) k t ks ts d h c)
    ∙ ap (λ z. walk (base +ℤ s *ℤ (k -ℤ p)) k t ks ts z d) (sym same))
    (λ e. refl)

-- up to the next point, it is the line
pub walk_line : (base p s k t : ℤ) (ks ts : List ℤ) (n d : ℤ) → n ≤ℤ (k *ℤ d) → walk base p s (k ∷ ks) (t ∷ ts) n d ≡ base *ℤ d +ℤ s *ℤ (n -ℤ p *ℤ d)
walk_line base p s k t ks ts n d l = cond-true (int_le n (k *ℤ d)) _ _ (test n (k *ℤ d) l)

net_end : (base p s q k : ℤ) → net base p s q k ≡ net (base +ℤ s *ℤ (k -ℤ p)) k s q k
net_end base p s q k = simp expand (omega (arith, lin))

at_bend : (base p s k q r : ℤ) → (r *ℤ pos 1) ≤ℤ ((base +ℤ s *ℤ (k -ℤ p)) *ℤ pos 1 -ℤ q *ℤ (k *ℤ pos 1)) → r ≤ℤ net base p s q k
at_bend base p s k q r h = let t = simp (mul_one) at h in omega (arith, lin, t)

-- the least margin is at most the margin at each power from a to b
pub least_below : (base p s : ℤ) (ks ts : List ℤ) (a b q n d : ℤ) → pos 1 ≤ℤ d → Chain p ks → (a *ℤ d) ≤ℤ n → n ≤ℤ (b *ℤ d) → (least_walk base p s ks ts a b q *ℤ d) ≤ℤ (walk base p s ks ts n d -ℤ q *ℤ n)
least_below base p s [] ts a b q n d h c l u = line_least base p s q a b n d h l u (int_min (net base p s q a) (net base p s q b)) (min_left _ _) (min_right _ _)
least_below base p s (k ∷ ks) [] a b q n d h c l u = line_least base p s q a b n d h l u (int_min (net base p s q a) (net base p s q b)) (min_left _ _) (min_right _ _)
least_below base p s (k ∷ ks) (t ∷ ts) a b q n d h c l u =
    cond_both (int_le b k) _ _ (λ r. (r *ℤ d) ≤ℤ (walk base p s (k ∷ ks) (t ∷ ts) n d -ℤ q *ℤ n))
    (λ e.
    let m = mul_mono b k d (omega (arith, lin)) (at_most b k e) in
    subst (λ w. (int_min (net base p s q a) (net base p s q b) *ℤ d) ≤ℤ (w -ℤ q *ℤ n)) (sym (walk_line base p s k t ks ts n d (omega (arith, lin))))
    (line_least base p s q a b n d h l u (int_min (net base p s q a) (net base p s q b)) (min_left _ _) (min_right _ _)))
    (λ e.
    cond_both (int_le k a) _ _ (λ r. (r *ℤ d) ≤ℤ (walk base p s (k ∷ ks) (t ∷ ts) n d -ℤ q *ℤ n))
    (λ f.
    let m = mul_mono k a d (omega (arith, lin)) (at_most k a f) in
    subst (λ w. (least_walk (base +ℤ s *ℤ (k -ℤ p)) k t ks ts a b q *ℤ d) ≤ℤ (w -ℤ q *ℤ n)) (sym (walk_next base p s k t ks ts n d h c.1 (omega (arith, lin))))
    (least_below (base +ℤ s *ℤ (k -ℤ p)) k t ks ts a b q n d h c.1 l u))
    (λ f.
    let g = under b k e in
    let bend : least_walk (base +ℤ s *ℤ (k -ℤ p)) k t ks ts k b q ≤ℤ net base p s q k =
    at_bend base p s k q (least_walk (base +ℤ s *ℤ (k -ℤ p)) k t ks ts k b q)
    (subst (λ w. (least_walk (base +ℤ s *ℤ (k -ℤ p)) k t ks ts k b q *ℤ pos 1) ≤ℤ (w -ℤ q *ℤ (k *ℤ pos 1)))
    (walk_start (base +ℤ s *ℤ (k -ℤ p)) k t ks ts (pos 1) (omega (arith, lin)) c.1)
    (least_below (base +ℤ s *ℤ (k -ℤ p)) k t ks ts k b q (k *ℤ pos 1) (pos 1) (omega (arith, lin)) c.1 (omega (arith, lin)) (omega (arith, lin)))) in
    by_lt_z (k *ℤ d) n
    (λ o.
    let i = least_below (base +ℤ s *ℤ (k -ℤ p)) k t ks ts k b q n d h c.1 (omega (arith, lin)) u in
    let m = mul_mono _ _ d (omega (arith, lin)) (min_right (net base p s q a) (least_walk (base +ℤ s *ℤ (k -ℤ p)) k t ks ts k b q)) in
    subst (λ w. (int_min (net base p s q a) (least_walk (base +ℤ s *ℤ (k -ℤ p)) k t ks ts k b q) *ℤ d) ≤ℤ (w -ℤ q *ℤ n)) (sym (walk_next base p s k t ks ts n d h c.1 (omega (arith, lin))))
    (omega (arith, lin, i, m)))
    (λ o.
    subst (λ w. (int_min (net base p s q a) (least_walk (base +ℤ s *ℤ (k -ℤ p)) k t ks ts k b q) *ℤ d) ≤ℤ (w -ℤ q *ℤ n)) (sym (walk_line base p s k t ks ts n d o))
    (line_least base p s q a k n d h l o _ (min_left _ _) (omega (arith, lin, min_right (net base p s q a) (least_walk (base +ℤ s *ℤ (k -ℤ p)) k t ks ts k b q), bend))))))

-- a margin at a whole power, on a line
line_net : (base p s q y : ℤ) → base *ℤ pos 1 +ℤ s *ℤ (y -ℤ p *ℤ pos 1) ≡ net base p s q y +ℤ q *ℤ y
line_net base p s q y = simp mul_one (omega (arith, lin))

-- the least of the two ends of a line is reached at one of them
end_reached : (base p s a b q : ℤ) → a ≤ℤ b → (y : ℤ) × (a ≤ℤ y) × (y ≤ℤ b) × (base *ℤ pos 1 +ℤ s *ℤ (y -ℤ p *ℤ pos 1) ≡ int_min (net base p s q a) (net base p s q b) +ℤ q *ℤ y)
end_reached base p s a b q h =
    ⊎_elim
    (λ e. (a, omega (arith, lin), h, line_net base p s q a ∙ ap (λ z. z +ℤ q *ℤ a) (sym e)))
    (λ e. (b, h, omega (arith, lin), line_net base p s q b ∙ ap (λ z. z +ℤ q *ℤ b) (sym e)))
    (min_either (net base p s q a) (net base p s q b))

-- the least margin is reached at a whole power
abbrev Reached : ℤ → ℤ → ℤ → List ℤ → List ℤ → ℤ → ℤ → ℤ → ℤ → Type 0
Reached base p s ks ts a b q r = (y : ℤ) × (a ≤ℤ y) × (y ≤ℤ b) × (walk base p s ks ts y (pos 1) ≡ r +ℤ q *ℤ y)

pub least_reached : (base p s : ℤ) (ks ts : List ℤ) (a b q : ℤ) → Chain p ks → a ≤ℤ b → Reached base p s ks ts a b q (least_walk base p s ks ts a b q)
least_reached base p s [] ts a b q c h = end_reached base p s a b q h
least_reached base p s (k ∷ ks) [] a b q c h = end_reached base p s a b q h
least_reached base p s (k ∷ ks) (t ∷ ts) a b q c h =
    cond_both (int_le b k) _ _ (Reached base p s (k ∷ ks) (t ∷ ts) a b q)
    (λ e.
    let r = end_reached base p s a b q h in
    let g = at_most b k e in
    let y = r.2 in
    (r.0, r.1, r.2, walk_line base p s k t ks ts r.0 (pos 1) (omega (arith, lin)) ∙ r.3))
    (λ e.
    cond_both (int_le k a) _ _ (Reached base p s (k ∷ ks) (t ∷ ts) a b q)
    (λ f.
    let r = least_reached (base +ℤ s *ℤ (k -ℤ p)) k t ks ts a b q c.1 h in
    let g = at_most k a f in
    let x = r.1 in
    (r.0, r.1, r.2, walk_next base p s k t ks ts r.0 (pos 1) (omega (arith, lin)) c.1 (omega (arith, lin)) ∙ r.3))
    (λ f.
    let g = under b k e in
    let o = under k a f in
    ⊎_elim
    (λ i. (a, omega (arith, lin), h, walk_line base p s k t ks ts a (pos 1) (omega (arith, lin)) ∙ line_net base p s q a ∙ ap (λ z. z +ℤ q *ℤ a) (sym i)))
    (λ i.
    let r = least_reached (base +ℤ s *ℤ (k -ℤ p)) k t ks ts k b q c.1 (omega (arith, lin)) in
    let x = r.1 in
    (r.0, omega (arith, lin), r.2, walk_next base p s k t ks ts r.0 (pos 1) (omega (arith, lin)) c.1 (omega (arith, lin)) ∙ r.3 ∙ ap (λ z. z +ℤ q *ℤ r.0) (sym i)))
    (min_either (net base p s q a) (least_walk (base +ℤ s *ℤ (k -ℤ p)) k t ks ts k b q))))

-- the same fraction has the same cost
line_same : (base p s n d m e : ℤ) → n *ℤ e ≡ m *ℤ d → (base *ℤ d +ℤ s *ℤ (n -ℤ p *ℤ d)) *ℤ e ≡ (base *ℤ e +ℤ s *ℤ (m -ℤ p *ℤ e)) *ℤ d
line_same base p s n d m e h =
    let t = ap (λ (z : ℤ). s *ℤ z) h in
    simp expand (omega (arith, lin, simp expand at t))

pub walk_same : (base p s : ℤ) (ks ts : List ℤ) (n d m e : ℤ) → pos 1 ≤ℤ d → pos 1 ≤ℤ e → Chain p ks → n *ℤ e ≡ m *ℤ d → walk base p s ks ts n d *ℤ e ≡ walk base p s ks ts m e *ℤ d
walk_same base p s [] ts n d m e h k c w = line_same base p s n d m e w
walk_same base p s (x ∷ ks) [] n d m e h k c w = line_same base p s n d m e w
walk_same base p s (x ∷ ks) (t ∷ ts) n d m e h k c w =
    by_lt_z (x *ℤ d) n
    (λ o.
    let i : (x *ℤ e) ≤ℤ (m *ℤ pos 1) = move_above x (pos 1) n d m e h k w (omega (arith, lin)) in
    ap (λ z. z *ℤ e) (walk_next base p s x t ks ts n d h c.1 (omega (arith, lin)))
    ∙ walk_same (base +ℤ s *ℤ (x -ℤ p)) x t ks ts n d m e h k c.1 w
    ∙ ap (λ z. z *ℤ d) (sym (walk_next base p s x t ks ts m e k c.1 (omega (arith, lin)))))
    (λ o.
    let i : (m *ℤ pos 1) ≤ℤ (x *ℤ e) = move_below x (pos 1) n d m e h k w (omega (arith, lin)) in
    ap (λ z. z *ℤ e) (walk_line base p s x t ks ts n d o)
    ∙ line_same base p s n d m e w
    ∙ ap (λ z. z *ℤ d) (sym (walk_line base p s x t ks ts m e (omega (arith, lin)))))

pub carried_next : (base p s k : ℤ) → Carried base p → p <ℤ k → Within 1000000 s → Carried (base +ℤ s *ℤ (k -ℤ p)) k
carried_next base p s k h l w =
    let t = product_between (pos 1000000) (k -ℤ p) s (k -ℤ p) w.0 w.1 (omega (arith, lin)) (omega (arith, lin)) in
    let u = simp expand at t.0 in
    let v = simp expand at t.1 in
    (simp expand (omega (arith, lin, u, h)), simp expand (omega (arith, lin, v, h)))

line_within : (base p s y : ℤ) → Carried base p → Within 100000000 p → Within 1000000 s → Within 100000000 y → Within 500000000000000 (base *ℤ pos 1 +ℤ s *ℤ (y -ℤ p *ℤ pos 1))
line_within base p s y c w v u =
    let d : Within 200000000 (y -ℤ p *ℤ pos 1) = omega (arith, lin) in
    let t = product_within 1000000 200000000 s (y -ℤ p *ℤ pos 1) v d in
    omega (arith, lin)

pub walk_within : (base p s : ℤ) (ks ts : List ℤ) (y : ℤ) → Chain p ks → Carried base p → Within 100000000 p → Within 1000000 s → All (Within 100000000) ks → All (Within 1000000) ts → Within 100000000 y → Within 500000000000000 (walk base p s ks ts y (pos 1))
unfolding All
walk_within base p s [] ts y c b w v ws vs u = line_within base p s y b w v u
walk_within base p s (k ∷ ks) [] y c b w v ws vs u = line_within base p s y b w v u
walk_within base p s (k ∷ ks) (t ∷ ts) y c b w v ws vs u =
    cond_both (int_le y (k *ℤ pos 1)) _ _ (Within 500000000000000) (λ e. line_within base p s y b w v u)
    (λ e. walk_within (base +ℤ s *ℤ (k -ℤ p)) k t ks ts y c.1 (carried_next base p s k b c.0 v) ws.0 vs.0 ws.1 vs.1 u)
