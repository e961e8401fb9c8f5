-- The walk along a row's points keeps the law of its cost, and nothing else does.
use Rattle.std.proofs.Common.{◌≡◌, ℕ, zero, suc, ◌+◌, ◌-◌, ◌<◌, ◌≤◌, Bool, true, List, [], ◌∷◌, length, get_or, take, drop, ℤ, pos, ◌+ℤ◌, ◌-ℤ◌, ◌*ℤ◌, ◌≤ℤ◌, sym, refl, ap, ◌∙◌, subst, add-one, arith}
use Rattle.std.proofs.lemmas.List.{length-take-le, length-drop, get_or-take}
use Rattle.std.proofs.lemmas.Int.{by_lt_z}
use Rattle.measure.specs.Fraction.{Fraction, whole, Same, ◌≤ᶠ◌, ◌-ᶠ◌, ◌·ᶠ◌}
use Rattle.machine.specs.Idle.{cost_if}
use Rattle.stepped.specs.Piecewise.{powers_of, in_range, Ranges, Chain, walk, first, inner, piecewise}
use Rattle.stepped.specs.StepLaw.{point, slope, OnPiece, SteppedCostLaw, OneCost}
use Rattle.stepped.specs.declared.stepped.Stepped.{Stepped}
use Rattle.measure.proofs.Laws.{lin, mul_one}
use Rattle.measure.proofs.Ring.{ring, var, add, sub, mul}
use Rattle.measure.proofs.Order.{mul_mono, ≤_trans}
use Rattle.measure.proofs.Fractions.{den_positive}
use Rattle.measure.proofs.Scale.{same-both, difference-same}
use Rattle.stepped.specs.Forms.{walk_start, walk_next, walk_line}
use Rattle.stepped.specs.Keeping.{ranges}

-- ---- along a walk
-- its points rise
chain_above : (p : ℤ) (ks : List ℤ) (i : ℕ) → Chain p ks → i ≤ length ks → p ≤ℤ get_or (p ∷ ks) i (pos 0)
chain_above p ks zero c h = omega (arith, lin)
chain_above p [] (suc i) c h = absurd (omega arith)
chain_above p (k ∷ ks) (suc i) c h = let t = chain_above k ks i c.1 (omega arith) in omega (arith, lin, c.0)

chain_rises : (p : ℤ) (ks : List ℤ) (i : ℕ) → Chain p ks → i < length ks → get_or (p ∷ ks) i (pos 0) ≤ℤ get_or ks i (pos 0)
chain_rises p [] i c h = absurd (omega arith)
chain_rises p (k ∷ ks) zero c h = omega (arith, lin, c.0)
chain_rises p (k ∷ ks) (suc i) c h = chain_rises k ks i c.1 (omega arith)

-- the power n / d lies on its piece i
record OnWalk (p : ℤ) (ks : List ℤ) (i : ℕ) (n d : ℤ) : Type 0 where
  low : 0 < i → (get_or (p ∷ ks) i (pos 0) *ℤ d) ≤ℤ n
  high : i < length ks → n ≤ℤ (get_or ks i (pos 0) *ℤ d)

-- there it is one line, with the slope of the piece
record Line (base p s : ℤ) (ks ts : List ℤ) (i : ℕ) : Type 0 where
  start : ℤ
  from : ℤ
  is : (n d : ℤ) → pos 1 ≤ℤ d → OnWalk p ks i n d → walk base p s ks ts n d ≡ start *ℤ d +ℤ get_or (s ∷ ts) i (pos 0) *ℤ (n -ℤ from *ℤ d)

line_of : (base p s : ℤ) (ks ts : List ℤ) (i : ℕ) → Chain p ks → i ≤ length ks → length ks ≡ length ts → Line base p s ks ts i
line_of base p s [] ts zero c h e = record { start = base; from = p; is = λ n d g o. refl }
line_of base p s [] ts (suc i) c h e = absurd (omega arith)
line_of base p s (k ∷ ks) [] i c h e = absurd (omega arith)
line_of base p s (k ∷ ks) (t ∷ ts) zero c h e = record { start = base; from = p; is = λ n d g o. walk_line base p s k t ks ts n d (o.high (omega arith)) }
line_of base p s (k ∷ ks) (t ∷ ts) (suc i) c h e =
    let r = line_of (base +ℤ s *ℤ (k -ℤ p)) k t ks ts i c.1 (omega arith) (omega arith) in
    record {
      start = r.start;
      from = r.from;
      is = λ n d g o.
          walk_next base p s k t ks ts n d g c.1 (≤_trans (mul_mono k (get_or (k ∷ ks) i (pos 0)) d (omega (arith, lin)) (chain_above k ks i c.1 (omega arith))) (o.low (omega arith)))
          ∙ r.is n d g (record { low = λ l. o.low (omega arith); high = λ l. o.high (omega arith) });
    }

-- the difference of two costs on a line
line-slope : (b p s n d m e w v : ℤ) → w ≡ b *ℤ d +ℤ s *ℤ (n -ℤ p *ℤ d) → v ≡ b *ℤ e +ℤ s *ℤ (m -ℤ p *ℤ e) → (v *ℤ d -ℤ w *ℤ e) *ℤ (e *ℤ d) ≡ (s *ℤ (m *ℤ d -ℤ n *ℤ e)) *ℤ (e *ℤ d)
line-slope b p s n d m e w v h k =
    let b' = var 0 in let p' = var 1 in let s' = var 2 in let n' = var 3 in let d' = var 4 in let m' = var 5 in let e' = var 6 in
    (λ i. (k i *ℤ d -ℤ h i *ℤ e) *ℤ (e *ℤ d))
    ∙ ring (mul (sub (mul (add (mul b' e') (mul s' (sub m' (mul p' e')))) d') (mul (add (mul b' d') (mul s' (sub n' (mul p' d')))) e')) (mul e' d'))
    (mul (mul s' (sub (mul m' d') (mul n' e'))) (mul e' d'))
    (b ∷ (p ∷ (s ∷ (n ∷ (d ∷ (m ∷ (e ∷ []))))))) tt

-- ---- a row's numbers as a walk takes them
inner-at : (k i : ℕ) (xs : List ℤ) → i ≤ k → get_or (first xs ∷ take k (drop 1 xs)) i (pos 0) ≡ get_or xs i (pos 0)
inner-at k zero xs h = refl
inner-at zero (suc i) xs h = absurd (omega arith)
inner-at (suc k) (suc i) [] h = refl
inner-at (suc k) (suc i) (x ∷ xs) h = get_or-take (suc k) xs i (pos 0) (omega arith)

inner-length : (k : ℕ) (xs : List ℤ) → k + 1 ≤ length xs → length (take k (drop 1 xs)) ≡ k
inner-length k xs h = length-take-le k (drop 1 xs) (omega (arith, length-drop 1 xs))

module _ (m : Stepped) (ok : Ranges m) (points : length (powers_of m.points) ≡ 8) (slopes : length m.slopes ≡ 7) where
  abbrev base : ℤ
  base = pos 1000000 *ℤ m.c

  abbrev ks : List ℤ
  ks = inner m (powers_of m.points)

  abbrev ts : List ℤ
  ts = inner m m.slopes

  long : length ks ≡ m.n - 1 - 1
  long = let h = ok.n_high in inner-length (m.n - 1 - 1) (powers_of m.points) (omega arith)

  alike : length ks ≡ length ts
  alike = let h = ok.n_high in long ∙ sym (inner-length (m.n - 1 - 1) m.slopes (omega arith))

  point_is : (i : ℕ) → i + 1 < m.n → get_or (first (powers_of m.points) ∷ ks) i (pos 0) ≡ point m i
  point_is i h = inner-at (m.n - 1 - 1) i (powers_of m.points) (omega arith)

  slope_is : (i : ℕ) → i + 1 < m.n → get_or (first m.slopes ∷ ts) i (pos 0) ≡ slope m i
  slope_is i h = inner-at (m.n - 1 - 1) i m.slopes (omega arith)

  next_is : (i : ℕ) → i + 2 < m.n → get_or ks i (pos 0) ≡ point m (i + 1)
  next_is i h = point_is (suc i) (omega arith) ∙ ap (point m) (sym (add-one i))

  rises : (i : ℕ) → i + 2 < m.n → point m i ≤ℤ point m (i + 1)
  rises i h =
      let k = chain_rises (first (powers_of m.points)) ks i ok.chain (omega (arith, long)) in
      omega (arith, lin, k, point_is i (omega arith), next_is i h)

  on_walk : (i : ℕ) (x : Fraction) → i + 1 < m.n → OnPiece m i x → OnWalk (first (powers_of m.points)) ks i x.num (pos x.den)
  on_walk i x h o = record {
    low = λ l. rw (point_is i h) (omega (arith, lin, (o.low l).cross));
    high = λ l. let g : i + 2 < m.n = omega (arith, long) in rw (next_is i g) (omega (arith, lin, (o.high g).cross));
  }

  walks : SteppedCostLaw m (piecewise m)
  unfolding ◌-ᶠ◌ ◌·ᶠ◌
  walks = record {
    start = record {
      cross = ap (λ z. z *ℤ pos 1)
          (ap (λ z. walk base (first (powers_of m.points)) (first m.slopes) ks ts z (pos 1)) (sym (mul_one (point m 0)))
          ∙ walk_start base (first (powers_of m.points)) (first m.slopes) ks ts (pos 1) (omega (arith, lin)) ok.chain
          ∙ mul_one base);
    };
    along = λ i h x y o u.
        let l = line_of base (first (powers_of m.points)) (first m.slopes) ks ts i ok.chain (omega (arith, long)) alike in
        record {
          cross = line-slope l.start l.from (slope m i) x.num (pos x.den) y.num (pos y.den) _ _
              (subst (λ (s : ℤ). walk base (first (powers_of m.points)) (first m.slopes) ks ts x.num (pos x.den) ≡ l.start *ℤ pos x.den +ℤ s *ℤ (x.num -ℤ l.from *ℤ pos x.den)) (slope_is i h) (l.is x.num (pos x.den) (den_positive x) (on_walk i x h o)))
              (subst (λ (s : ℤ). walk base (first (powers_of m.points)) (first m.slopes) ks ts y.num (pos y.den) ≡ l.start *ℤ pos y.den +ℤ s *ℤ (y.num -ℤ l.from *ℤ pos y.den)) (slope_is i h) (l.is y.num (pos y.den) (den_positive y) (on_walk i y h u)));
        };
  }

  -- ---- nothing else does: two costs that agree at a point agree on its piece, and so at the next point
  at_left : (i : ℕ) → OnPiece m i (whole (point m i))
  at_left i = record { low = λ l. record { cross = omega (arith, lin) }; high = λ l. let r = rises i l in record { cross = omega (arith, lin) } }

  at_right : (i : ℕ) → i + 2 < m.n → OnPiece m i (whole (point m (i + 1)))
  at_right i h = let r = rises i h in record { low = λ l. record { cross = omega (arith, lin) }; high = λ l. record { cross = omega (arith, lin) } }

  module _ (f g : Fraction → Fraction) (F : SteppedCostLaw m f) (G : SteppedCostLaw m g) (x : Fraction) where
    abbrev Agree : Fraction → Type 0
    Agree y = Same (f y) (g y)

    on_piece : (i : ℕ) (y : Fraction) → i + 1 < m.n → Agree (whole (point m i)) → OnPiece m i y → Agree y
    on_piece i y h a o =
        difference-same (f (whole (point m i))) (g (whole (point m i))) (f y) (g y) (slope m i ·ᶠ (y -ᶠ whole (point m i))) a
        (F.along i h (whole (point m i)) y (at_left i) o) (G.along i h (whole (point m i)) y (at_left i) o)

    from_point : (k i : ℕ) → k + i + 2 ≡ m.n → (0 < i → whole (point m i) ≤ᶠ x) → Agree (whole (point m i)) → Agree x
    from_point zero i e l a = on_piece i x (omega arith) a (record { low = l; high = λ h. absurd (omega arith) })
    from_point (suc k) i e l a =
        by_lt_z (x.num *ℤ pos 1) (point m (i + 1) *ℤ pos x.den)
        (λ h. on_piece i x (omega arith) a (record { low = l; high = λ g. record { cross = omega (arith, lin) } }))
        (λ h. from_point k (i + 1) (omega arith) (λ g. record { cross = h }) (on_piece i (whole (point m (i + 1))) (omega arith) a (at_right i (omega arith))))

    agree : Agree x
    agree =
        let low = ok.n_low in
        from_point (m.n - 2) 0 (omega arith) (λ h. absurd (omega arith)) (same-both _ _ _ F.start G.start)

-- a row in range has one cost, its true cost
pub one-cost : (m : Stepped) → length (powers_of m.points) ≡ 8 → length m.slopes ≡ 7 → in_range m ≡ true → OneCost m
one-cost m points slopes e =
    let walked = walks m (ranges m e) points slopes in
    let law : SteppedCostLaw m (cost_if (in_range m) (piecewise m)) = subst (λ (t : Bool). SteppedCostLaw m (cost_if t (piecewise m))) (sym e) walked in
    record { law = law; only = λ cost kept x. agree m (ranges m e) points slopes cost (cost_if (in_range m) (piecewise m)) kept law x }
