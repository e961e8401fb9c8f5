-- From tests in whole numbers to the limits in fractions: once every angle is in its range and every power is allowed, nothing counts as 0,
-- and each test says what the limit says.
use Rattle.std.proofs.Common.{◌≡◌, ℕ, zero, suc, ◌<◌, Bool, true, false, not, ◌&&◌, T, eqb, ltb, List, length, ℤ, pos, ◌-ℤ◌, ◌*ℤ◌, neg_ℤ, ◌≤ℤ◌, ◌<ℤ◌, sym, refl, ap, ◌∙◌, subst, arith, lit≤, ltb→lt}
use lib.Signed.{le_z, lt_z}
use Rattle.std.proofs.lemmas.Bool.{and_parts, and_from, both_ways}
use Rattle.measure.specs.Range.{Within, between}
use Rattle.measure.specs.Fraction.{Fraction, whole, Between}
use Rattle.measure.specs.Rows.{Row, rows, total, only}
use Rattle.measure.proofs.Laws.{lin, mul_one}
use Rattle.measure.proofs.Order.{kept_same, test, test_within}
use Rattle.measure.proofs.Fractions.{whole_between}
use Rattle.measure.proofs.Sums.{In, look, total_same, total_sub, total-rows}
use Rattle.measure.proofs.Scale.{Over, between_over, over_between}
use Rattle.machine.specs.Meaning.{Meaning, Keeps}
use Rattle.machine.specs.Group.{AllowedAll}
use Rattle.network.specs.declared.bus.Bus.{Bus}
use Rattle.network.specs.declared.branch.Branch.{Branch}
use Rattle.network.specs.Model.{Group, Case, WholeDispatch, in_fractions, difference, flow, mismatch, angle_limit}
use Rattle.judging.specs.Whole.{kept_angle, angle_of, difference_of, flow_of, outflow_of, outflow_row, given_at, mismatch_of, angle_beyond, unbalanced, overloaded, overstretched}
use Rattle.network.specs.Judged.{AnglesKept, InBalance, WithinRating, WithinLimits, PowersAllowed}
use Rattle.network.proofs.Scaled.{angleᶻ, flowᶻ, leavingᶻ, arrivingᶻ, injectionᶻ, mismatchᶻ, over_difference, over_flow, over_mismatch, whole_angles, whole_first, whole_second}

-- ---- tests
pub not_not : (t : Bool) → (not t ≡ true → ⊥) → t ≡ true
not_not true h = refl
not_not false h = absurd (h refl)

is_true : (t : Bool) → T t → t ≡ true
is_true true k = refl
is_true false k = absurd k

pub was_not : (t : Bool) → not t ≡ true → t ≡ true → ⊥
was_not true e k = both_ways false refl e
was_not false e k = both_ways false refl k

module _ (a b : ℤ) (f : Fraction) (X : ℤ) (over : Over 1 f X) where
  pub between_whole : between a b X ≡ true → Between a b f
  between_whole e =
      let p = and_parts (le_z a X) (le_z X b) e in
      let low : (a *ℤ pos 1) ≤ℤ X = rw (mul_one a) (omega (arith, lin, p.0)) in
      let high : X ≤ℤ (b *ℤ pos 1) = rw (mul_one b) (omega (arith, lin, p.1)) in
      over_between 1 (lit≤ tt) a b f X over low high

  pub whole_is_between : Between a b f → between a b X ≡ true
  whole_is_between w =
      let p = between_over 1 a b f X over w in
      let low : a ≤ℤ X = rw (mul_one a) at p.0 in
      let high : X ≤ℤ b = rw (mul_one b) at p.1 in
      and_from (le_z a X) (le_z X b) (test a X low) (test X b high)

-- ---- angles and flows
only_so : (t : Bool) (x y : ℤ) → (T t → x ≡ y) → only t x ≡ only t y
only_so true x y h = h tt
only_so false x y h = refl

flow-same : (θ : ℕ → ℤ) (r : Branch) → flowᶻ θ (pos 1) r ≡ flow_of θ r
unfolding flowᶻ
flow-same θ r = ap (λ s. only r.service (r.susceptance *ℤ (difference_of θ r -ℤ s))) (mul_one r.shift.0)

module _ {M N : Type 0} (c : Case M N) (d : WholeDispatch) where
  abbrev pub θ : ℕ → ℤ
  θ = angle_of (length c.buses) d.angles

  -- what the range check tells
  pub angles_kept : ((i : ℕ) → i < length c.buses → angle_beyond d.angles i ≡ true → ⊥) → AnglesKept c d
  angles_kept h i l = test_within 3200000 (d.angles i) (not_not (between (neg_ℤ angle_limit) angle_limit (d.angles i)) (h (suc i) l))

  module _ (kept : AnglesKept c d) where
    angles_same : (i : ℕ) → angleᶻ (length c.buses) d.angles i ≡ θ i
    unfolding angleᶻ
    angles_same zero = refl
    angles_same (suc i) = only_so (ltb (suc i) (length c.buses)) (d.angles i) (kept_angle (d.angles i)) (λ t. sym (kept_same 3200000 (d.angles i) (kept i (ltb→lt (suc i) (length c.buses) t))))

    same : angleᶻ (length c.buses) d.angles ≡ θ
    same = λ j i. angles_same i j

    over_difference_of : (r : Branch) → Over 1 (difference c (in_fractions d) r) (difference_of θ r)
    over_difference_of r = subst (λ a. Over 1 (difference c (in_fractions d) r) (difference_of a r)) same (over_difference c (in_fractions d) 1 _ (whole_angles c d) r)

    over_flow_of : (r : Branch) → Over 1 (flow c (in_fractions d) r) (flow_of θ r)
    over_flow_of r =
        subst (λ x. Over 1 (flow c (in_fractions d) r) x) (ap (λ a. flowᶻ a (pos 1) r) same ∙ flow-same θ r)
        (over_flow c (in_fractions d) 1 _ (whole_angles c d) r)

    -- a branch over its rating, and one within it
    pub overloaded_so : (r : Branch) → overloaded θ r ≡ true → T r.service × (pos 0 <ℤ r.rating.0) × (WithinRating c d r → ⊥)
    overloaded_so r e =
        let p = and_parts (r.service && lt_z (pos 0) r.rating.0) _ e in
        let q = and_parts r.service (lt_z (pos 0) r.rating.0) p.0 in
        (subst T (sym q.0) tt, omega (arith, lin, q.1), λ w. was_not _ p.1 (whole_is_between (neg_ℤ r.rating.0) r.rating.0 _ (flow_of θ r) (over_flow_of r) w))

    pub rated_so : (r : Branch) → (overloaded θ r ≡ true → ⊥) → T r.service → pos 0 <ℤ r.rating.0 → WithinRating c d r
    rated_so r h on rated =
        between_whole (neg_ℤ r.rating.0) r.rating.0 _ (flow_of θ r) (over_flow_of r)
        (not_not _ (λ e. h (and_from (r.service && lt_z (pos 0) r.rating.0) _ (and_from r.service _ (is_true r.service on) (positive r.rating.0 rated)) e)))
      where
        positive : (z : ℤ) → pos 0 <ℤ z → lt_z (pos 0) z ≡ true
        positive z k = is_true (lt_z (pos 0) z) k.lt

    -- an angle difference outside its limits, and one within them
    pub overstretched_so : (r : Branch) → overstretched θ r ≡ true → T r.service × (WithinLimits c d r → ⊥)
    overstretched_so r e =
        let p = and_parts r.service _ e in
        (subst T (sym p.0) tt, λ w. was_not _ p.1 (whole_is_between r.angmin.0 r.angmax.0 _ (difference_of θ r) (over_difference_of r) w))

    pub limited_so : (r : Branch) → (overstretched θ r ≡ true → ⊥) → T r.service → WithinLimits c d r
    limited_so r h on =
        between_whole r.angmin.0 r.angmax.0 _ (difference_of θ r) (over_difference_of r)
        (not_not _ (λ e. h (and_from r.service _ (is_true r.service on) e)))

    -- ---- the balance
    outflow_same : (n : ℕ) → total (outflow_row θ n) (rows c.branches) ≡ leavingᶻ c.branches θ (pos 1) n -ℤ arrivingᶻ c.branches θ (pos 1) n
    unfolding leavingᶻ arrivingᶻ
    outflow_same n =
        total-rows (outflow_of θ n) 0 c.branches
        ∙ total_sub (λ (r : Branch). only (eqb r.ends.from n) (flow_of θ r)) (λ (r : Branch). only (eqb r.ends.to n) (flow_of θ r)) c.branches
        ∙ (λ i. total_same _ (λ (r : Branch). only (eqb r.ends.from n) (flowᶻ θ (pos 1) r)) c.branches (λ r k. ap (only (eqb r.ends.from n)) (sym (flow-same θ r))) i
        -ℤ total_same _ (λ (r : Branch). only (eqb r.ends.to n) (flowᶻ θ (pos 1) r)) c.branches (λ r k. ap (only (eqb r.ends.to n)) (sym (flow-same θ r))) i)

    module _ (𝓜 : Meaning M) (𝓝 : Meaning N) (keeps₁ : Keeps 𝓜) (keeps₂ : Keeps 𝓝) (allowed : PowersAllowed 𝓜 𝓝 c d) where
      power_within : {K : Type 0} (𝓚 : Meaning K) → Keeps 𝓚 → (ms : List K) (p : ℕ → ℤ) → AllowedAll 𝓚 ms p → (r : Row K) → In r (rows ms) → Within 100000000 (p r.row)
      power_within {K} 𝓚 keeps ms p a r k =
          whole_between _ _ (p r.row) ((keeps r.item).allowed_range (whole (p r.row)) (look (λ (r : Row K). 𝓚.Allowed r.item (whole (p r.row))) r (rows ms) a k))

      given_same : {K : Type 0} (𝓚 : Meaning K) → Keeps 𝓚 → (g : Group K) (p : ℕ → ℤ) → AllowedAll 𝓚 g.machines p → (n : ℕ) → total (given_at g.place p n) (rows g.machines) ≡ injectionᶻ g p n
      unfolding injectionᶻ
      given_same 𝓚 keeps g p a n =
          total_same _ _ (rows g.machines) (λ r k. ap (only (eqb (g.place r.row) n)) (kept_same 100000000 (p r.row) (power_within 𝓚 keeps g.machines p a r k)))

      mismatch_same : (b : Row Bus) → mismatchᶻ c θ d.first d.second (pos 1) b ≡ mismatch_of c d.first d.second θ b
      unfolding mismatchᶻ
      mismatch_same b =
          let i₁ = given_same 𝓜 keeps₁ c.first d.first allowed.0 b.row in
          let i₂ = given_same 𝓝 keeps₂ c.second d.second allowed.1 b.row in
          let o = outflow_same b.row in
          let e = mul_one b.item.demand.0 in
          omega (arith, lin)

      over_mismatch_of : (b : Row Bus) → Over 1 (mismatch c (in_fractions d) b) (mismatch_of c d.first d.second θ b)
      over_mismatch_of b =
          subst (λ x. Over 1 (mismatch c (in_fractions d) b) x) (ap (λ a. mismatchᶻ c a d.first d.second (pos 1) b) same ∙ mismatch_same b)
          (over_mismatch c (in_fractions d) 1 _ d.first d.second (whole_angles c d) (whole_first c d) (whole_second c d) b)

      pub unbalanced_so : (b : Row Bus) → unbalanced c d.first d.second θ b ≡ true → InBalance c d b → ⊥
      unbalanced_so b e w = was_not _ e (whole_is_between (neg_ℤ c.tolerance) c.tolerance _ (mismatch_of c d.first d.second θ b) (over_mismatch_of b) w)

      pub balanced_so : (b : Row Bus) → (unbalanced c d.first d.second θ b ≡ true → ⊥) → InBalance c d b
      balanced_so b h = between_whole (neg_ℤ c.tolerance) c.tolerance _ (mismatch_of c d.first d.second θ b) (over_mismatch_of b) (not_not _ h)
