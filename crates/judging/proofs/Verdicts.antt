-- From what the tests of judging found to its answer: the dispatch is taken, or the refusal is due and the dispatch misses the case.
use Rattle.std.proofs.Common.{◌≡◌, ℕ, zero, suc, ◌-◌, ◌<◌, true, false, T, ltb, length, pos, neg_ℤ, ◌<ℤ◌, Some, sym, refl, subst, zero-add, ⊎_elim, arith, lt→ltb}
use Rattle.std.proofs.lemmas.Bool.{both_ways}
use Rattle.measure.specs.declared.Grains.{Grains}
use Rattle.measure.specs.Range.{Within}
use Rattle.measure.specs.Fraction.{whole, ◌≤ᶠ◌, Between}
use Rattle.measure.specs.Rows.{Row, rows, All, HoldsAt, Lowest}
use Rattle.measure.proofs.Laws.{lin}
use Rattle.measure.proofs.Order.{within_test, test_within}
use Rattle.measure.proofs.Sums.{look, each, only_if, row_stands, row_item, stands_row}
use Rattle.measure.proofs.Tested.{holds_not, holds_in, row_there}
use Rattle.machine.specs.Meaning.{Meaning, Keeps}
use Rattle.network.specs.declared.bus.Bus.{Bus}
use Rattle.network.specs.declared.branch.Branch.{Branch}
use Rattle.network.specs.declared.refusal.Refusal.{Refusal}
use Rattle.network.specs.declared.refusal.Refusal.TheVariants.{OutOfRange, Unbalanced, Overloaded, Overstretched}
use Rattle.network.specs.Model.{Case, WholeDispatch, in_fractions, angle, angle_limit, Meets, true_cost, counted}
use Rattle.judging.specs.Whole.{angle_beyond}
use Rattle.network.specs.Judged.{AngleBeyond, InBalance, WithinRating, WithinLimits, AnglesKept, Balanced, RatingsKept, LimitsKept, PowersAllowed, Taken, Declined}
use Rattle.judging.specs.Judging.{PowerFault}
use Rattle.network.proofs.Scaled.{angleᶻ, whole_angles}
use Rattle.network.proofs.Counted.{counted-covers}
use Rattle.judging.proofs.Judging.{not_not, was_not, between_whole, whole_is_between}

-- the angle of the bus in row i + 1 stands in row i
before : (i : ℕ) → i ≡ suc i - 1
before i = omega arith

module _ {M N : Type 0} (𝓜 : Meaning M) (𝓝 : Meaning N) (keeps₁ : Keeps 𝓜) (keeps₂ : Keeps 𝓝) (c : Case M N) (d : WholeDispatch) where
  -- ---- angles
  angle_is : (i : ℕ) → suc i < length c.buses → angleᶻ (length c.buses) d.angles (suc i) ≡ d.angles i
  unfolding angleᶻ
  angle_is i l = only_if (ltb (suc i) (length c.buses)) (d.angles i) (lt→ltb (suc i) (length c.buses) l)

  -- the angles of a dispatch that meets the case keep their range, and the other way round
  meets_angles : All (λ (b : Row Bus). Between (neg_ℤ angle_limit) angle_limit (angle c (in_fractions d) b.row)) (rows c.buses) → AnglesKept c d
  meets_angles a i l =
      let x = row_there c.buses (suc i) l in
      let w = look (λ (b : Row Bus). Between (neg_ℤ angle_limit) angle_limit (angle c (in_fractions d) b.row)) _ (rows c.buses) a (stands_row 0 c.buses (suc i) x.0 x.1) in
      let v = subst (λ k. Between (neg_ℤ angle_limit) angle_limit (angle c (in_fractions d) k)) (zero-add (suc i)) w in
      subst (Within 3200000) (angle_is i l) (test_within 3200000 _ (whole_is_between (neg_ℤ angle_limit) angle_limit _ _ (whole_angles c d (suc i)) v))

  angle_within : AnglesKept c d → (n : ℕ) → n < length c.buses → Within 3200000 (angleᶻ (length c.buses) d.angles n)
  unfolding angleᶻ
  angle_within kept zero l = omega (arith, lin)
  angle_within kept (suc i) l = subst (Within 3200000) (sym (angle_is i l)) (kept i l)

  angles_meet : AnglesKept c d → All (λ (b : Row Bus). Between (neg_ℤ angle_limit) angle_limit (angle c (in_fractions d) b.row)) (rows c.buses)
  angles_meet kept = each _ (rows c.buses) (λ b k.
      let s = row_stands 0 c.buses b k in
      let e = s.1 in
      let l = s.2 in
      let m : b.row < length c.buses = omega arith in
      between_whole (neg_ℤ angle_limit) angle_limit _ _ (whole_angles c d b.row) (within_test 3200000 _ (angle_within kept b.row m)))

  beyond_so : (i : ℕ) → i < length c.buses → angle_beyond d.angles i ≡ true → AngleBeyond c d i
  beyond_so zero l e = absurd (both_ways false refl e)
  beyond_so (suc i) l e =
      (omega arith, l, subst (λ k. Within 3200000 (d.angles k) → ⊥) (before i) (λ w. was_not _ e (within_test 3200000 (d.angles i) w)))

  beyond_not : (i : ℕ) → AngleBeyond c d i → (angle_beyond d.angles i ≡ true → ⊥) → ⊥
  beyond_not zero b h = let l = b.0 in absurd (omega arith)
  beyond_not (suc i) b h = b.2 (subst (λ k. Within 3200000 (d.angles k)) (before i) (test_within 3200000 (d.angles i) (not_not _ h)))

  pub out_of_range : (i : ℕ) → Lowest (λ i. (i < length c.buses) × (angle_beyond d.angles i ≡ true)) (Some i) → Declined 𝓜 𝓝 c d (OutOfRange i)
  out_of_range i h =
      let b = beyond_so i h.0.0 h.0.1 in
      record {
        refused = (b, λ j l k. beyond_not j k (λ e. h.1 j l (k.1, e)));
        misses = λ m. kept_not i b (meets_angles m.angle_range);
      }
    where
      kept_not : (i : ℕ) → AngleBeyond c d i → AnglesKept c d → ⊥
      kept_not zero b k = let l = b.0 in absurd (omega arith)
      kept_not (suc i) b k = b.2 (subst (λ j. Within 3200000 (d.angles j)) (before i) (k i b.1))

  -- ---- powers
  pub not_allowed : (e : Refusal) → AnglesKept c d → PowerFault 𝓜 𝓝 c d e → Declined 𝓜 𝓝 c d e
  not_allowed e kept f =
      subst (Declined 𝓜 𝓝 c d) (sym f.is) (record {
        refused = (kept, f.refused);
        misses = λ m. ⊎_elim (λ h. holds_not _ c.first.machines f.row m.first_allowed h) (λ h. holds_not _ c.second.machines h.0 m.second_allowed h.2) f.refused;
      })

  -- ---- the balance, ratings and angle differences
  pub out_of_balance : (i : ℕ) → AnglesKept c d → PowersAllowed 𝓜 𝓝 c d → HoldsAt (λ (b : Row Bus). InBalance c d b → ⊥) c.buses i → Declined 𝓜 𝓝 c d (Unbalanced i)
  out_of_balance i kept allowed h = record { refused = (kept, allowed, h); misses = λ m. holds_not (InBalance c d) c.buses i m.balance h }

  branch_not : (P : Branch → Type 0) (i : ℕ) → All P c.branches → HoldsAt (λ (r : Row Branch). P r.item → ⊥) c.branches i → ⊥
  branch_not P i a h = h.holds (look P h.item c.branches a (row_item 0 c.branches _ (holds_in _ c.branches i h)))

  pub over_rating : (i : ℕ) → AnglesKept c d → PowersAllowed 𝓜 𝓝 c d → Balanced c d → HoldsAt (λ (r : Row Branch). T r.item.service × (pos 0 <ℤ r.item.rating.0) × (WithinRating c d r.item → ⊥)) c.branches i → Declined 𝓜 𝓝 c d (Overloaded i)
  over_rating i kept allowed balanced h = record {
    refused = (kept, allowed, balanced, h);
    misses = λ m. branch_not _ i m.ratings (record { item = h.item; stands = h.stands; holds = λ w. h.holds.2 (w h.holds.0 h.holds.1) });
  }

  pub over_limits : (i : ℕ) → AnglesKept c d → PowersAllowed 𝓜 𝓝 c d → Balanced c d → RatingsKept c d → HoldsAt (λ (r : Row Branch). T r.item.service × (WithinLimits c d r.item → ⊥)) c.branches i → Declined 𝓜 𝓝 c d (Overstretched i)
  over_limits i kept allowed balanced rated h = record {
    refused = (kept, allowed, balanced, rated, h);
    misses = λ m. branch_not _ i m.differences (record { item = h.item; stands = h.stands; holds = λ w. h.holds.1 (w h.holds.0) });
  }

  -- ---- all limits kept
  pub taken : (g : Grains) → AnglesKept c d → PowersAllowed 𝓜 𝓝 c d → Balanced c d → RatingsKept c d → LimitsKept c d → g.0 ≡ counted 𝓜 𝓝 c d → Taken 𝓜 𝓝 c d g
  taken g kept allowed balanced rated limited e =
      let m : Meets 𝓜 𝓝 c (in_fractions d) = record { first_allowed = allowed.0; second_allowed = allowed.1; balance = balanced; ratings = rated; differences = limited; angle_range = angles_meet kept } in
      record { meets = m; cost = e; covers = subst (λ k. true_cost 𝓜 𝓝 c (in_fractions d) ≤ᶠ whole k) (sym e) (counted-covers 𝓜 𝓝 keeps₁ keeps₂ c d m) }
