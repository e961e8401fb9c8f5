-- From what the searches of judging found, over lent tables, to its answer. n is the number of the case's buses as the code counts them.
use Rattle.std.proofs.Common.{◌≡◌, ℕ, ◌<◌, Bool, true, List, length, ℤ, sym, subst}
use Rattle.measure.specs.declared.Grains.{Grains}
use Rattle.measure.specs.Rows.{Row, rows, row_test}
use Rattle.measure.proofs.Sums.{each, look, in_rows}
use Rattle.measure.proofs.Tested.{none_passes, row_passes, holds_so}
use Rattle.machine.specs.Meaning.{Meaning, Keeps}
use Rattle.network.specs.declared.bus.Bus.{Bus}
use Rattle.network.specs.declared.refusal.Refusal.{Refusal}
use Rattle.network.specs.declared.refusal.Refusal.TheVariants.{Unbalanced, Overloaded, Overstretched}
use Rattle.network.specs.declared.case.Case as view
use Rattle.network.specs.Model.{Case, WholeDispatch, counted}
use Rattle.network.specs.View.{case_of}
use Rattle.judging.specs.Whole.{angle_of, angle_beyond, unbalanced, overloaded_row, overstretched_row}
use Rattle.network.specs.Judged.{AnglesKept, Balanced, RatingsKept, LimitsKept, InBalance, PowersAllowed, Taken, Declined}
use Rattle.judging.specs.Judging.{PowerFault}
use Rattle.judging.proofs.Judging.{θ, angles_kept, overloaded_so, rated_so, overstretched_so, limited_so, unbalanced_so, balanced_so}
use Rattle.judging.proofs.Verdicts.{not_allowed, out_of_balance, over_rating, over_limits, taken}

module _ {M N : Type 0} (𝓜 : Meaning M) (𝓝 : Meaning N) (keeps₁ : Keeps 𝓜) (keeps₂ : Keeps 𝓝) (v : view.Case M N) (d : WholeDispatch) (n : ℕ) (count : n ≡ length (case_of v).buses) (range : (i : ℕ) → (i < n) × (angle_beyond d.angles i ≡ true) → ⊥) where
  abbrev c : Case M N
  c = case_of v

  kept : AnglesKept c d
  kept = angles_kept c d (λ i l b. range i (subst (λ m. i < m) (sym count) l, b))

  pub power_found : (e : Refusal) → PowerFault 𝓜 𝓝 c d e → Declined 𝓜 𝓝 c d e
  power_found e f = not_allowed 𝓜 𝓝 keeps₁ keeps₂ c d e kept f

  -- row i fails a test that is made with the angles at m buses
  abbrev Fails : {X : Type 0} → ((ℕ → ℤ) → Row X → Bool) → List X → ℕ → ℕ → ℕ → Type 0
  Fails f xs k m i = (i < k) × (row_test (f (angle_of m d.angles)) xs i ≡ true)

  abbrev balance_test : (ℕ → ℤ) → Row Bus → Bool
  balance_test a = unbalanced c d.first d.second a

  module _ (allowed : PowersAllowed 𝓜 𝓝 c d) where
    pub unbalanced_found : (i : ℕ) → Fails balance_test v.buses.now v.nb n i → Declined 𝓜 𝓝 c d (Unbalanced i)
    unbalanced_found i = subst (λ m. Fails balance_test v.buses.now v.nb m i → Declined 𝓜 𝓝 c d (Unbalanced i)) (sym count)
        (λ h. out_of_balance 𝓜 𝓝 keeps₁ keeps₂ c d i kept allowed (holds_so _ _ c.buses i (unbalanced_so c d kept 𝓜 𝓝 keeps₁ keeps₂ allowed) (row_passes (balance_test (θ c d)) v.buses.now v.nb i h.0 h.1)))

    pub balanced : ((i : ℕ) → Fails balance_test v.buses.now v.nb n i → ⊥) → Balanced c d
    balanced = subst (λ m. ((i : ℕ) → Fails balance_test v.buses.now v.nb m i → ⊥) → Balanced c d) (sym count)
        (λ h. each (InBalance c d) (rows c.buses) (λ b k. balanced_so c d kept 𝓜 𝓝 keeps₁ keeps₂ allowed b (look _ b (rows c.buses) (none_passes (balance_test (θ c d)) v.buses.now v.nb (λ i l e. h i (l, e))) k)))

    pub overload_found : (i : ℕ) → Balanced c d → Fails overloaded_row v.branches.now v.nl n i → Declined 𝓜 𝓝 c d (Overloaded i)
    overload_found i balance = subst (λ m. Fails overloaded_row v.branches.now v.nl m i → Declined 𝓜 𝓝 c d (Overloaded i)) (sym count)
        (λ h. over_rating 𝓜 𝓝 keeps₁ keeps₂ c d i kept allowed balance (holds_so _ _ c.branches i (λ r. overloaded_so c d kept r.item) (row_passes (overloaded_row (θ c d)) v.branches.now v.nl i h.0 h.1)))

    pub stretch_found : (i : ℕ) → Balanced c d → RatingsKept c d → Fails overstretched_row v.branches.now v.nl n i → Declined 𝓜 𝓝 c d (Overstretched i)
    stretch_found i balance rated = subst (λ m. Fails overstretched_row v.branches.now v.nl m i → Declined 𝓜 𝓝 c d (Overstretched i)) (sym count)
        (λ h. over_limits 𝓜 𝓝 keeps₁ keeps₂ c d i kept allowed balance rated (holds_so _ _ c.branches i (λ r. overstretched_so c d kept r.item) (row_passes (overstretched_row (θ c d)) v.branches.now v.nl i h.0 h.1)))

    pub all_kept : (g : Grains) → Balanced c d → RatingsKept c d → LimitsKept c d → g.0 ≡ counted 𝓜 𝓝 c d → Taken 𝓜 𝓝 c d g
    all_kept g balance rated limited e = taken 𝓜 𝓝 keeps₁ keeps₂ c d g kept allowed balance rated limited e

  pub rated : ((i : ℕ) → Fails overloaded_row v.branches.now v.nl n i → ⊥) → RatingsKept c d
  rated = subst (λ m. ((i : ℕ) → Fails overloaded_row v.branches.now v.nl m i → ⊥) → RatingsKept c d) (sym count)
      (λ h. each _ c.branches (λ r k. let j = in_rows c.branches r k in rated_so c d kept r (look _ _ (rows c.branches) (none_passes (overloaded_row (θ c d)) v.branches.now v.nl (λ i l e. h i (l, e))) j.1)))

  pub limited : ((i : ℕ) → Fails overstretched_row v.branches.now v.nl n i → ⊥) → LimitsKept c d
  limited = subst (λ m. ((i : ℕ) → Fails overstretched_row v.branches.now v.nl m i → ⊥) → LimitsKept c d) (sym count)
      (λ h. each _ c.branches (λ r k. let j = in_rows c.branches r k in limited_so c d kept r (look _ _ (rows c.branches) (none_passes (overstretched_row (θ c d)) v.branches.now v.nl (λ i l e. h i (l, e))) j.1)))
