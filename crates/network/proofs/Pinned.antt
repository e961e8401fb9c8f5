-- The answer of judging is pinned: of one dispatch on one case there is one cost, or refusals of one number.
use Rattle.std.proofs.Common.{◌≡◌, ℕ, zero, suc, ◌-◌, Ok, Err, Result, refl, ap, subst, ⊎_elim, arith}
use Rattle.measure.specs.declared.Grains.{Grains}
use Rattle.measure.specs.Range.{Within}
use Rattle.measure.proofs.Tested.{holds_not}
use Rattle.machine.specs.Meaning.{Meaning}
use Rattle.network.specs.declared.refusal.Refusal.{Refusal}
use Rattle.network.specs.declared.refusal.Refusal.TheVariants.{OutOfRange, Crossed, Size, Repeated, UnknownBus, NotInCase, NotAllowed, Unbalanced, Overloaded, Overstretched, Unrated, Weight, Residue}
use Rattle.network.specs.Refusals.{number_of}
use Rattle.network.specs.Model.{Case, WholeDispatch, in_fractions, Meets, counted}
use Rattle.network.specs.Judged.{AngleBeyond, AnglesKept, PowersAllowed, PowerRefused, Balanced, RatingsKept, Refused, Judged}

module _ {M N : Type 0} (𝓜 : Meaning M) (𝓝 : Meaning N) (c : Case M N) (d : WholeDispatch) where
  -- a dispatch that meets the case is answered by its counted cost
  pub judged_taken : Meets 𝓜 𝓝 c (in_fractions d) → (r : Result Grains Refusal) → Judged 𝓜 𝓝 c d r → r ≡ Ok (record { 0 = counted 𝓜 𝓝 c d })
  judged_taken m (Ok g) j = ap (λ z. Ok (record { 0 = z })) j.cost
  judged_taken m (Err e) j = absurd (j.misses m)

  -- a refusal of that number
  pub record Answered (n : ℕ) (r : Result Grains Refusal) : Type 0 where
    pub refusal : Refusal
    pub is : r ≡ Err refusal
    pub number : number_of refusal ≡ n
    pub due : Refused 𝓜 𝓝 c d refusal

  beyond_not : AnglesKept c d → (i : ℕ) → AngleBeyond c d i → ⊥
  beyond_not k zero b = let l = b.0 in absurd (omega arith)
  beyond_not k (suc i) b = b.2 (subst (λ j. Within 3200000 (d.angles j)) (before i) (k i b.1))
    where
      before : (i : ℕ) → i ≡ suc i - 1
      before i = omega arith

  power_not : PowersAllowed 𝓜 𝓝 c d → (i : ℕ) → PowerRefused 𝓜 𝓝 c d i → ⊥
  power_not a i = ⊎_elim (λ h. holds_not _ c.first.machines i a.0 h) (λ h. holds_not _ c.second.machines h.0 a.1 h.2)

  -- angles and powers in order, and some bus out of balance: 12
  pub judged_unbalanced : AnglesKept c d → PowersAllowed 𝓜 𝓝 c d → (Balanced c d → ⊥) → (r : Result Grains Refusal) → Judged 𝓜 𝓝 c d r → Answered 12 r
  judged_unbalanced k a u (Ok g) j = absurd (u j.meets.balance)
  judged_unbalanced k a u (Err e) j = go e j.refused
    where
      go : (e : Refusal) → Refused 𝓜 𝓝 c d e → Answered 12 (Err e)
      go (OutOfRange i) f = absurd (beyond_not k i f.0)
      go (NotAllowed i) f = absurd (power_not a i f.1)
      go (Unbalanced i) f = record { refusal = Unbalanced i; is = refl; number = refl; due = f }
      go (Overloaded i) f = absurd (u f.2)
      go (Overstretched i) f = absurd (u f.2)
      go (Crossed i) f = absurd f
      go Size f = absurd f
      go (Repeated i) f = absurd f
      go (UnknownBus i) f = absurd f
      go NotInCase f = absurd f
      go (Unrated i) f = absurd f
      go (Weight i) f = absurd f
      go (Residue i) f = absurd f

  -- balanced, and some branch over its rating: 13
  pub judged_overloaded : AnglesKept c d → PowersAllowed 𝓜 𝓝 c d → Balanced c d → (RatingsKept c d → ⊥) → (r : Result Grains Refusal) → Judged 𝓜 𝓝 c d r → Answered 13 r
  judged_overloaded k a b u (Ok g) j = absurd (u j.meets.ratings)
  judged_overloaded k a b u (Err e) j = go e j.refused
    where
      go : (e : Refusal) → Refused 𝓜 𝓝 c d e → Answered 13 (Err e)
      go (OutOfRange i) f = absurd (beyond_not k i f.0)
      go (NotAllowed i) f = absurd (power_not a i f.1)
      go (Unbalanced i) f = absurd (holds_not _ c.buses i b f.2)
      go (Overloaded i) f = record { refusal = Overloaded i; is = refl; number = refl; due = f }
      go (Overstretched i) f = absurd (u f.3)
      go (Crossed i) f = absurd f
      go Size f = absurd f
      go (Repeated i) f = absurd f
      go (UnknownBus i) f = absurd f
      go NotInCase f = absurd f
      go (Unrated i) f = absurd f
      go (Weight i) f = absurd f
      go (Residue i) f = absurd f
