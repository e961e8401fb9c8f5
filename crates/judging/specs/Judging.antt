-- The first part of judging: the cost of a dispatch whose powers are allowed.
use Rattle.std.specs.Prelude.{◌≡◌, ℕ, Ok, Err, Result}
use Rattle.measure.specs.declared.Grains.{Grains}
use Rattle.machine.specs.Meaning.{Meaning}
use Rattle.network.specs.declared.refusal.Refusal.{Refusal}
use Rattle.network.specs.declared.refusal.Refusal.TheVariants.{NotAllowed}
use Rattle.network.specs.Model.{Case, WholeDispatch, counted}
use Rattle.network.specs.Judged.{PowersAllowed, PowerRefused}

module _ {M N : Type 0} (𝓜 : Meaning M) (𝓝 : Meaning N) (c : Case M N) (d : WholeDispatch) where
  -- the refusal names a machine that does not allow its power
  pub record PowerFault (e : Refusal) : Type 0 where
    pub row : ℕ
    pub is : e ≡ NotAllowed row
    pub refused : PowerRefused 𝓜 𝓝 c d row

  abbrev pub CostAnswer : Result Grains Refusal → Type 0
  CostAnswer (Ok g) = PowersAllowed 𝓜 𝓝 c d × (g.0 ≡ counted 𝓜 𝓝 c d)
  CostAnswer (Err e) = PowerFault e
