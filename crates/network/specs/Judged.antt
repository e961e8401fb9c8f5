-- What judging a whole dispatch answers: its counted cost exactly if it meets the case, else the first limit that it breaks, in the order
-- of the refusals' numbers, with a row that breaks it.
use Rattle.std.specs.Prelude.{◌≡◌, ℕ, suc, ◌+◌, ◌-◌, ◌<◌, T, ◌⊎◌, length, pos, neg_ℤ, ◌<ℤ◌, Some, Ok, Err, Result}
use Rattle.measure.specs.declared.Grains.{Grains}
use Rattle.measure.specs.Range.{Within}
use Rattle.measure.specs.Fraction.{whole, ◌≤ᶠ◌, Between}
use Rattle.measure.specs.Rows.{Row, rows, All, HoldsAt, Lowest}
use Rattle.machine.specs.Meaning.{Meaning}
use Rattle.machine.specs.Group.{AllowedAll, NotAllowedAt}
use Rattle.network.specs.declared.bus.Bus.{Bus}
use Rattle.network.specs.declared.branch.Branch.{Branch}
use Rattle.network.specs.declared.refusal.Refusal.{Refusal}
use Rattle.network.specs.declared.refusal.Refusal.TheVariants.{OutOfRange, Crossed, Size, Repeated, UnknownBus, NotInCase, NotAllowed, Unbalanced, Overloaded, Overstretched, Unrated, Weight, Residue}
use Rattle.network.specs.Model.{Case, WholeDispatch, in_fractions, mismatch, flow, difference, Meets, true_cost, counted}

-- ---- the limits of one row
module _ {M N : Type 0} (c : Case M N) (d : WholeDispatch) where
  -- the bus in row i, not the reference, has an angle outside its range
  abbrev pub AngleBeyond : ℕ → Type 0
  AngleBeyond i = (0 < i) × (i < length c.buses) × (Within 3200000 (d.angles (i - 1)) → ⊥)

  abbrev pub InBalance : Row Bus → Type 0
  InBalance b = Between (neg_ℤ c.tolerance) c.tolerance (mismatch c (in_fractions d) b)

  abbrev pub WithinRating : Branch → Type 0
  WithinRating r = Between (neg_ℤ r.rating.0) r.rating.0 (flow c (in_fractions d) r)

  abbrev pub WithinLimits : Branch → Type 0
  WithinLimits r = Between r.angmin.0 r.angmax.0 (difference c (in_fractions d) r)

  -- ---- all rows keep them
  abbrev pub AnglesKept : Type 0
  AnglesKept = (i : ℕ) → suc i < length c.buses → Within 3200000 (d.angles i)

  abbrev pub Balanced : Type 0
  Balanced = All InBalance (rows c.buses)

  abbrev pub RatingsKept : Type 0
  RatingsKept = All (λ (r : Branch). T r.service → pos 0 <ℤ r.rating.0 → WithinRating r) c.branches

  abbrev pub LimitsKept : Type 0
  LimitsKept = All (λ (r : Branch). T r.service → WithinLimits r) c.branches

module _ {M N : Type 0} (𝓜 : Meaning M) (𝓝 : Meaning N) (c : Case M N) (d : WholeDispatch) where
  abbrev pub PowersAllowed : Type 0
  PowersAllowed = AllowedAll 𝓜 c.first.machines d.first × AllowedAll 𝓝 c.second.machines d.second

  -- the machine in row i, counted on through both groups, does not allow its power
  abbrev pub PowerRefused : ℕ → Type 0
  PowerRefused i =
      NotAllowedAt 𝓜 c.first.machines d.first i
      ⊎ ((j : ℕ) × (i ≡ length c.first.machines + j) × NotAllowedAt 𝓝 c.second.machines d.second j)

  -- the refusal that is due: the limits before it are kept, and the row breaks this one
  abbrev pub Refused : Refusal → Type 0
  Refused (OutOfRange i) = Lowest (AngleBeyond c d) (Some i)
  Refused (NotAllowed i) = AnglesKept c d × PowerRefused i
  Refused (Unbalanced i) = AnglesKept c d × PowersAllowed × HoldsAt (λ (b : Row Bus). InBalance c d b → ⊥) c.buses i
  Refused (Overloaded i) = AnglesKept c d × PowersAllowed × Balanced c d × HoldsAt (λ (r : Row Branch). T r.item.service × (pos 0 <ℤ r.item.rating.0) × (WithinRating c d r.item → ⊥)) c.branches i
  Refused (Overstretched i) = AnglesKept c d × PowersAllowed × Balanced c d × RatingsKept c d × HoldsAt (λ (r : Row Branch). T r.item.service × (WithinLimits c d r.item → ⊥)) c.branches i
  Refused (Crossed i) = ⊥
  Refused Size = ⊥
  Refused (Repeated i) = ⊥
  Refused (UnknownBus i) = ⊥
  Refused NotInCase = ⊥
  Refused (Unrated i) = ⊥
  Refused (Weight i) = ⊥
  Refused (Residue i) = ⊥

  -- the dispatch meets the case, g is its counted cost, and it truly costs no more
  pub record Taken (g : Grains) : Type 0 where
    pub meets : Meets 𝓜 𝓝 c (in_fractions d)
    pub cost : g.0 ≡ counted 𝓜 𝓝 c d
    pub covers : true_cost 𝓜 𝓝 c (in_fractions d) ≤ᶠ whole g.0

  -- the refusal is due, and the dispatch does not meet the case
  pub record Declined (e : Refusal) : Type 0 where
    pub refused : Refused e
    pub misses : Meets 𝓜 𝓝 c (in_fractions d) → ⊥

  abbrev pub Judged : Result Grains Refusal → Type 0
  Judged (Ok g) = Taken g
  Judged (Err e) = Declined e
