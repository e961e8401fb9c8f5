-- What becomes of a price list: its floor, or why it is refused and where.
use Rattle.std.specs.Prelude.{◌≡◌, ℕ, ◌<◌, T, ◌⊎◌, length, ℤ, pos, Some, Ok, Err, Result, ◌≢◌}
use Rattle.measure.specs.Range.{Within}
use Rattle.measure.specs.Fraction.{whole, ◌≤ᶠ◌}
use Rattle.measure.specs.Rows.{Row, rows, All, HoldsAt, Lowest}
use Rattle.measure.specs.declared.Grains.{Grains}
use Rattle.machine.specs.Meaning.{Meaning}
use Rattle.network.specs.declared.branch.Branch.{Branch}
use Rattle.network.specs.declared.refusal.Refusal.{Refusal}
use Rattle.network.specs.declared.refusal.Refusal.TheVariants.{OutOfRange, Crossed, Size, Repeated, UnknownBus, NotInCase, NotAllowed, Unbalanced, Overloaded, Overstretched, Unrated, Weight, Residue}
use Rattle.network.specs.Model.{Case, Dispatch, Meets, true_cost}
use Rattle.network.specs.Floor.{Prices, weight, residue, LawfulList, floor}

module _ {M N : Type 0} (c : Case M N) (q : Prices) where
  -- ---- what a lawful list keeps
  abbrev pub BusPricesKept : Type 0
  BusPricesKept = (i : ℕ) → i < length c.buses → Within 1000000 (q.bus i)

  abbrev pub BranchPricesKept : Type 0
  BranchPricesKept = (i : ℕ) → i < length c.branches → Within 1000000 (q.congestion i) × Within 100000000 (q.angle i)

  abbrev pub NoneUnrated : Type 0
  NoneUnrated =
      All (λ (r : Row Branch). T r.item.service → r.item.rating.0 ≡ pos 0 → q.congestion r.row ≡ pos 0) (rows c.branches)

  abbrev pub WeightsKept : Type 0
  WeightsKept = All (λ (r : Row Branch). T r.item.service → Within 10000000000 (weight c q r)) (rows c.branches)

  -- ---- the rows that break it
  -- the bus in row i has a price outside its range
  abbrev pub BusPriceBeyond : ℕ → Type 0
  BusPriceBeyond i = (i < length c.buses) × (Within 1000000 (q.bus i) → ⊥)

  -- the branch in row i has a congestion price or an angle price outside its range
  abbrev pub BranchPriceBeyond : ℕ → Type 0
  BranchPriceBeyond i =
      (i < length c.branches) × (Within 1000000 (q.congestion i) × Within 100000000 (q.angle i) → ⊥)

  -- the branch in row i is in service and has a congestion price, but no rating
  abbrev pub UnratedRow : ℕ → Type 0
  UnratedRow =
      HoldsAt (λ (r : Row Branch). T r.item.service × (r.item.rating.0 ≡ pos 0) × (q.congestion r.row ≢ pos 0)) c.branches

  -- the branch in row i is in service, and its weight is too large
  abbrev pub WeightBeyond : ℕ → Type 0
  WeightBeyond =
      HoldsAt (λ (r : Row Branch). T r.item.service × (Within 10000000000 (weight c q r) → ⊥)) c.branches

  -- the residue of the bus in row i is too large
  abbrev pub ResidueBeyond : ℕ → Type 0
  ResidueBeyond i = (i < length c.buses) × (Within 1000000000 (residue c q i) → ⊥)

  -- ---- refusals: each stands at its lowest row, where no earlier one does
  pub record UnratedAt (i : ℕ) : Type 0 where
    pub bus_prices : BusPricesKept
    pub branch_prices : BranchPricesKept
    pub lowest : Lowest UnratedRow (Some i)

  pub record WeightAt (i : ℕ) : Type 0 where
    pub bus_prices : BusPricesKept
    pub branch_prices : BranchPricesKept
    pub unrated : NoneUnrated
    pub lowest : Lowest WeightBeyond (Some i)

  pub record ResidueAt (i : ℕ) : Type 0 where
    pub bus_prices : BusPricesKept
    pub branch_prices : BranchPricesKept
    pub unrated : NoneUnrated
    pub weights : WeightsKept
    pub lowest : Lowest ResidueBeyond (Some i)

  -- the prices of the buses come first
  abbrev pub OutOfRangeAt : ℕ → Type 0
  OutOfRangeAt i = Lowest BusPriceBeyond (Some i) ⊎ (BusPricesKept × Lowest BranchPriceBeyond (Some i))

  -- the list is refused so
  abbrev pub ListRefused : Refusal → Type 0
  ListRefused (OutOfRange i) = OutOfRangeAt i
  ListRefused (Crossed i) = ⊥
  ListRefused Size = ⊥
  ListRefused (Repeated i) = ⊥
  ListRefused (UnknownBus i) = ⊥
  ListRefused NotInCase = ⊥
  ListRefused (NotAllowed i) = ⊥
  ListRefused (Unbalanced i) = ⊥
  ListRefused (Overloaded i) = ⊥
  ListRefused (Overstretched i) = ⊥
  ListRefused (Unrated i) = UnratedAt i
  ListRefused (Weight i) = WeightAt i
  ListRefused (Residue i) = ResidueAt i

  pub record Refused (e : Refusal) : Type 0 where
    pub why : ListRefused e
    pub unlawful : LawfulList c q → ⊥

  -- the list is lawful, or refused
  abbrev pub Checked : {X : Type 0} → Result X Refusal → Type 0
  Checked (Ok x) = LawfulList c q
  Checked (Err e) = Refused e

module _ {M N : Type 0} (𝓜 : Meaning M) (𝓝 : Meaning N) (c : Case M N) (q : Prices) where
  -- g is the floor of a lawful list, and at most the true cost of every dispatch in fractions that meets the case
  pub record FloorGiven (g : ℤ) : Type 0 where
    pub lawful : LawfulList c q
    pub exact : g ≡ floor 𝓜 𝓝 c q
    pub below : (d : Dispatch) → Meets 𝓜 𝓝 c d → whole g ≤ᶠ true_cost 𝓜 𝓝 c d

  abbrev pub Floored : Result Grains Refusal → Type 0
  Floored (Ok g) = FloorGiven g.0
  Floored (Err e) = Refused c q e
