-- What a panel needs of a network: its cases, dispatches and price lists, and what each of them comes to.
use Rattle.std.specs.Prelude.{◌≡◌, ℤ, Some, Option}
use Rattle.measure.specs.Fraction.{Fraction, whole, ◌≤ᶠ◌}

pub record Model : Type 1 where
  pub Case : Type 0
  -- a dispatch in whole numbers, and one in fractions
  pub Dispatch : Type 0
  pub Rival : Type 0
  pub Prices : Type 0
  -- what a change says: a name of the case, and its new value
  pub Change : Type 0
  -- the tables of the case keep their ranges and orders
  pub WellFormed : Case → Type 0
  -- a dispatch for the case: it has a power for each machine and an angle for each bus, in their ranges
  pub Fits : Case → Dispatch → Type 0
  -- every limit of the case is kept
  pub MeetsInFractions : Case → Rival → Type 0
  pub in_fractions : Case → Dispatch → Rival
  -- the price list is lawful: it has a floor
  pub Lawful : Case → Prices → Type 0
  -- the case with the change made; none where the case lacks the name
  pub changed : Case → Change → Option Case
  -- the cost that a panel counts, and what a dispatch truly costs
  pub counted : Case → Dispatch → ℤ
  pub true_cost : Case → Rival → Fraction
  pub floor_of : Case → Prices → ℤ

-- a dispatch in whole numbers meets the case if it is one for the case, and the same dispatch in fractions keeps every limit
pub record Meets (m : Model) (c : m.Case) (d : m.Dispatch) : Type 0 where
  pub fits : m.Fits c d
  pub in_fractions : m.MeetsInFractions c (m.in_fractions c d)

-- what the standing of a panel rests on
pub record Grounds (m : Model) : Type 0 where
  -- a taken change leaves a well-formed case
  pub stays : (c : m.Case) → m.WellFormed c → (x : m.Change) (k : m.Case) → m.changed c x ≡ Some k → m.WellFormed k
  -- the counted cost is not below the true one
  pub covers : (c : m.Case) → m.WellFormed c → (d : m.Dispatch) → Meets m c d → m.true_cost c (m.in_fractions c d) ≤ᶠ whole (m.counted c d)
  -- no dispatch that meets the case, in fractions too, costs less than the floor of a lawful list
  pub bounds :
      (c : m.Case) → m.WellFormed c → (l : m.Prices) → m.Lawful c l → (r : m.Rival) → m.MeetsInFractions c r →
      whole (m.floor_of c l) ≤ᶠ m.true_cost c r
