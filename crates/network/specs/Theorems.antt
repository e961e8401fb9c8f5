-- What holds of the model.
use Rattle.std.specs.Prelude.{pos, neg_ℤ}
use Rattle.measure.specs.Fraction.{whole, ◌≤ᶠ◌, ◌·ᶠ◌, Same}
use Rattle.measure.specs.Rows.{Row}
use Rattle.machine.specs.Meaning.{Meaning}
use Rattle.network.specs.declared.bus.Bus.{Bus}
use Rattle.network.specs.Model.{Case, Dispatch, WholeDispatch, in_fractions, Meets, mismatch, true_cost, counted}
use Rattle.network.specs.Floor.{Prices, LawfulList, floor}
use Rattle.network.specs.Nodal.{nodal}

module _ {M N : Type 0} (𝓜 : Meaning M) (𝓝 : Meaning N) where
  -- Every dispatch in fractions that meets the case truly costs at least the floor of every lawful price list.
  abbrev pub FloorTheorem : Type 0
  FloorTheorem =
      (c : Case M N) (q : Prices) (d : Dispatch) → LawfulList c q → Meets 𝓜 𝓝 c d → whole (floor 𝓜 𝓝 c q) ≤ᶠ true_cost 𝓜 𝓝 c d

  -- A whole dispatch that meets the case truly costs at most what it is counted at.
  abbrev pub CountedTheorem : Type 0
  CountedTheorem =
      (c : Case M N) (d : WholeDispatch) → Meets 𝓜 𝓝 c (in_fractions d) → true_cost 𝓜 𝓝 c (in_fractions d) ≤ᶠ whole (counted 𝓜 𝓝 c d)

-- What a bus has too much is the nodal equation's left side, with the other sign.
abbrev pub NodalTheorem : (M N : Type 0) → Type 0
NodalTheorem M N =
    (c : Case M N) (d : Dispatch) (b : Row Bus) → Same (nodal c d b) (neg_ℤ (pos 1) ·ᶠ mismatch c d b)
