-- A network of one bus, and a run by hand on its panel that comes under every heading.
use Rattle.std.specs.Prelude.{ℕ, ◌≤◌, cond, List, [], ◌∷◌, pos, Some, None, ◌==◌}
use Rattle.measure.specs.Fraction.{Fraction, whole, ◌≤ᶠ◌}
use Rattle.standing.specs.Model.{Model}
use Rattle.standing.specs.Call.{History}
use Rattle.standing.specs.Call.Call.{man, offer, change, ask, hand_over, stand_down}
use Rattle.standing.specs.Call.Offer.{dispatch, prices}
use Rattle.standing.specs.Call.Question.{trial}
use Rattle.standing.specs.Panel.{Sheet, State}
use Rattle.standing.specs.Run.{Run}
use Rattle.standing.specs.Theorems.{SamePanel}

pub record Demand : Type 0 where
  pub bus : ℕ
  pub watts : ℕ

-- A case is the demand at bus 1. A dispatch is the power of the one machine there: it covers the demand, and costs 1 a watt.
-- A lawful price list is a floor that is not above the demand.
abbrev pub one_bus : Model
one_bus =
    record {
      Case = ℕ;
      Dispatch = ℕ;
      Rival = Fraction;
      Prices = ℕ;
      Change = Demand;
      WellFormed = λ c. Unit {0};
      Fits = λ c d. Unit {0};
      MeetsInFractions = λ c r. whole (pos c) ≤ᶠ r;
      in_fractions = λ c d. whole (pos d);
      Lawful = λ c l. l ≤ c;
      changed = λ c x. cond (x.bus == 1) (Some x.watts) None;
      counted = λ c d. pos d;
      true_cost = λ c r. r;
      floor_of = λ c l. pos l;
    }

-- the calls of two watches, the newest first
abbrev pub calls : History one_bus
calls =
    stand_down ∷ (offer (prices (Some 9)) ∷ (offer (dispatch (Some 8)) ∷ (hand_over (Some 12) ∷ (hand_over None ∷
    (change (Some (record { bus = 1; watts = 8 })) ∷ (change (Some (record { bus = 2; watts = 8 })) ∷ (ask trial ∷ (offer (prices (Some 4)) ∷
    (offer (dispatch None) ∷ (offer (dispatch (Some 3)) ∷ (offer (dispatch (Some 9)) ∷ (offer (dispatch (Some 6)) ∷ (man 7 ∷ [])))))))))))))

-- Of attendant 7, who began with a demand of 5: the dispatch of 6 and the floor of 4 are held, the dispatch of 9 is passed,
-- that of 3, the faulty one and the demand at bus 2 are declined, and the demand at bus 1 is changed to 8.
-- Of attendant 12: the dispatch of 8 is held, and a floor of 9 is declined.
abbrev pub sheets : List Sheet
sheets =
    record { attendant = 12; counts = record { held = 1; passed = 0; declined = 1; changes = 0 }; cost = Some (pos 8); floor = None } ∷
    (record { attendant = 7; counts = record { held = 2; passed = 1; declined = 3; changes = 1 }; cost = None; floor = None } ∷ [])

-- the panel after them
abbrev pub panel : State one_bus
panel = record { case = 8; shown = Some (record { dispatch = 8; cost = pos 8 }); floor = None; watch = None }

abbrev pub ExampleRun : Type 0
ExampleRun = Run one_bus 5 calls sheets panel

-- these calls lead to no other panel, and write no other sheets
abbrev pub NoOtherRun : Type 0
NoOtherRun = (sheets' : List Sheet) (s : State one_bus) → Run one_bus 5 calls sheets' s → SamePanel sheets' sheets s panel
