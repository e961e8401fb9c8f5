-- The calls of the code are the steps of runs, and what stands after every run that led to a panel.
use Rattle.std.specs.Prelude.{◌≡◌, ℕ, List, Some, Option}
use Rattle.machine.specs.Meaning.{Meaning}
use Rattle.paper.specs.Dispatch.{Dispatch, dispatch_words}
use Rattle.paper.specs.Prices.{Prices}
use Rattle.standing.specs.Call.{History}
use Rattle.standing.specs.Call.Call.{offer, change, hand_over}
use Rattle.standing.specs.Call.Offer.{dispatch, prices}
use Rattle.standing.specs.Panel.{Sheet, Priced, State}
use Rattle.standing.specs.Run.{Run}
use Rattle.standing.specs.Standing.{Stands, SheetStands}
use Rattle.standing.specs.Step.{Step}
use Rattle.standing.specs.Theorems.{IsPassedOver}
use Rattle.panel_model.specs.Change.{Change}
use Rattle.panel_model.specs.Network.{network, SizedCase}
use Rattle.panel_model.specs.Says.{SaysDispatch, SaysPrices, SaysAttendant}
use Rattle.panel.specs.Calls.{bus_count, branch_count}

module _ {M N : Type 0} (𝓜 : Meaning M) (𝓝 : Meaning N) where
  -- ---- steps: what the words say, and the call that this is
  pub record DispatchStep (w : List ℕ) (s t : State (network 𝓜 𝓝)) : Type 0 where
    pub says : Option Dispatch
    pub said : SaysDispatch s.case.powers s.case.angles w says
    pub step : Step (offer (dispatch says)) s t

  pub record PricesStep (w : List ℕ) (s t : State (network 𝓜 𝓝)) : Type 0 where
    pub says : Option Prices
    pub said : SaysPrices (bus_count 𝓜 𝓝 s) (branch_count 𝓜 𝓝 s) w says
    pub step : Step (offer (prices says)) s t

  pub record ChangeStep (Says : List ℕ → Option Change → Type 0) (w : List ℕ) (s t : State (network 𝓜 𝓝)) : Type 0 where
    pub says : Option Change
    pub said : Says w says
    pub step : Step (change says) s t

  pub record HandOverStep (w : List ℕ) (s t : State (network 𝓜 𝓝)) : Type 0 where
    pub says : Option ℕ
    pub said : SaysAttendant w says
    pub step : Step (hand_over says) s t

  -- ---- standing
  -- after every run of calls that led to the panel, the standing holds
  abbrev pub StandsOn : State (network 𝓜 𝓝) → Type 0
  StandsOn s =
      (start : SizedCase M N) (h : History (network 𝓜 𝓝)) (sheets : List Sheet) →
      Run (network 𝓜 𝓝) start h sheets s → Stands (network 𝓜 𝓝) start h sheets s

  -- after every such run, the sheet tells what stands
  abbrev pub SheetStandsOn : State (network 𝓜 𝓝) → Sheet → Type 0
  SheetStandsOn s x =
      (start : SizedCase M N) (h : History (network 𝓜 𝓝)) (sheets : List Sheet) →
      Run (network 𝓜 𝓝) start h sheets s → SheetStands (network 𝓜 𝓝) start h x

  -- the shown dispatch: its words say it and no other, and offered again in a watch that is not full it is passed over, at the cost that is shown
  pub record ShownAgain (s : State (network 𝓜 𝓝)) (d : Priced (network 𝓜 𝓝)) : Type 0 where
    pub said : SaysDispatch s.case.powers s.case.angles (dispatch_words d.dispatch) (Some d.dispatch)
    pub only : (e : Dispatch) → SaysDispatch s.case.powers s.case.angles (dispatch_words d.dispatch) (Some e) → e ≡ d.dispatch
    pub passed : IsPassedOver s d.dispatch
    pub cost : (network 𝓜 𝓝).counted s.case d.dispatch ≡ d.cost

  -- it is so of the dispatch that is shown after every run of calls that led to the panel
  abbrev pub ShownAgainOn : State (network 𝓜 𝓝) → Type 0
  ShownAgainOn s =
      (start : SizedCase M N) (h : History (network 𝓜 𝓝)) (sheets : List Sheet) →
      Run (network 𝓜 𝓝) start h sheets s → (d : Priced (network 𝓜 𝓝)) → s.shown ≡ Some d → ShownAgain s d
