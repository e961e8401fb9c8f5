-- What each call does to a panel, and what it answers. Each tells the words of its paper, the state of the panel before it and after it, and the answer.
use Rattle.std.specs.Prelude.{◌≡◌, ℕ, true, false, List, length, Some, None, Option, Ok, Err, Result}
use Rattle.measure.specs.declared.Grains.{Grains}
use Rattle.machine.specs.Meaning.{Meaning}
use Rattle.network.specs.declared.refusal.Refusal.{Refusal}
use Rattle.network.specs.declared.refusal.Refusal.TheVariants.{NotInCase}
use Rattle.network.specs.Judged as judged
use Rattle.network.specs.Floored as floored
use Rattle.word.specs.Form.{Form}
use Rattle.word.specs.Fault.{RefusedWord}
use Rattle.word.specs.declared.fault.WordFault.{WordFault}
use Rattle.paper.specs.Dispatch.{Dispatch, DispatchForm}
use Rattle.paper.specs.Prices.{Prices, PricesForm}
use Rattle.paper.specs.Change.{DemandForm, MarkForm}
use Rattle.standing.specs.Model.{Meets}
use Rattle.standing.specs.Panel.{Heading, Watch, State, Cheaper, Higher, total, is_full, priced, showing, with_floor, with_case, counting}
use Rattle.standing.specs.Panel.Heading.{HELD, PASSED, DECLINED, CHANGES}
use Rattle.standing.specs.Step.{Improves}
use Rattle.panel_model.specs.Change.{Change}
use Rattle.panel_model.specs.Network.{network, SizedCase, by_rows, list_by_rows}
use Rattle.panel_model.specs.Says.{SaysDispatch, SaysPrices, SaysDemand, SaysMark}
use Rattle.panel.specs.declared.refusal.PaperRefusal.TheVariants.{Words, Case}
use Rattle.panel.specs.declared.refusal.OfferRefusal.{OfferRefusal}
use Rattle.panel.specs.declared.refusal.OfferRefusal.TheVariants.{Full, Paper}
use Rattle.panel.specs.declared.outcome.Outcome.{Outcome}
use Rattle.panel.specs.declared.outcome.Outcome.TheVariants.{Held, Passed}

module _ {M N : Type 0} (𝓜 : Meaning M) (𝓝 : Meaning N) where
  -- ---- counting
  -- the watch has room for an offer or a change; it is counted under the heading, and all else is as in `u`
  pub record Counted (s : State (network 𝓜 𝓝)) (k : Heading) (u t : State (network 𝓜 𝓝)) : Type 0 where
    pub watch : Watch
    pub manned : s.watch ≡ Some watch
    pub room : is_full (total watch.counts) ≡ false
    pub after : t ≡ counting k watch u

  -- it is declined, and nothing but that count is altered
  abbrev pub CountedDeclined : State (network 𝓜 𝓝) → State (network 𝓜 𝓝) → Type 0
  CountedDeclined s t = Counted s DECLINED s t

  -- the watch is full, and nothing is altered
  pub record TooMany (s t : State (network 𝓜 𝓝)) : Type 0 where
    pub watch : Watch
    pub manned : s.watch ≡ Some watch
    pub full : is_full (total watch.counts) ≡ true
    pub unchanged : t ≡ s

  -- a fault of form is declined
  pub record Faulty (F : Form) (w : List ℕ) (s t : State (network 𝓜 𝓝)) (f : WordFault) : Type 0 where
    pub refused : RefusedWord F w f
    pub counted : CountedDeclined s t

  -- how many buses and branches a price list for the case has prices for
  abbrev pub bus_count : State (network 𝓜 𝓝) → ℕ
  bus_count s = length s.case.case.buses

  abbrev pub branch_count : State (network 𝓜 𝓝) → ℕ
  branch_count s = length s.case.case.branches

  module _ (w : List ℕ) (s t : State (network 𝓜 𝓝)) where
    -- ---- the words are offered as a dispatch
    abbrev pub AsDispatch : Dispatch → Type 0
    AsDispatch d = SaysDispatch s.case.powers s.case.angles w (Some d)

    -- it meets the case, is counted cheaper than the one shown, or none is shown, and is shown
    pub record DispatchHeld (g : Grains) : Type 0 where
      pub dispatch : Dispatch
      pub said : AsDispatch dispatch
      pub meets : Meets (network 𝓜 𝓝) s.case dispatch
      pub cost : g.0 ≡ (network 𝓜 𝓝).counted s.case dispatch
      pub cheaper : Improves Cheaper (priced s.case dispatch) s.shown
      pub counted : Counted s HELD (showing (priced s.case dispatch) s) t

    -- it meets the case, and is not counted cheaper
    pub record DispatchPassed (g : Grains) : Type 0 where
      pub dispatch : Dispatch
      pub said : AsDispatch dispatch
      pub meets : Meets (network 𝓜 𝓝) s.case dispatch
      pub cost : g.0 ≡ (network 𝓜 𝓝).counted s.case dispatch
      pub not_cheaper : ¬ Improves Cheaper (priced s.case dispatch) s.shown
      pub counted : Counted s PASSED s t

    -- it breaks a limit of the case
    pub record DispatchDeclined (e : Refusal) : Type 0 where
      pub dispatch : Dispatch
      pub said : AsDispatch dispatch
      pub refused : judged.Refused 𝓜 𝓝 s.case.case (by_rows s.case.case dispatch) e
      pub misses : ¬ Meets (network 𝓜 𝓝) s.case dispatch
      pub counted : CountedDeclined s t

    abbrev pub DispatchOffered : Result Outcome OfferRefusal → Type 0
    DispatchOffered (Ok (Held g)) = DispatchHeld g
    DispatchOffered (Ok (Passed g)) = DispatchPassed g
    DispatchOffered (Err Full) = TooMany s t
    DispatchOffered (Err (Paper (Words f))) = Faulty (DispatchForm s.case.powers s.case.angles) w s t f
    DispatchOffered (Err (Paper (Case e))) = DispatchDeclined e

    -- ---- the words are offered as a price list
    abbrev pub AsPrices : Prices → Type 0
    AsPrices l = SaysPrices (bus_count s) (branch_count s) w (Some l)

    -- it is lawful, its floor is higher than the one shown, or none is shown, and that floor is shown
    pub record PricesHeld (g : Grains) : Type 0 where
      pub list : Prices
      pub said : AsPrices list
      pub lawful : (network 𝓜 𝓝).Lawful s.case list
      pub floor : g.0 ≡ (network 𝓜 𝓝).floor_of s.case list
      pub higher : Improves Higher ((network 𝓜 𝓝).floor_of s.case list) s.floor
      pub counted : Counted s HELD (with_floor ((network 𝓜 𝓝).floor_of s.case list) s) t

    -- it is lawful, and its floor is not higher
    pub record PricesPassed (g : Grains) : Type 0 where
      pub list : Prices
      pub said : AsPrices list
      pub lawful : (network 𝓜 𝓝).Lawful s.case list
      pub floor : g.0 ≡ (network 𝓜 𝓝).floor_of s.case list
      pub not_higher : ¬ Improves Higher ((network 𝓜 𝓝).floor_of s.case list) s.floor
      pub counted : Counted s PASSED s t

    -- it is not lawful
    pub record PricesDeclined (e : Refusal) : Type 0 where
      pub list : Prices
      pub said : AsPrices list
      pub refused : floored.ListRefused s.case.case (list_by_rows list) e
      pub unlawful : ¬ (network 𝓜 𝓝).Lawful s.case list
      pub counted : CountedDeclined s t

    abbrev pub PricesOffered : Result Outcome OfferRefusal → Type 0
    PricesOffered (Ok (Held g)) = PricesHeld g
    PricesOffered (Ok (Passed g)) = PricesPassed g
    PricesOffered (Err Full) = TooMany s t
    PricesOffered (Err (Paper (Words f))) = Faulty (PricesForm (bus_count s) (branch_count s)) w s t f
    PricesOffered (Err (Paper (Case e))) = PricesDeclined e

    -- ---- the words are a change
    module _ (F : Form) (Says : List ℕ → Option Change → Type 0) where
      -- the case has the name: the change is made, and nothing is shown any more
      pub record ChangeTaken : Type 0 where
        pub change : Change
        pub said : Says w (Some change)
        pub case : SizedCase M N
        pub made : (network 𝓜 𝓝).changed s.case change ≡ Some case
        pub counted : Counted s CHANGES (with_case case s) t

      -- the case lacks it
      pub record NameLacking (e : Refusal) : Type 0 where
        pub is : e ≡ NotInCase
        pub change : Change
        pub said : Says w (Some change)
        pub lacking : (network 𝓜 𝓝).changed s.case change ≡ None
        pub counted : CountedDeclined s t

      abbrev pub ChangeOffered : {A : Type 0} → Result A OfferRefusal → Type 0
      ChangeOffered (Ok x) = ChangeTaken
      ChangeOffered (Err Full) = TooMany s t
      ChangeOffered (Err (Paper (Words f))) = Faulty F w s t f
      ChangeOffered (Err (Paper (Case e))) = NameLacking e

    abbrev pub DemandOffered : {A : Type 0} → Result A OfferRefusal → Type 0
    DemandOffered r = ChangeOffered DemandForm SaysDemand r

    abbrev pub MarkOffered : {A : Type 0} → Result A OfferRefusal → Type 0
    MarkOffered r = ChangeOffered MarkForm SaysMark r
