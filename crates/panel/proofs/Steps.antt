-- What each call does is a step of a run.
use Rattle.std.proofs.Common.{◌≡◌, ℕ, List, Some, None, Ok, Err, Result, sym, subst}
use Rattle.machine.specs.Meaning.{Meaning}
use Rattle.sheet.specs.declared.sheet.Sheet as page
use Rattle.word.specs.declared.fault.WordFault.{WordFault}
use Rattle.standing.specs.Call.{Offer}
use Rattle.standing.specs.Call.Call.{man, offer, ask, hand_over, stand_down}
use Rattle.standing.specs.Call.Question.{trial}
use Rattle.standing.specs.Panel.{Heading, Watch, State, watched_by, with_watch}
use Rattle.standing.specs.Step.{Offered, Step}
use Rattle.standing.specs.Step.Offered.{dispatch_held, dispatch_passed, dispatch_declined, dispatch_faulty, prices_held, prices_passed, prices_declined, prices_faulty}
use Rattle.standing.specs.Step.MayAsk.{trial_manned}
use Rattle.standing.specs.Step.Step.{manned, stood_down, asked, offer_counted, offer_too_many, handed_over, hand_over_refused}
use Rattle.panel_model.specs.Network.{network}
use Rattle.panel_model.proofs.Decided.{said_dispatch, said_prices}
use Rattle.panel_model.proofs.Faults.{says_none_dispatch, says_none_prices, says_none_hand_over}
use Rattle.panel.specs.Calls.{Counted, TooMany, DispatchOffered, PricesOffered, bus_count, branch_count}
use Rattle.panel.specs.Questions.{HandedOver}
use Rattle.panel.specs.Standing.{DispatchStep, PricesStep, HandOverStep}
use Rattle.panel.specs.declared.outcome.Outcome.{Outcome}
use Rattle.panel.specs.declared.outcome.Outcome.TheVariants.{Held, Passed}
use Rattle.panel.specs.declared.refusal.OfferRefusal.{OfferRefusal}
use Rattle.panel.specs.declared.refusal.OfferRefusal.TheVariants.{Full, Paper}
use Rattle.panel.specs.declared.refusal.PaperRefusal.TheVariants.{Words, Case}

module _ {M N : Type 0} (𝓜 : Meaning M) (𝓝 : Meaning N) where
  module _ (s t : State (network 𝓜 𝓝)) where
    -- an offer that is counted under its heading, and one that meets a full watch
    counted_step : (o : Offer (network 𝓜 𝓝)) (k : Heading) (u : State (network 𝓜 𝓝)) → Offered s o k u → Counted 𝓜 𝓝 s k u t → Step (offer o) s t
    counted_step o k u f c = subst (Step (offer o) s) (sym c.after) (offer_counted c.manned c.room f)

    too_many_step : (o : Offer (network 𝓜 𝓝)) → TooMany 𝓜 𝓝 s t → Step (offer o) s t
    too_many_step o c = subst (Step (offer o) s) (sym c.unchanged) (offer_too_many c.manned c.full)

    pub dispatch_step : (w : List ℕ) (r : Result Outcome OfferRefusal) → DispatchOffered 𝓜 𝓝 w s t r → DispatchStep 𝓜 𝓝 w s t
    dispatch_step w (Ok (Held g)) h =
        record { says = Some h.dispatch; said = h.said; step = counted_step _ _ _ (dispatch_held h.meets h.cheaper) h.counted }
    dispatch_step w (Ok (Passed g)) h =
        record { says = Some h.dispatch; said = h.said; step = counted_step _ _ _ (dispatch_passed h.meets h.not_cheaper) h.counted }
    dispatch_step w (Err Full) h =
        let o = said_dispatch s.case.powers s.case.angles w in
        record { says = o.0; said = o.1; step = too_many_step _ h }
    dispatch_step w (Err (Paper (Words f))) h =
        record { says = None; said = says_none_dispatch w f s.case.powers s.case.angles h.refused; step = counted_step _ _ _ dispatch_faulty h.counted }
    dispatch_step w (Err (Paper (Case e))) h =
        record { says = Some h.dispatch; said = h.said; step = counted_step _ _ _ (dispatch_declined h.misses) h.counted }

    pub prices_step : (w : List ℕ) (r : Result Outcome OfferRefusal) → PricesOffered 𝓜 𝓝 w s t r → PricesStep 𝓜 𝓝 w s t
    prices_step w (Ok (Held g)) h =
        record { says = Some h.list; said = h.said; step = counted_step _ _ _ (prices_held h.lawful h.higher) h.counted }
    prices_step w (Ok (Passed g)) h =
        record { says = Some h.list; said = h.said; step = counted_step _ _ _ (prices_passed h.lawful h.not_higher) h.counted }
    prices_step w (Err Full) h =
        let o = said_prices (bus_count 𝓜 𝓝 s) (branch_count 𝓜 𝓝 s) w in
        record { says = o.0; said = o.1; step = too_many_step _ h }
    prices_step w (Err (Paper (Words f))) h =
        record { says = None; said = says_none_prices w f (bus_count 𝓜 𝓝 s) (branch_count 𝓜 𝓝 s) h.refused; step = counted_step _ _ _ prices_faulty h.counted }
    prices_step w (Err (Paper (Case e))) h =
        record { says = Some h.list; said = h.said; step = counted_step _ _ _ (prices_declined h.unlawful) h.counted }

    -- a hand-over on a manned panel
    pub hand_over_step : (w : List ℕ) (v : Watch) → s.watch ≡ Some v → (r : Result page.Sheet WordFault) → HandedOver 𝓜 𝓝 w s t r → HandOverStep 𝓜 𝓝 w s t
    hand_over_step w v m (Ok x) h =
        record { says = Some h.attendant; said = h.said; step = subst (Step (hand_over (Some h.attendant)) s) (sym h.after) (handed_over m) }
    hand_over_step w v m (Err f) h =
        record { says = None; said = says_none_hand_over w f h.refused; step = subst (Step (hand_over None) s) (sym h.unchanged) (hand_over_refused m) }

    -- a trial on a manned panel, which is then as it was
    pub trial_step : t ≡ s → (v : Watch) → s.watch ≡ Some v → Step (ask trial) s t
    trial_step e v m = subst (Step (ask trial) s) (sym e) (asked (trial_manned m))

    -- manning an idle panel, and standing down a manned one
    pub man_step : (a : ℕ) → s.watch ≡ None → t ≡ watched_by a s → Step (man a) s t
    man_step a m e = subst (Step (man a) s) (sym e) (manned m)

    pub stand_down_step : (v : Watch) → s.watch ≡ Some v → t ≡ with_watch None s → Step stand_down s t
    stand_down_step v m e = subst (Step stand_down s) (sym e) (stood_down m)
