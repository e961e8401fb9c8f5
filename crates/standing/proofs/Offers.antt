-- An offer or a change that the open watch counts.
use Rattle.std.proofs.Common.{◌≡◌, false, List, ◌∷◌, ℤ, ◌<ℤ◌, Some, None, Option, sym, refl, ◌∙◌, subst}
use Rattle.std.proofs.lemmas.Option.{none-some}
use Rattle.standing.specs.Model.{Model, Meets, Grounds}
use Rattle.standing.specs.Call.{Call, Offer, History}
use Rattle.standing.specs.Call.Call.{offer, change}
use Rattle.standing.specs.Call.Offer.{dispatch, prices}
use Rattle.standing.specs.Panel.{Cheaper, Higher, Heading, Watch, Sheet, Priced, State, priced, counting}
use Rattle.standing.specs.Panel.Heading.{HELD, PASSED, DECLINED, CHANGES}
use Rattle.standing.specs.Step.{Improves, Offered, ChangeMade}
use Rattle.standing.specs.Step.Offered.{dispatch_held, dispatch_passed, dispatch_declined, dispatch_faulty, prices_held, prices_passed, prices_declined, prices_faulty}
use Rattle.standing.specs.Step.ChangeMade.{change_taken, change_declined, change_faulty}
use Rattle.standing.specs.Told.{full_at, case_at, OffersMeeting, OffersFloor, IsChange, IsHeld, IsGood, IsDeclined, Under}
use Rattle.standing.specs.Told.Made.{offer_made, change_made}
use Rattle.standing.specs.Told.OffersMeeting.{meeting}
use Rattle.standing.specs.Told.OffersFloor.{lawful}
use Rattle.standing.specs.Told.IsChange.{taken}
use Rattle.standing.specs.Told.IsHeld.{held_dispatch, held_floor}
use Rattle.standing.specs.Told.IsGood.{good_dispatch, good_prices}
use Rattle.standing.proofs.Best.{by_cost, by_floor, kept, cleared, replaced, left, beats_all, beats_shown}
use Rattle.standing.proofs.Counting.{offer_no_change}
use Rattle.standing.proofs.Cases.{case_kept, case_taken}
use Rattle.standing.proofs.Holds.{ShownBest, FloorBest, Holds, counted_step}

module _ (m : Model) (start : m.Case) where
  module _ (grounds : Grounds m) (h : History m) (sheets : List Sheet) (shown : Option (Priced m)) (floor : Option ℤ) (w : Watch) where
    abbrev now_state : State m
    now_state = record { case = case_at m start h; shown = shown; floor = floor; watch = Some w }

    module _ (i : Holds m start h sheets now_state) (room : full_at h ≡ false) where
      -- one that leaves the case
      case_left :
          (k : Heading) (c : Call m) (s : State m) → Under m start k h c → ¬ IsChange m start h c →
          s.case ≡ case_at m start h → ShownBest m start (c ∷ h) s.shown → FloorBest m start (c ∷ h) s.floor → Holds m start (c ∷ h) sheets (counting k w s)
      case_left k c s u n e a b =
          counted_step m start k h c sheets s w u i.watch i.made i.sheets_stand i.counts
          (e ∙ sym (case_kept m start h c n)) (subst m.WellFormed (sym (case_kept m start h c n)) i.well) a b

      declined_step : (c : Call m) → IsDeclined m start h c → Holds m start (c ∷ h) sheets (counting DECLINED w now_state)
      declined_step c u =
          case_left DECLINED c now_state u u.not_taken refl
          (kept m start (by_cost m) (OffersMeeting m start) h c u.not_taken (λ d o. u.not_good (good_dispatch o)) shown i.shown)
          (kept m start by_floor (OffersFloor m start) h c u.not_taken (λ f o. u.not_good (good_prices o)) floor i.floor)

      offer_declined : (o : Offer m) → (IsGood m start h (offer o) → ⊥) → Holds m start (offer o ∷ h) sheets (counting DECLINED w now_state)
      offer_declined o bad = declined_step (offer o) (record { made = offer_made room; not_good = bad; not_taken = offer_no_change })

      -- a dispatch
      module _ (p : Option m.Dispatch) where
        no_floor : (f : ℤ) → OffersFloor m start h (offer (dispatch p)) f → ⊥
        no_floor f o = elim o [ ]

        dispatch_bad : ((d : Priced m) → OffersMeeting m start h (offer (dispatch p)) d → ⊥) → IsGood m start h (offer (dispatch p)) → ⊥
        dispatch_bad n (good_dispatch {d = d} o) = n d o
        dispatch_bad n (good_prices {f = f} o) = no_floor f o

      module _ (d : m.Dispatch) where
        abbrev at_cost : Priced m
        at_cost = priced (case_at m start h) d

        only_dispatch : (a : Priced m) → OffersMeeting m start h (offer (dispatch (Some d))) a → a ≡ at_cost
        only_dispatch a (meeting f k) = refl

        says_meets : (a : Priced m) → OffersMeeting m start h (offer (dispatch (Some d))) a → Meets m (case_at m start h) d
        says_meets a (meeting f k) = k

        floor_left : FloorBest m start (offer (dispatch (Some d)) ∷ h) floor
        floor_left = kept m start by_floor (OffersFloor m start) h (offer (dispatch (Some d))) offer_no_change (no_floor (Some d)) floor i.floor

        dispatch_step :
            Meets m (case_at m start h) d → Improves Cheaper at_cost shown →
            Holds m start (offer (dispatch (Some d)) ∷ h) sheets (counting HELD w (record { case = case_at m start h; shown = Some at_cost; floor = floor; watch = Some w }))
        dispatch_step k q =
            case_left HELD (offer (dispatch (Some d))) (record { case = case_at m start h; shown = Some at_cost; floor = floor; watch = Some w })
            (held_dispatch (record { offered = meeting room k; better = beats_all m start (by_cost m) (OffersMeeting m start) h (offer (dispatch (Some d))) at_cost shown q i.shown }))
            offer_no_change refl
            (replaced m start (by_cost m) (OffersMeeting m start) h (offer (dispatch (Some d))) offer_no_change at_cost (meeting room k) only_dispatch shown q i.shown)
            floor_left

        passed_dispatch :
            Meets m (case_at m start h) d → ¬ Improves Cheaper at_cost shown → Holds m start (offer (dispatch (Some d)) ∷ h) sheets (counting PASSED w now_state)
        passed_dispatch k q =
            case_left PASSED (offer (dispatch (Some d))) now_state
            (record { good = good_dispatch (meeting room k); not_held = not_held })
            offer_no_change refl
            (left m start (by_cost m) (OffersMeeting m start) h (offer (dispatch (Some d))) offer_no_change at_cost (meeting room k) only_dispatch shown q i.shown)
            floor_left
          where
            not_held : IsHeld m start h (offer (dispatch (Some d))) → ⊥
            not_held (held_dispatch {d = a} o) =
                q (beats_shown m start (by_cost m) (OffersMeeting m start) h (offer (dispatch (Some d))) at_cost shown i.shown
                (λ b s. subst (λ y. y.cost <ℤ b.cost) (only_dispatch a o.offered) (o.better b s)))
            not_held (held_floor {f = f} o) = no_floor (Some d) f o.offered

      -- a price list
      module _ (p : Option m.Prices) where
        no_meeting : (d : Priced m) → OffersMeeting m start h (offer (prices p)) d → ⊥
        no_meeting d o = elim o [ ]

        prices_bad : ((f : ℤ) → OffersFloor m start h (offer (prices p)) f → ⊥) → IsGood m start h (offer (prices p)) → ⊥
        prices_bad n (good_dispatch {d = d} o) = no_meeting d o
        prices_bad n (good_prices {f = f} o) = n f o

      module _ (l : m.Prices) where
        abbrev at_floor : ℤ
        at_floor = m.floor_of (case_at m start h) l

        only_floor : (f : ℤ) → OffersFloor m start h (offer (prices (Some l))) f → f ≡ at_floor
        only_floor f (lawful r k) = refl

        says_lawful : (f : ℤ) → OffersFloor m start h (offer (prices (Some l))) f → m.Lawful (case_at m start h) l
        says_lawful f (lawful r k) = k

        shown_left : ShownBest m start (offer (prices (Some l)) ∷ h) shown
        shown_left = kept m start (by_cost m) (OffersMeeting m start) h (offer (prices (Some l))) offer_no_change (no_meeting (Some l)) shown i.shown

        prices_step :
            m.Lawful (case_at m start h) l → Improves Higher at_floor floor →
            Holds m start (offer (prices (Some l)) ∷ h) sheets (counting HELD w (record { case = case_at m start h; shown = shown; floor = Some at_floor; watch = Some w }))
        prices_step k q =
            case_left HELD (offer (prices (Some l))) (record { case = case_at m start h; shown = shown; floor = Some at_floor; watch = Some w })
            (held_floor (record { offered = lawful room k; better = beats_all m start by_floor (OffersFloor m start) h (offer (prices (Some l))) at_floor floor q i.floor }))
            offer_no_change refl
            shown_left
            (replaced m start by_floor (OffersFloor m start) h (offer (prices (Some l))) offer_no_change at_floor (lawful room k) only_floor floor q i.floor)

        passed_prices :
            m.Lawful (case_at m start h) l → ¬ Improves Higher at_floor floor → Holds m start (offer (prices (Some l)) ∷ h) sheets (counting PASSED w now_state)
        passed_prices k q =
            case_left PASSED (offer (prices (Some l))) now_state
            (record { good = good_prices (lawful room k); not_held = not_held })
            offer_no_change refl
            shown_left
            (left m start by_floor (OffersFloor m start) h (offer (prices (Some l))) offer_no_change at_floor (lawful room k) only_floor floor q i.floor)
          where
            not_held : IsHeld m start h (offer (prices (Some l))) → ⊥
            not_held (held_dispatch {d = d} o) = no_meeting (Some l) d o.offered
            not_held (held_floor {f = f} o) =
                q (beats_shown m start by_floor (OffersFloor m start) h (offer (prices (Some l))) at_floor floor i.floor
                (λ g s. subst (λ y. g <ℤ y) (only_floor f o.offered) (o.better g s)))

      pub offer_step : (o : Offer m) (k : Heading) (t : State m) → Offered now_state o k t → Holds m start (offer o ∷ h) sheets (counting k w t)
      offer_step o k t (dispatch_held {d = d} x q) = dispatch_step d x q
      offer_step o k t (dispatch_passed {d = d} x q) = passed_dispatch d x q
      offer_step o k t (dispatch_declined {d = d} x) = offer_declined (dispatch (Some d)) (dispatch_bad (Some d) (λ a y. x (says_meets d a y)))
      offer_step o k t dispatch_faulty = offer_declined (dispatch None) (dispatch_bad None (λ a y. elim y [ ]))
      offer_step o k t (prices_held {l = l} x q) = prices_step l x q
      offer_step o k t (prices_passed {l = l} x q) = passed_prices l x q
      offer_step o k t (prices_declined {l = l} x) = offer_declined (prices (Some l)) (prices_bad (Some l) (λ f y. x (says_lawful l f y)))
      offer_step o k t prices_faulty = offer_declined (prices None) (prices_bad None (λ f y. elim y [ ]))

      -- a change
      change_bad : (x : Option m.Change) → IsGood m start h (change x) → ⊥
      change_bad x (good_dispatch o) = elim o [ ]
      change_bad x (good_prices o) = elim o [ ]

      change_refused : (x : Option m.Change) → (IsChange m start h (change x) → ⊥) → Holds m start (change x ∷ h) sheets (counting DECLINED w now_state)
      change_refused x n = declined_step (change x) (record { made = change_made room; not_good = change_bad x; not_taken = n })

      says_taken : (x : m.Change) → IsChange m start h (change (Some x)) → (k : m.Case) × (m.changed (case_at m start h) x ≡ Some k)
      says_taken x (taken {k = k} f e) = (k, e)

      pub change_step : (x : Option m.Change) (k : Heading) (t : State m) → ChangeMade now_state x k t → Holds m start (change x ∷ h) sheets (counting k w t)
      change_step x k t (change_taken {x = y} {c = c} e) =
          let now-taken : IsChange m start h (change (Some y)) = taken room e in
          let is-now : case_at m start (change (Some y) ∷ h) ≡ c = case_taken m start h y c room e in
          counted_step m start CHANGES h (change (Some y)) sheets (record { case = c; shown = None; floor = None; watch = Some w }) w now-taken
          i.watch i.made i.sheets_stand i.counts
          (sym is-now) (subst m.WellFormed (sym is-now) (grounds.stays (case_at m start h) i.well y c e))
          (cleared m start (by_cost m) (OffersMeeting m start) h (change (Some y)) now-taken (λ d o. change_bad (Some y) (good_dispatch o)))
          (cleared m start by_floor (OffersFloor m start) h (change (Some y)) now-taken (λ f o. change_bad (Some y) (good_prices o)))
      change_step x k t (change_declined {x = y} e) = change_refused (Some y) (λ z. none-some _ (sym e ∙ (says_taken y z).1))
      change_step x k t change_faulty = change_refused None (λ z. elim z [ ])
