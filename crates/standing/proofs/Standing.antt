-- After any run of calls all that is promised stands: by induction over the run.
use Rattle.std.proofs.Common.{◌≡◌, ◌+◌, ◌<◌, ◌≤◌, min, true, false, List, ◌∷◌, ◌++◌, ℤ, ◌≤ℤ◌, Some, None, Option, sym, refl, ap, ◌∙◌, subst, subst₂, arith}
use Rattle.std.proofs.lemmas.Bool.{true≢false, false≢true, leb-true, leb-false, le-leb, lt-leb}
use Rattle.measure.specs.Fraction.{Fraction, whole, ◌≤ᶠ◌}
use Rattle.measure.proofs.Order.{cancel, ≤_trans}
use Rattle.std.proofs.lemmas.Option.{none-some, same_Some}
use Rattle.standing.specs.Model.{Model, Grounds}
use Rattle.standing.specs.Call.{Call, Offer, History}
use Rattle.standing.specs.Call.Call.{man, offer, change, ask, hand_over, stand_down}
use Rattle.standing.specs.Panel.{Heading, Watch, Sheet, Priced, State, none_yet, total, is_full, with_watch, counting, sheet_of, open_sheet}
use Rattle.standing.specs.Step.{Offered, ChangeMade, Step, sheets_of}
use Rattle.standing.specs.Step.Step.{manned, offer_counted, change_counted, offer_too_many, change_too_many, asked, handed_over, hand_over_refused, stood_down}
use Rattle.standing.specs.Run.{Run}
use Rattle.standing.specs.Run.Run.{new, called}
use Rattle.standing.specs.Told.{Opens, Ends, Made, CountOf, attendant_at, came_in_watch, full_at, case_at, OffersMeeting, OffersFloor}
use Rattle.standing.specs.Told.Opens.{by_manning, by_hand_over}
use Rattle.standing.specs.Told.Ends.{at_hand_over, at_stand_down}
use Rattle.standing.specs.Standing.{ShownStands, FloorStands, WatchStands, OnWatch, SheetStands, SheetsStand, of_watch, over_all}
use Rattle.standing.specs.Standing.SheetsStand.{written, unwritten}
use Rattle.standing.specs.Theorems.{StandingTheorem}
use Rattle.standing.proofs.Best.{by_cost, by_floor, IsBest}
use Rattle.standing.proofs.Counting.{moved-over_all, made_room}
use Rattle.standing.proofs.Cases.{now_meeting, now_lawful}
use Rattle.standing.proofs.Holds.{ShownBest, FloorBest, WatchMade, Holds, quiet, watch_opened, unmoved}
use Rattle.standing.proofs.Offers.{offer_step, change_step}

module _ (m : Model) (start : m.Case) where
  module _ (grounds : Grounds m) where
    shown_stands : (h : History m) (o : Option (Priced m)) → m.WellFormed (case_at m start h) → ShownBest m start h o → ShownStands m start h o
    shown_stands h None k b =
        record {
          only_if_offered = λ e. absurd (false≢true e);
          if_offered = λ d t. absurd (b d t);
          is_offered = λ d e. absurd (none-some _ e);
          at_counted_cost = λ d e. absurd (none-some _ e);
          meets_now = λ d e. absurd (none-some _ e);
          truly = λ d e. absurd (none-some _ e);
          first = λ d e. absurd (none-some _ e);
          cheapest = λ d g e t. absurd (b g t);
        }
    shown_stands h (Some x) k b =
        let at : (d : Priced m) → Some x ≡ Some d → IsBest m start (by_cost m) (OffersMeeting m start) h d =
        λ d e. subst (IsBest m start (by_cost m) (OffersMeeting m start) h) (same_Some _ _ e) b
        in
        record {
          only_if_offered = λ e. (x, b.offered);
          if_offered = λ d t. refl;
          is_offered = λ d e. (at d e).offered;
          at_counted_cost = λ d e. (now_meeting m start (at d e).offered).1;
          meets_now = λ d e. (now_meeting m start (at d e).offered).0;
          truly = λ d e.
              subst (λ z. m.true_cost (case_at m start h) (m.in_fractions (case_at m start h) d.dispatch) ≤ᶠ whole z) (sym (now_meeting m start (at d e).offered).1)
              (grounds.covers (case_at m start h) k d.dispatch (now_meeting m start (at d e).offered).0);
          first = λ d e. (at d e).first;
          cheapest = λ d g e t. (at d e).best g t;
        }

    floor_stands : (h : History m) (o : Option ℤ) → m.WellFormed (case_at m start h) → FloorBest m start h o → FloorStands m start h o
    floor_stands h None k b =
        record {
          none_cheaper = λ f e. absurd (none-some _ e);
          only_if_offered = λ e. absurd (false≢true e);
          if_offered = λ f t. absurd (b f t);
          is_offered = λ f e. absurd (none-some _ e);
          highest = λ f g e t. absurd (b g t);
        }
    floor_stands h (Some x) k b =
        let at : (f : ℤ) → Some x ≡ Some f → IsBest m start by_floor (OffersFloor m start) h f =
        λ f e. subst (IsBest m start by_floor (OffersFloor m start) h) (same_Some _ _ e) b
        in
        record {
          none_cheaper = λ f e r q.
              let l = now_lawful m start (at f e).offered in
              subst (λ z. whole z ≤ᶠ m.true_cost (case_at m start h) r) (sym l.2) (grounds.bounds (case_at m start h) k l.0 l.1 r q);
          only_if_offered = λ e. (x, b.offered);
          if_offered = λ f t. refl;
          is_offered = λ f e. (at f e).offered;
          highest = λ f g e t. (at f e).best g t;
        }

    -- the sheet of the open watch tells what stands
    sheet_stands : (h : History m) (sheets : List Sheet) (s : State m) (w : Watch) → Holds m start h sheets s → WatchStands m start h w → SheetStands m start h (sheet_of w s)
    sheet_stands h sheets s w i x =
        record {
          watch_stands = x;
          shown = s.shown;
          shown_stands = shown_stands h s.shown i.well i.shown;
          cost_is = refl;
          floor_stands = floor_stands h s.floor i.well i.floor;
        }

    -- ---- every step

    -- a watch of the panel is full exactly if the history says so
    full_met : (h : History m) (w : Watch) → WatchMade m start h (Some w) → is_full (total w.counts) ≡ true → full_at h ≡ true
    full_met h w n f =
        let k : 1000000 ≤ total w.counts = leb-true 1000000 (total w.counts) f in le-leb 1000000 (came_in_watch h) (omega (arith, n, k))

    room_left : (h : History m) (w : Watch) → WatchMade m start h (Some w) → is_full (total w.counts) ≡ false → full_at h ≡ false
    room_left h w n f =
        let k : total w.counts < 1000000 = leb-false 1000000 (total w.counts) f in lt-leb 1000000 (came_in_watch h) (omega (arith, n, k))

    -- a full watch leaves the panel as it was
    full_step :
        (h : History m) (c : Call m) (sheets : List Sheet) (s : State m) (w : Watch) → s.watch ≡ Some w → is_full (total w.counts) ≡ true →
        ¬ Opens c → ¬ Ends c → attendant_at (c ∷ h) ≡ attendant_at h → came_in_watch (c ∷ h) ≡ came_in_watch h + 1 → Holds m start h sheets s → Holds m start (c ∷ h) sheets s
    full_step h c sheets s w e f k x same one i =
        let n : WatchMade m start h (Some w) = subst (WatchMade m start h) e i.made in
        let full : full_at h ≡ true = full_met h w n f in
        unmoved m start (λ t. true≢false (sym full ∙ made_room t)) k x same
        (subst (WatchMade m start (c ∷ h)) (sym e) (omega (arith, n, one, leb-true 1000000 (came_in_watch h) full))) i

    -- a watch that ends
    ended :
        (h : History m) (c : Call m) (sheets : List Sheet) (s : State m) (w : Watch) (v : Option Watch) → ¬ Made h c → Ends c → s.watch ≡ Some w → Holds m start h sheets s →
        OnWatch m start (c ∷ h) v → WatchMade m start (c ∷ h) v → of_watch v ≡ none_yet → Holds m start (c ∷ h) (sheet_of w s ∷ sheets) (with_watch v s)
    ended h c sheets s w v n x e i a b z =
        quiet m start n i (sheet_of w s ∷ sheets) v a b
        (written x (sheet_stands h sheets s w i (subst (OnWatch m start h) e i.watch)) i.sheets_stand)
        (ap (λ y. over_all (of_watch y) sheets) e ∙ sym (moved-over_all w.counts sheets) ∙ ap (λ y. over_all y (sheet_of w s ∷ sheets)) (sym z))

    module _ (h : History m) (sheets : List Sheet) (s : State m) (i : Holds m start h sheets s) where
      -- the state with another case and watch
      abbrev at : m.Case → Option Watch → State m
      at c v = record { case = c; shown = s.shown; floor = s.floor; watch = v }

      module _ (w : Watch) (e : s.watch ≡ Some w) (f : is_full (total w.counts) ≡ false) where
        -- the case is the one that the history tells, and the watch is open
        told : Holds m start h sheets (at (case_at m start h) (Some w))
        told = subst₂ (λ c v. Holds m start h sheets (at c v)) i.case_is e i

        offer_on : (o : Offer m) (k : Heading) (t : State m) → Offered s o k t → Holds m start (offer o ∷ h) sheets (counting k w t)
        offer_on o k =
            subst₂ (λ c v. (t : State m) → Offered (at c v) o k t → Holds m start (offer o ∷ h) sheets (counting k w t)) (sym i.case_is) (sym e)
            (offer_step m start grounds h sheets s.shown s.floor w told (room_left h w told.made f) o k)

        change_on : (x : Option m.Change) (k : Heading) (t : State m) → ChangeMade s x k t → Holds m start (change x ∷ h) sheets (counting k w t)
        change_on x k =
            subst₂ (λ c v. (t : State m) → ChangeMade (at c v) x k t → Holds m start (change x ∷ h) sheets (counting k w t)) (sym i.case_is) (sym e)
            (change_step m start grounds h sheets s.shown s.floor w told (room_left h w told.made f) x k)

      -- what an ended watch writes
      end_on :
          (c : Call m) (w : Watch) (v : Option Watch) → ¬ Made h c → Ends c → s.watch ≡ Some w → OnWatch m start (c ∷ h) v → WatchMade m start (c ∷ h) v →
          of_watch v ≡ none_yet → Holds m start (c ∷ h) (open_sheet s.watch s ++ sheets) (with_watch v s)
      end_on c w v n x e a b z =
          subst (λ y. Holds m start (c ∷ h) (open_sheet y s ++ sheets) (with_watch v s)) (sym e) (ended h c sheets s w v n x e i a b z)

      made_kept : (c : Call m) → came_in_watch (c ∷ h) ≡ came_in_watch h → (v : Option Watch) → WatchMade m start h v → WatchMade m start (c ∷ h) v
      made_kept c e None n = tt
      made_kept c e (Some w) n = n ∙ ap (λ z. min z 1000000) (sym e)

      holds_on : (c : Call m) (t : State m) → Step c s t → Holds m start (c ∷ h) (sheets_of c s ++ sheets) t
      holds_on c t (manned {a = a} e) =
          quiet m start (λ x. elim x [ ]) i sheets (Some (record { attendant = a; counts = none_yet })) (watch_opened m start h (man a) a by_manning refl) refl
          (unwritten (λ x. elim x [ ]) i.sheets_stand) (ap (λ v. over_all (of_watch v) sheets) e)
      holds_on c t (offer_counted {t = u} {o = o} {k = k} {w = w} e f x) = offer_on w e f o k u x
      holds_on c t (change_counted {t = u} {x = x} {k = k} {w = w} e f y) = change_on w e f x k u y
      holds_on c t (offer_too_many {o = o} {w = w} e f) = full_step h (offer o) sheets s w e f (λ x. elim x [ ]) (λ x. elim x [ ]) refl refl i
      holds_on c t (change_too_many {x = x} {w = w} e f) = full_step h (change x) sheets s w e f (λ y. elim y [ ]) (λ y. elim y [ ]) refl refl i
      holds_on c t (asked {q = q} x) =
          unmoved m start (λ y. elim y [ ]) (λ y. elim y [ ]) (λ y. elim y [ ]) refl (made_kept (ask q) refl s.watch i.made) i
      holds_on c t (handed_over {a = a} {w = w} e) =
          end_on (hand_over (Some a)) w (Some (record { attendant = a; counts = none_yet })) (λ x. elim x [ ]) at_hand_over e
          (watch_opened m start h (hand_over (Some a)) a by_hand_over refl) refl refl
      holds_on c t (hand_over_refused e) =
          unmoved m start (λ y. elim y [ ]) (λ y. elim y [ ]) (λ y. elim y [ ]) refl (made_kept (hand_over None) refl s.watch i.made) i
      holds_on c t (stood_down {w = w} e) = end_on stand_down w None (λ x. elim x [ ]) at_stand_down e refl tt refl

    pub run_holds : {h : History m} {sheets : List Sheet} {s : State m} → Run m start h sheets s → Holds m start h sheets s
    run_holds (new k) =
        record {
          case_is = refl;
          well = k;
          shown = λ d t. elim t [ ];
          floor = λ f t. elim t [ ];
          watch = refl;
          made = tt;
          sheets_stand = SheetsStand.none;
          counts = record { held = CountOf.none; passed = CountOf.none; declined = CountOf.none; changes = CountOf.none; all = CountOf.none };
        }
    run_holds (called {h = h} {sheets = sheets} {c = c} {s = s} {t = t} r x) = holds_on h sheets s (run_holds r) c t x

-- a fraction between two whole numbers keeps their order
between : (a b : ℤ) (x : Fraction) → whole a ≤ᶠ x → x ≤ᶠ whole b → a ≤ℤ b
between a b x p q = cancel a b x.den x.positive (≤_trans p.cross q.cross)

pub standing_theorem : (m : Model) → Grounds m → StandingTheorem m
standing_theorem m grounds start h sheets s r =
    let i = run_holds m start grounds r in
    let now-shown = shown_stands m start grounds h s.shown i.well i.shown in
    let now-floor = floor_stands m start grounds h s.floor i.well i.floor in
    record {
      case_is = i.case_is;
      well_formed = subst m.WellFormed (sym i.case_is) i.well;
      shown_stands = now-shown;
      floor_stands = now-floor;
      floor_below = λ d f p q. between f d.cost _ (now-floor.none_cheaper f q _ (now-shown.meets_now d p).in_fractions) (now-shown.truly d p);
      watch_stands = i.watch;
      sheets_stand = i.sheets_stand;
      counts_stand = i.counts;
    }
