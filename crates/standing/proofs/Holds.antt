-- What holds of every panel, in the form in which one call carries it to the next.
use Rattle.std.proofs.Common.{◌≡◌, ℕ, ◌<◌, min, List, ◌∷◌, ℤ, Some, None, Option, sym, refl, ◌∙◌, subst, arith}
use Rattle.std.proofs.lemmas.Bool.{leb-false}
use Rattle.standing.specs.Model.{Model}
use Rattle.standing.specs.Call.{Call, History}
use Rattle.standing.specs.Panel.{Heading, Watch, Sheet, Priced, State, none_yet, raised, total, with_watch, counting}
use Rattle.standing.specs.Told.{Opens, Ends, Never, Made, attendant_at, came_in_watch, case_at, OffersMeeting, OffersFloor, IsChange, Under}
use Rattle.standing.specs.Standing.{CountsStand, WatchStands, OnWatch, SheetsStand, of_watch, over_all}
use Rattle.standing.specs.Standing.SheetsStand.{unwritten}
use Rattle.standing.proofs.Best.{by_cost, by_floor, Best, kept}
use Rattle.standing.proofs.Counting.{raised-over_all, total-raised, made_room, made_one_more, made_opens_none, made_ends_none, made_attendant, meeting_made, floor_made, taken_made, under_made, counts_anew, counts_kept, counts_raised}
use Rattle.standing.proofs.Cases.{case_kept}

module _ (m : Model) (start : m.Case) where
  abbrev pub ShownBest : History m → Option (Priced m) → Type 0
  ShownBest = Best m start (by_cost m) (OffersMeeting m start)

  abbrev pub FloorBest : History m → Option ℤ → Type 0
  FloorBest = Best m start by_floor (OffersFloor m start)

  -- the watch counts what was made in it, until it is full
  abbrev pub WatchMade : History m → Option Watch → Type 0
  WatchMade h None = Unit {0}
  WatchMade h (Some w) = total w.counts ≡ min (came_in_watch h) 1000000

  pub record Holds (h : History m) (sheets : List Sheet) (s : State m) : Type 0 where
    pub case_is : s.case ≡ case_at m start h
    pub well : m.WellFormed (case_at m start h)
    pub shown : ShownBest h s.shown
    pub floor : FloorBest h s.floor
    pub watch : OnWatch m start h s.watch
    pub made : WatchMade h s.watch
    pub sheets_stand : SheetsStand m start h sheets
    pub counts : CountsStand m start Never h (over_all (of_watch s.watch) sheets)

  -- ---- a call that is no offer and no change, or that meets a full watch

  pub quiet :
      {h : History m} {c : Call m} {sheets : List Sheet} {s : State m} → ¬ Made h c → Holds h sheets s → (sheets' : List Sheet) (w : Option Watch) →
      OnWatch m start (c ∷ h) w → WatchMade (c ∷ h) w → SheetsStand m start (c ∷ h) sheets' →
      over_all (of_watch s.watch) sheets ≡ over_all (of_watch w) sheets' → Holds (c ∷ h) sheets' (with_watch w s)
  quiet {h} {c} {sheets} {s} n i sheets' w a b x e =
      let no_change : ¬ IsChange m start h c = λ t. n (taken_made t) in
      record {
        case_is = i.case_is ∙ sym (case_kept m start h c no_change);
        well = subst m.WellFormed (sym (case_kept m start h c no_change)) i.well;
        shown = kept m start (by_cost m) (OffersMeeting m start) h c no_change (λ d o. n (meeting_made o)) s.shown i.shown;
        floor = kept m start by_floor (OffersFloor m start) h c no_change (λ f o. n (floor_made o)) s.floor i.floor;
        watch = a;
        made = b;
        sheets_stand = x;
        counts = subst (CountsStand m start Never (c ∷ h)) e (counts_kept start (λ z. z) n i.counts);
      }

  watch_kept :
      (h : History m) (c : Call m) → ¬ Made h c → ¬ Opens c → attendant_at (c ∷ h) ≡ attendant_at h →
      (w : Option Watch) → OnWatch m start h w → OnWatch m start (c ∷ h) w
  watch_kept h c n k e None t = e ∙ t
  watch_kept h c n k e (Some w) t =
      record { attendant_is = e ∙ t.attendant_is; counts_stand = counts_kept start k n t.counts_stand }

  -- a watch that has just been opened
  pub watch_opened : (h : History m) (c : Call m) (a : ℕ) → Opens c → attendant_at (c ∷ h) ≡ Some a → WatchStands m start (c ∷ h) (record { attendant = a; counts = none_yet })
  watch_opened h c a o e = record { attendant_is = e; counts_stand = counts_anew start o }

  -- a call that leaves the panel as it was
  pub unmoved :
      {h : History m} {c : Call m} {sheets : List Sheet} {s : State m} → ¬ Made h c → ¬ Opens c → ¬ Ends c → attendant_at (c ∷ h) ≡ attendant_at h →
      WatchMade (c ∷ h) s.watch → Holds h sheets s → Holds (c ∷ h) sheets s
  unmoved {h} {c} {sheets} {s} n k x e b i =
      quiet n i sheets s.watch (watch_kept h c n k e s.watch i.watch) b (unwritten x i.sheets_stand) refl

  -- ---- an offer or a change that the open watch, not full, counts

  pub counted_step :
      (k : Heading) (h : History m) (c : Call m) (sheets : List Sheet) (s : State m) (w : Watch) → Under m start k h c →
      WatchStands m start h w → WatchMade h (Some w) → SheetsStand m start h sheets → CountsStand m start Never h (over_all w.counts sheets) →
      s.case ≡ case_at m start (c ∷ h) → m.WellFormed (case_at m start (c ∷ h)) → ShownBest (c ∷ h) s.shown → FloorBest (c ∷ h) s.floor →
      Holds (c ∷ h) sheets (counting k w s)
  counted_step k h c sheets s w u x n y z e f a b =
      record {
        case_is = e;
        well = f;
        shown = a;
        floor = b;
        watch = record { attendant_is = made_attendant made_now ∙ x.attendant_is; counts_stand = counts_raised start (made_opens_none made_now) k u x.counts_stand };
        made = one_more;
        sheets_stand = unwritten (made_ends_none made_now) y;
        counts = subst (CountsStand m start Never (c ∷ h)) (sym (raised-over_all k w.counts sheets)) (counts_raised start (λ t. t) k u z);
      }
    where
      made_now : Made h c
      made_now = under_made start k u

      one_more : total (raised k w.counts) ≡ min (came_in_watch (c ∷ h)) 1000000
      one_more =
          let below : came_in_watch h < 1000000 = leb-false 1000000 (came_in_watch h) (made_room made_now) in
          omega (arith, total-raised k w.counts, made_one_more made_now, n, below)
