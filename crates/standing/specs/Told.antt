-- What the calls made tell by themselves. A history lists them, the newest first, and each is looked at with the calls before it.
use Rattle.std.specs.Prelude.{◌≡◌, ℕ, ◌+◌, Bool, false, cond, [], ◌∷◌, ℤ, Some, None, Option}
use Rattle.std.specs.Option.{unwrap_or}
use Rattle.standing.specs.Model.{Model, Meets}
use Rattle.standing.specs.Call.{Call, Offer, History}
use Rattle.standing.specs.Call.Call.{man, offer, change, ask, hand_over, stand_down}
use Rattle.standing.specs.Call.Offer.{dispatch, prices}
use Rattle.standing.specs.Panel.{Heading, Priced, Cheaper, Higher, is_full, priced}
use Rattle.standing.specs.Panel.Heading.{HELD, PASSED, DECLINED, CHANGES}

module _ {m : Model} where
  -- ---- watches
  -- the attendant of the open watch: the one who was last let in; none on an idle panel
  abbrev pub attendant_at : History m → Option ℕ
  attendant_at [] = None
  attendant_at (man a ∷ h) = Some a
  attendant_at (offer o ∷ h) = attendant_at h
  attendant_at (change x ∷ h) = attendant_at h
  attendant_at (ask q ∷ h) = attendant_at h
  attendant_at (hand_over None ∷ h) = attendant_at h
  attendant_at (hand_over (Some a) ∷ h) = Some a
  attendant_at (stand_down ∷ h) = None

  -- the call opens a watch
  pub data Opens : Call m → Type 0 where
    by_manning : {a : ℕ} → Opens (man a)
    by_hand_over : {a : ℕ} → Opens (hand_over (Some a))

  -- the call ends a watch
  pub data Ends : Call m → Type 0 where
    at_hand_over : {a : ℕ} → Ends (hand_over (Some a))
    at_stand_down : Ends stand_down

  -- how many offers and changes came in the open watch, those that met it full too
  abbrev pub came_in_watch : History m → ℕ
  came_in_watch [] = 0
  came_in_watch (man a ∷ h) = 0
  came_in_watch (offer o ∷ h) = came_in_watch h + 1
  came_in_watch (change x ∷ h) = came_in_watch h + 1
  came_in_watch (ask q ∷ h) = came_in_watch h
  came_in_watch (hand_over None ∷ h) = came_in_watch h
  came_in_watch (hand_over (Some a) ∷ h) = 0
  came_in_watch (stand_down ∷ h) = 0

  -- an offer or a change that comes now meets a full watch
  abbrev pub full_at : History m → Bool
  full_at h = is_full (came_in_watch h)

  -- the call is an offer or a change, and meets no full watch
  pub data Made (h : History m) : Call m → Type 0 where
    offer_made : {o : Offer m} → full_at h ≡ false → Made h (offer o)
    change_made : {x : Option m.Change} → full_at h ≡ false → Made h (change x)

  -- how many calls have the property, since the last one at which the count begins anew
  pub data CountOf (Anew : Call m → Type 0) (P : History m → Call m → Type 0) : History m → ℕ → Type 0 where
    none : CountOf Anew P [] 0
    anew : {h : History m} {c : Call m} → Anew c → CountOf Anew P (c ∷ h) 0
    one_more : {h : History m} {c : Call m} {n : ℕ} → ¬ Anew c → P h c → CountOf Anew P h n → CountOf Anew P (c ∷ h) (n + 1)
    no_more : {h : History m} {c : Call m} {n : ℕ} → ¬ Anew c → ¬ P h c → CountOf Anew P h n → CountOf Anew P (c ∷ h) n

  -- the count over all calls never begins anew
  abbrev pub Never : Call m → Type 0
  Never c = ⊥

module _ (m : Model) (start : m.Case) where
  -- ---- the case
  -- the case with every taken change made
  abbrev pub case_at : History m → m.Case
  case_at [] = start
  case_at (man a ∷ h) = case_at h
  case_at (offer o ∷ h) = case_at h
  case_at (change None ∷ h) = case_at h
  case_at (change (Some x) ∷ h) = cond (full_at h) (case_at h) (unwrap_or (m.changed (case_at h) x) (case_at h))
  case_at (ask q ∷ h) = case_at h
  case_at (hand_over p ∷ h) = case_at h
  case_at (stand_down ∷ h) = case_at h

  -- ---- offers
  -- the call offers this dispatch, which meets the case, at its counted cost
  pub data OffersMeeting (h : History m) : Call m → Priced m → Type 0 where
    meeting : {d : m.Dispatch} → full_at h ≡ false → Meets m (case_at h) d → OffersMeeting h (offer (dispatch (Some d))) (priced (case_at h) d)

  -- the call offers a lawful price list with this floor
  pub data OffersFloor (h : History m) : Call m → ℤ → Type 0 where
    lawful : {l : m.Prices} → full_at h ≡ false → m.Lawful (case_at h) l → OffersFloor h (offer (prices (Some l))) (m.floor_of (case_at h) l)

  -- CHANGES: the call is a change that is taken
  pub data IsChange (h : History m) : Call m → Type 0 where
    taken : {x : m.Change} {k : m.Case} → full_at h ≡ false → m.changed (case_at h) x ≡ Some k → IsChange h (change (Some x))

  -- it was offered, and no change was taken since
  pub data Since {A : Type 0} (Offers : History m → Call m → A → Type 0) : History m → A → Type 0 where
    newest : {h : History m} {c : Call m} {a : A} → Offers h c a → Since Offers (c ∷ h) a
    earlier : {h : History m} {c : Call m} {a : A} → ¬ IsChange h c → Since Offers h a → Since Offers (c ∷ h) a

  -- a dispatch that meets the case, and the floor of a lawful list, offered since the last taken change
  abbrev pub MeetingSince : History m → Priced m → Type 0
  MeetingSince = Since OffersMeeting

  abbrev pub FloorSince : History m → ℤ → Type 0
  FloorSince = Since OffersFloor

  -- it is offered, and is better than all that were offered before it since the last taken change
  pub record BestYet {A : Type 0} (Better : A → A → Type 0) (Offers : History m → Call m → A → Type 0) (h : History m) (c : Call m) (a : A) : Type 0 where
    pub offered : Offers h c a
    pub better : (b : A) → Since Offers h b → Better a b

  abbrev pub CheapestYet : History m → Call m → Priced m → Type 0
  CheapestYet = BestYet Cheaper OffersMeeting

  abbrev pub HighestYet : History m → Call m → ℤ → Type 0
  HighestYet = BestYet Higher OffersFloor

  -- ---- headings
  -- HELD: a dispatch that meets the case, counted cheaper than all such before it since the last taken change,
  -- or a lawful list with a higher floor than all such before it since then
  pub data IsHeld (h : History m) (c : Call m) : Type 0 where
    held_dispatch : {d : Priced m} → CheapestYet h c d → IsHeld h c
    held_floor : {f : ℤ} → HighestYet h c f → IsHeld h c

  -- a dispatch that meets the case, or a lawful list
  pub data IsGood (h : History m) (c : Call m) : Type 0 where
    good_dispatch : {d : Priced m} → OffersMeeting h c d → IsGood h c
    good_prices : {f : ℤ} → OffersFloor h c f → IsGood h c

  -- PASSED: another such offer
  pub record IsPassed (h : History m) (c : Call m) : Type 0 where
    pub good : IsGood h c
    pub not_held : ¬ IsHeld h c

  -- DECLINED: any other offer or change that meets no full watch
  pub record IsDeclined (h : History m) (c : Call m) : Type 0 where
    pub made : Made h c
    pub not_good : ¬ IsGood h c
    pub not_taken : ¬ IsChange h c

  -- the calls that a heading counts
  abbrev pub Under : Heading → History m → Call m → Type 0
  Under HELD = IsHeld
  Under PASSED = IsPassed
  Under DECLINED = IsDeclined
  Under CHANGES = IsChange
