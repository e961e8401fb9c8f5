-- The case by the calls made, and that what was offered since the last taken change fits it still.
use Rattle.std.proofs.Common.{◌≡◌, Bool, true, false, cond, ◌∷◌, ℤ, Some, None, Option, unwrap_or, sym, refl, ap, ◌∙◌, subst}
use Rattle.std.proofs.lemmas.Bool.{cond-false}
use Rattle.standing.specs.Model.{Model, Meets}
use Rattle.standing.specs.Call.{Call, History}
use Rattle.standing.specs.Call.Call.{man, offer, change, ask, hand_over, stand_down}
use Rattle.standing.specs.Panel.{Priced}
use Rattle.standing.specs.Told.{full_at, case_at, IsChange, MeetingSince, FloorSince}
use Rattle.standing.specs.Told.OffersMeeting.{meeting}
use Rattle.standing.specs.Told.OffersFloor.{lawful}
use Rattle.standing.specs.Told.IsChange.{taken}
use Rattle.standing.specs.Told.Since.{newest, earlier}

module _ (m : Model) (start : m.Case) where
  -- it changes by a taken change alone
  pub case_kept : (h : History m) (c : Call m) → ¬ IsChange m start h c → case_at m start (c ∷ h) ≡ case_at m start h
  case_kept h (man a) n = refl
  case_kept h (offer o) n = refl
  case_kept h (change None) n = refl
  case_kept h (change (Some x)) n = go (full_at h) refl (m.changed (case_at m start h) x) refl
    where
      go :
          (b : Bool) → full_at h ≡ b → (r : Option m.Case) → m.changed (case_at m start h) x ≡ r →
          cond b (case_at m start h) (unwrap_or r (case_at m start h)) ≡ case_at m start h
      go true f r q = refl
      go false f None q = refl
      go false f (Some k) q = absurd (n (taken f q))
  case_kept h (ask q) n = refl
  case_kept h (hand_over p) n = refl
  case_kept h stand_down n = refl

  pub case_taken :
      (h : History m) (x : m.Change) (k : m.Case) → full_at h ≡ false → m.changed (case_at m start h) x ≡ Some k →
      case_at m start (change (Some x) ∷ h) ≡ k
  case_taken h x k f e = cond-false (full_at h) _ _ f ∙ ap (λ r. unwrap_or r (case_at m start h)) e

  -- what was offered since the last taken change meets the case as it now is
  pub now_meeting :
      {h : History m} {d : Priced m} → MeetingSince m start h d →
      Meets m (case_at m start h) d.dispatch × (d.cost ≡ m.counted (case_at m start h) d.dispatch)
  now_meeting (newest (meeting f k)) = (k, refl)
  now_meeting {d = d} (earlier {h = h} {c = c} n s) =
      subst (λ k. Meets m k d.dispatch × (d.cost ≡ m.counted k d.dispatch)) (sym (case_kept h c n)) (now_meeting s)

  pub now_lawful :
      {h : History m} {f : ℤ} → FloorSince m start h f →
      (l : m.Prices) × m.Lawful (case_at m start h) l × (f ≡ m.floor_of (case_at m start h) l)
  now_lawful (newest (lawful {l = l} f k)) = (l, k, refl)
  now_lawful {f = f} (earlier {h = h} {c = c} n s) =
      subst (λ k. (l : m.Prices) × m.Lawful k l × (f ≡ m.floor_of k l)) (sym (case_kept h c n)) (now_lawful s)
