-- What a call leaves of the case, and the sheet that a hand-over writes.
use Rattle.std.proofs.Common.{◌≡◌, ℕ, List, drop, Some, None, Option, Ok, Err, Result, sym, refl, ◌∙◌, subst}
use Rattle.machine.specs.Meaning.{Meaning}
use Rattle.word.specs.declared.fault.WordFault.{WordFault}
use Rattle.sheet.specs.declared.sheet.Sheet as page
use Rattle.standing.specs.Model.{Model}
use Rattle.standing.specs.Call.{Offer}
use Rattle.standing.specs.Call.Call.{offer, hand_over}
use Rattle.standing.specs.Panel.{Heading, State}
use Rattle.standing.specs.Step.{Offered, Step, sheets_of}
use Rattle.standing.specs.Step.Offered.{dispatch_held, dispatch_passed, dispatch_declined, dispatch_faulty, prices_held, prices_passed, prices_declined, prices_faulty}
use Rattle.standing.specs.Step.Step.{offer_counted, offer_too_many}
use Rattle.panel_model.specs.Network.{network}
use Rattle.panel_model.specs.Says.{SaysAttendant}
use Rattle.panel_model.proofs.Faults.{says_none_hand_over}
use Rattle.panel.specs.Questions.{HandedOver}
use Rattle.panel.specs.Tables.{SameRest, DispatchTables}
use Rattle.panel.specs.declared.outcome.Outcome.{Outcome}
use Rattle.panel.specs.declared.outcome.Outcome.TheVariants.{Held, Passed}
use Rattle.panel.specs.declared.panel.Panel.{Panel}
use Rattle.panel.specs.declared.refusal.OfferRefusal.{OfferRefusal}
use Rattle.client.specs.Day.{handed_sheet}

-- what two calls one after the other leave of the tables
module _ {M N S T U : Type 0} {p : Panel M N S} {q : Panel M N T} {r : Panel M N U} where
  pub rest_kept : SameRest p q → SameRest q r → SameRest p r
  rest_kept a b = record {
    first = b.first ∙ a.first;
    second = b.second ∙ a.second;
    nb = b.nb ∙ a.nb;
    nl = b.nl ∙ a.nl;
    buses = subst (λ n. drop n r.buses.now ≡ drop n q.buses.now) a.nb b.buses ∙ a.buses;
    branches = subst (λ n. drop n r.branches.now ≡ drop n q.branches.now) a.nl b.branches ∙ a.branches;
    spare_powers = b.spare_powers ∙ a.spare_powers;
    spare_angles = b.spare_angles ∙ a.spare_angles;
  }

-- an offered dispatch leaves them too, whatever becomes of it
pub offer_leaves_rest : {M N S T : Type 0} {p : Panel M N S} {q : Panel M N T} (r : Result Outcome OfferRefusal) → DispatchTables p q r → SameRest p q
offer_leaves_rest (Ok (Held g)) h = h
offer_leaves_rest (Ok (Passed g)) h = h.rest
offer_leaves_rest (Err e) h = h.rest

-- an offer leaves the case
module _ {m : Model} where
  offered_case : {s t : State m} {o : Offer m} {k : Heading} → Offered s o k t → t.case ≡ s.case
  offered_case (dispatch_held x y) = refl
  offered_case (dispatch_passed x y) = refl
  offered_case (dispatch_declined x) = refl
  offered_case dispatch_faulty = refl
  offered_case (prices_held x y) = refl
  offered_case (prices_passed x y) = refl
  offered_case (prices_declined x) = refl
  offered_case prices_faulty = refl

  pub offer_leaves_case : {s t : State m} {o : Offer m} → Step (offer o) s t → t.case ≡ s.case
  offer_leaves_case (offer_counted e f x) = offered_case x
  offer_leaves_case (offer_too_many e f) = refl

module _ {M N : Type 0} (𝓜 : Meaning M) (𝓝 : Meaning N) (w : List ℕ) (s t : State (network 𝓜 𝓝)) where
  -- words that name an attendant end a watch, whose sheet is answered; words that name none end none
  pub sheet_handed : (r : Result page.Sheet WordFault) → HandedOver 𝓜 𝓝 w s t r → (says : Option ℕ) → SaysAttendant w says → handed_sheet r ≡ sheets_of (hand_over says) s
  sheet_handed (Ok x) h (Some a) said = sym h.sheet
  sheet_handed (Ok x) h None said = absurd (said (h.attendant, h.said.0, h.said.1))
  sheet_handed (Err f) h (Some a) said = absurd (says_none_hand_over w f h.refused (a, said.0, said.1))
  sheet_handed (Err f) h None said = refl
