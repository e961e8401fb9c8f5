-- A paper makes a call, by what the panel says of it.
use Rattle.std.proofs.Common.{◌≡◌, ℕ, List, [], Some, None, Option, Ok, Err, Result, sym, refl, ap, ◌∙◌, subst}
use Rattle.measure.specs.declared.Grains.{Grains}
use Rattle.machine.specs.Meaning.{Meaning}
use Rattle.word.specs.declared.fault.WordFault.{WordFault}
use Rattle.paper.specs.Change.{DemandForm, MarkForm}
use Rattle.paper_file.specs.Calls.{call_for}
use Rattle.paper_file.specs.declared.call.Call as file
use Rattle.paper_file.specs.declared.call.Call.TheVariants.{Dispatch, Prices, Demand, Mark, HandOver}
use Rattle.sheet.specs.declared.sheet.Sheet as page
use Rattle.standing.specs.Call.{Call}
use Rattle.standing.specs.Call.Call.{offer, change, hand_over}
use Rattle.standing.specs.Call.Offer.{dispatch, prices}
use Rattle.standing.specs.Panel.{State}
use Rattle.standing.specs.Step.{Step, sheets_of}
use Rattle.panel_model.specs.Network.{network}
use Rattle.panel_model.specs.Says.{SaysDemand, SaysMark, SaysAttendant}
use Rattle.panel_model.proofs.Faults.{says_none_hand_over}
use Rattle.panel.specs.Calls.{DispatchOffered, PricesOffered, ChangeOffered}
use Rattle.panel.specs.Questions.{HandedOver}
use Rattle.panel.specs.Standing.{DispatchStep, PricesStep, ChangeStep, HandOverStep}
use Rattle.panel.specs.declared.outcome.Outcome.{Outcome}
use Rattle.panel.specs.declared.outcome.Outcome.TheVariants.{Held, Passed}
use Rattle.panel.specs.declared.refusal.OfferRefusal.{OfferRefusal}
use Rattle.panel.specs.declared.refusal.PaperRefusal.{PaperRefusal}
use Rattle.answer.specs.declared.answer.Answer.{Answer}
use Rattle.file_run.specs.Answers.{offer_answer, change_answer, trial_answer, hand_over_answer, sheet_in}
use Rattle.file_run.specs.Called.{CalledBy, CalledSo}

-- ---- no sheet but that of a hand-over
no_sheet_offer : (r : Result Outcome OfferRefusal) → [] ≡ sheet_in (offer_answer r)
no_sheet_offer (Ok (Held g)) = refl
no_sheet_offer (Ok (Passed g)) = refl
no_sheet_offer (Err e) = refl

no_sheet_change : {A : Type 0} (r : Result A OfferRefusal) → [] ≡ sheet_in (change_answer r)
no_sheet_change (Ok x) = refl
no_sheet_change (Err e) = refl

no_sheet_trial : (r : Result Grains PaperRefusal) → [] ≡ sheet_in (trial_answer r)
no_sheet_trial (Ok g) = refl
no_sheet_trial (Err e) = refl

module _ {M N : Type 0} (𝓜 : Meaning M) (𝓝 : Meaning N) (w : List ℕ) (s t : State (network 𝓜 𝓝)) where
  -- words that name an attendant end a watch, whose sheet is answered; words that name none end none
  sheet_of_hand_over : (r : Result page.Sheet WordFault) → HandedOver 𝓜 𝓝 w s t r → (says : Option ℕ) → SaysAttendant w says → sheets_of (hand_over says) s ≡ sheet_in (hand_over_answer r)
  sheet_of_hand_over (Ok x) h (Some a) said = h.sheet
  sheet_of_hand_over (Ok x) h None said = absurd (said (h.attendant, h.said.0, h.said.1))
  sheet_of_hand_over (Err f) h (Some a) said = absurd (says_none_hand_over w f h.refused (a, said.0, said.1))
  sheet_of_hand_over (Err f) h None said = refl

  -- ---- by the call that the paper goes to
  came_by : (k : file.Call) (c : Call (network 𝓜 𝓝)) (a : Answer) → k ≡ call_for w → CalledBy 𝓜 𝓝 w s t c a k → Step c s t → sheets_of c s ≡ sheet_in a → CalledSo 𝓜 𝓝 w s t a
  came_by k c a e came step sheet = (c, record { came = subst (CalledBy 𝓜 𝓝 w s t c a) e came; step = step; sheet = sheet })

  module _ (a : Answer) where
    pub dispatch_called : (r : Result Outcome OfferRefusal) → Dispatch ≡ call_for w → DispatchOffered 𝓜 𝓝 w s t r → DispatchStep 𝓜 𝓝 w s t → a ≡ offer_answer r → CalledSo 𝓜 𝓝 w s t a
    dispatch_called r e o m q =
        came_by Dispatch (offer (dispatch m.says)) a e (record { outcome = r; offered = o; made = m; call = refl; answered = q }) m.step (no_sheet_offer r ∙ ap sheet_in (sym q))

    pub prices_called : (r : Result Outcome OfferRefusal) → Prices ≡ call_for w → PricesOffered 𝓜 𝓝 w s t r → PricesStep 𝓜 𝓝 w s t → a ≡ offer_answer r → CalledSo 𝓜 𝓝 w s t a
    prices_called r e o m q =
        came_by Prices (offer (prices m.says)) a e (record { outcome = r; offered = o; made = m; call = refl; answered = q }) m.step (no_sheet_offer r ∙ ap sheet_in (sym q))

    pub demand_called : (r : Result (Unit {0}) OfferRefusal) → Demand ≡ call_for w → ChangeOffered 𝓜 𝓝 w s t DemandForm SaysDemand r → ChangeStep 𝓜 𝓝 SaysDemand w s t → a ≡ change_answer r → CalledSo 𝓜 𝓝 w s t a
    demand_called r e o m q =
        came_by Demand (change m.says) a e (record { outcome = r; offered = o; made = m; call = refl; answered = q }) m.step (no_sheet_change r ∙ ap sheet_in (sym q))

    pub mark_called : (r : Result (Unit {0}) OfferRefusal) → Mark ≡ call_for w → ChangeOffered 𝓜 𝓝 w s t MarkForm SaysMark r → ChangeStep 𝓜 𝓝 SaysMark w s t → a ≡ change_answer r → CalledSo 𝓜 𝓝 w s t a
    mark_called r e o m q =
        came_by Mark (change m.says) a e (record { outcome = r; offered = o; made = m; call = refl; answered = q }) m.step (no_sheet_change r ∙ ap sheet_in (sym q))

    pub hand_over_called : (r : Result page.Sheet WordFault) → HandOver ≡ call_for w → HandedOver 𝓜 𝓝 w s t r → HandOverStep 𝓜 𝓝 w s t → a ≡ hand_over_answer r → CalledSo 𝓜 𝓝 w s t a
    hand_over_called r e o m q =
        came_by HandOver (hand_over m.says) a e (record { outcome = r; handed = o; made = m; call = refl; answered = q }) m.step (sheet_of_hand_over r o m.says m.said ∙ ap sheet_in (sym q))
