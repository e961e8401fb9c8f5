-- One paper that is brought to a manned panel: the call that it goes to, what that does to the panel, and what the paper is answered.
use Rattle.std.specs.Prelude.{◌≡◌, ℕ, List, Option, Result}
use Rattle.measure.specs.declared.Grains.{Grains}
use Rattle.machine.specs.Meaning.{Meaning}
use Rattle.word.specs.Form.{Form}
use Rattle.word.specs.declared.fault.WordFault.{WordFault}
use Rattle.paper.specs.Change.{DemandForm, MarkForm}
use Rattle.paper_file.specs.Calls.{call_for}
use Rattle.paper_file.specs.declared.call.Call as file
use Rattle.paper_file.specs.declared.call.Call.TheVariants.{Dispatch, Prices, Demand, Mark, Trial, HandOver}
use Rattle.sheet.specs.declared.sheet.Sheet as page
use Rattle.standing.specs.Call.{Call}
use Rattle.standing.specs.Call.Call.{offer, change, ask, hand_over}
use Rattle.standing.specs.Call.Offer.{dispatch, prices}
use Rattle.standing.specs.Call.Question.{trial}
use Rattle.standing.specs.Panel.{State}
use Rattle.standing.specs.Step.{Step, sheets_of}
use Rattle.panel_model.specs.Change.{Change}
use Rattle.panel_model.specs.Network.{network}
use Rattle.panel_model.specs.Says.{SaysDemand, SaysMark}
use Rattle.panel.specs.Calls.{DispatchOffered, PricesOffered, ChangeOffered}
use Rattle.panel.specs.Questions.{TrialAnswered, HandedOver}
use Rattle.panel.specs.Standing.{DispatchStep, PricesStep, ChangeStep, HandOverStep}
use Rattle.panel.specs.declared.outcome.Outcome.{Outcome}
use Rattle.panel.specs.declared.refusal.OfferRefusal.{OfferRefusal}
use Rattle.panel.specs.declared.refusal.PaperRefusal.{PaperRefusal}
use Rattle.answer.specs.declared.answer.Answer.{Answer}
use Rattle.file_run.specs.Answers.{offer_answer, change_answer, trial_answer, hand_over_answer, sheet_in}

module _ {M N : Type 0} (𝓜 : Meaning M) (𝓝 : Meaning N) (w : List ℕ) (s t : State (network 𝓜 𝓝)) where
  module _ (c : Call (network 𝓜 𝓝)) (a : Answer) where
    -- the words are offered as a dispatch
    pub record DispatchCalled : Type 0 where
      pub outcome : Result Outcome OfferRefusal
      pub offered : DispatchOffered 𝓜 𝓝 w s t outcome
      pub made : DispatchStep 𝓜 𝓝 w s t
      pub call : c ≡ offer (dispatch made.says)
      pub answered : a ≡ offer_answer outcome

    -- as a price list
    pub record PricesCalled : Type 0 where
      pub outcome : Result Outcome OfferRefusal
      pub offered : PricesOffered 𝓜 𝓝 w s t outcome
      pub made : PricesStep 𝓜 𝓝 w s t
      pub call : c ≡ offer (prices made.says)
      pub answered : a ≡ offer_answer outcome

    -- they are taken as a change of this form
    pub record ChangeCalled (F : Form) (Says : List ℕ → Option Change → Type 0) : Type 0 where
      pub outcome : Result (Unit {0}) OfferRefusal
      pub offered : ChangeOffered 𝓜 𝓝 w s t F Says outcome
      pub made : ChangeStep 𝓜 𝓝 Says w s t
      pub call : c ≡ change made.says
      pub answered : a ≡ change_answer outcome

    -- as a trial, which leaves the panel as it was
    pub record TrialCalled : Type 0 where
      pub outcome : Result Grains PaperRefusal
      pub tried : TrialAnswered 𝓜 𝓝 w s outcome
      pub unchanged : t ≡ s
      pub call : c ≡ ask trial
      pub answered : a ≡ trial_answer outcome

    -- as a hand-over
    pub record HandOverCalled : Type 0 where
      pub outcome : Result page.Sheet WordFault
      pub handed : HandedOver 𝓜 𝓝 w s t outcome
      pub made : HandOverStep 𝓜 𝓝 w s t
      pub call : c ≡ hand_over made.says
      pub answered : a ≡ hand_over_answer outcome

    -- by the call of the file that the paper goes to
    abbrev pub CalledBy : file.Call → Type 0
    CalledBy Dispatch = DispatchCalled
    CalledBy Prices = PricesCalled
    CalledBy Demand = ChangeCalled DemandForm SaysDemand
    CalledBy Mark = ChangeCalled MarkForm SaysMark
    CalledBy Trial = TrialCalled
    CalledBy HandOver = HandOverCalled

    -- the words make the call c, which leads from s to t, and are answered a; the sheet that is printed is the one that the call writes
    pub record Called : Type 0 where
      pub came : CalledBy (call_for w)
      pub step : Step c s t
      pub sheet : sheets_of c s ≡ sheet_in a

  -- they are answered so, for some call
  abbrev pub CalledSo : Answer → Type 0
  CalledSo a = (c : Call (network 𝓜 𝓝)) × Called c a
