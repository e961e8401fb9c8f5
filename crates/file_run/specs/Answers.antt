-- What is answered, by what each call came to.
use Rattle.std.specs.Prelude.{ℕ, List, [], ◌∷◌, Ok, Err, Result}
use Rattle.measure.specs.declared.Grains.{Grains}
use Rattle.word.specs.Fault.{refusal_number}
use Rattle.word.specs.declared.fault.WordFault.{WordFault}
use Rattle.sheet.specs.declared.sheet.Sheet as page
use Rattle.standing.specs.Panel.{Sheet}
use Rattle.panel.specs.Refusals.{paper_number, paper_place, offer_number, offer_place}
use Rattle.panel.specs.View.{sheet_told}
use Rattle.panel.specs.declared.outcome.Outcome.{Outcome}
use Rattle.panel.specs.declared.outcome.Outcome.TheVariants.{Held, Passed}
use Rattle.panel.specs.declared.refusal.OfferRefusal.{OfferRefusal}
use Rattle.panel.specs.declared.refusal.PaperRefusal.{PaperRefusal}
use Rattle.answer.specs.declared.answer.Answer.{Answer}
use Rattle.answer.specs.declared.answer.Answer.TheVariants as answer

-- a refusal, by its number and its place
abbrev pub refused : ℕ → ℕ → Answer
refused number place = answer.Refused (record { number = number; place = place })

-- an offer: its cost or its floor
abbrev pub offer_answer : Result Outcome OfferRefusal → Answer
offer_answer (Ok (Held figure)) = answer.Held figure
offer_answer (Ok (Passed figure)) = answer.Passed figure
offer_answer (Err e) = refused (offer_number e) (offer_place e)

abbrev pub change_answer : {A : Type 0} → Result A OfferRefusal → Answer
change_answer (Ok x) = answer.Changed
change_answer (Err e) = refused (offer_number e) (offer_place e)

-- a trial: its floor
abbrev pub trial_answer : Result Grains PaperRefusal → Answer
trial_answer (Ok floor) = answer.Trial floor
trial_answer (Err e) = refused (paper_number e) (paper_place e)

-- a hand-over: the sheet of the watch that ended
abbrev pub hand_over_answer : Result page.Sheet WordFault → Answer
hand_over_answer (Ok sheet) = answer.Sheet sheet
hand_over_answer (Err f) = refused (refusal_number f.refusal) f.place

-- the sheet that is printed of an answer, if it is one
abbrev pub sheet_in : Answer → List Sheet
sheet_in answer.Case = []
sheet_in (answer.Held figure) = []
sheet_in (answer.Passed figure) = []
sheet_in answer.Changed = []
sheet_in (answer.Trial floor) = []
sheet_in (answer.Refused shown) = []
sheet_in (answer.Sheet sheet) = sheet_told sheet ∷ []
