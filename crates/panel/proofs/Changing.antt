-- What becomes of words that are offered as a change, by the row that their name finds; and that it is a step of the panel.
use Rattle.std.proofs.Common.{◌≡◌, ℕ, List, Some, None, Option, Ok, Err, Result, sym, refl, ap, ◌∙◌, subst}
use Rattle.measure.specs.Rows.{Lowest}
use Rattle.machine.specs.Meaning.{Meaning}
use Rattle.network.specs.declared.bus.Bus.{Bus}
use Rattle.network.specs.declared.branch.Branch.{Branch}
use Rattle.network.specs.declared.refusal.Refusal.TheVariants.{NotInCase}
use Rattle.pricing.specs.Outage.{marked, NamedRow}
use Rattle.word.specs.Form.{Form}
use Rattle.word.specs.Fault.{RefusedWord}
use Rattle.word.specs.declared.fault.WordFault.{WordFault}
use Rattle.paper.specs.Change.{demand_words, LawfulDemand, DemandForm, mark_words, LawfulMark, MarkForm}
use Rattle.paper.specs.declared.change.DemandChange.{DemandChange}
use Rattle.paper.specs.declared.change.MarkChange.{MarkChange}
use Rattle.standing.specs.Call.Call.{change}
use Rattle.standing.specs.Panel.{Heading, State, with_case}
use Rattle.standing.specs.Panel.Heading.{DECLINED, CHANGES}
use Rattle.standing.specs.Step.{ChangeMade, Step}
use Rattle.standing.specs.Step.ChangeMade.{change_taken, change_declined, change_faulty}
use Rattle.standing.specs.Step.Step.{change_counted, change_too_many}
use Rattle.panel_model.specs.Change.{Change, demanding, with_row, with_buses, with_branches}
use Rattle.panel_model.specs.Change.Change.{demand, mark}
use Rattle.panel_model.specs.Network.{network, in_place}
use Rattle.panel_model.specs.Says.{SaysDemand, SaysMark}
use Rattle.panel_model.proofs.Decided.{SaysSome, said_demand, said_mark}
use Rattle.panel_model.proofs.Faults.{says_none_demand, says_none_mark}
use Rattle.panel_model.specs.Laws.{NamedBus}
use Rattle.panel_model.proofs.Made.{demand_taken, demand_lacking, mark_taken, mark_lacking}
use Rattle.panel.specs.Calls.{Counted, CountedDeclined, ChangeTaken, ChangeOffered, DemandOffered, MarkOffered}
use Rattle.panel.specs.Standing.{ChangeStep}
use Rattle.panel.specs.declared.refusal.PaperRefusal.TheVariants.{Words, Case}
use Rattle.panel.specs.declared.refusal.OfferRefusal.{OfferRefusal}
use Rattle.panel.specs.declared.refusal.OfferRefusal.TheVariants.{Full, Paper}

module _ {M N : Type 0} (𝓜 : Meaning M) (𝓝 : Meaning N) where
  module _ (w : List ℕ) (s t : State (network 𝓜 𝓝)) where
    -- ---- steps
    -- what becomes of a change, counted, is a step
    step_of : (x : Option Change) (k : Heading) (u : State (network 𝓜 𝓝)) → Counted 𝓜 𝓝 s k u t → ChangeMade s x k u → Step (change x) s t
    step_of x k u n c = subst (Step (change x) s) (sym n.after) (change_counted n.manned n.room c)

    -- with a full watch nothing is read, and the words say something or none
    pub change_step : (F : Form) (Says : List ℕ → Option Change → Type 0) → ((f : WordFault) → RefusedWord F w f → Says w None) → SaysSome (Says w) → {A : Type 0} (r : Result A OfferRefusal) → ChangeOffered 𝓜 𝓝 w s t F Says r → ChangeStep 𝓜 𝓝 Says w s t
    change_step F Says none some (Ok a) o =
        record { says = Some o.change; said = o.said; step = step_of (Some o.change) CHANGES (with_case o.case s) o.counted (change_taken o.made) }
    change_step F Says none some (Err Full) o =
        record { says = some.0; said = some.1; step = subst (Step (change some.0) s) (sym o.unchanged) (change_too_many o.manned o.full) }
    change_step F Says none some (Err (Paper (Words f))) o =
        record { says = None; said = none f o.refused; step = step_of None DECLINED s o.counted change_faulty }
    change_step F Says none some (Err (Paper (Case e))) o =
        record { says = Some o.change; said = o.said; step = step_of (Some o.change) DECLINED s o.counted (change_declined o.lacking) }

    pub demand_step : (r : Result (Unit {0}) OfferRefusal) → DemandOffered 𝓜 𝓝 w s t r → ChangeStep 𝓜 𝓝 SaysDemand w s t
    demand_step r = change_step DemandForm SaysDemand (says_none_demand w) (said_demand w) r

    pub mark_step : (r : Result (Unit {0}) OfferRefusal) → MarkOffered 𝓜 𝓝 w s t r → ChangeStep 𝓜 𝓝 SaysMark w s t
    mark_step r = change_step MarkForm SaysMark (says_none_mark w) (said_mark w) r

    -- ---- changes of demand
    module _ (v : DemandChange) (l : LawfulDemand v × (w ≡ demand_words v)) where
      demand_said : SaysDemand w (Some (demand v.bus v.demand l.0.1))
      demand_said = record { paper = v; lawful = l.0; words = l.1; says = refl }

      pub demand_made_at : (i : ℕ) (buses : List Bus) → Lowest (NamedBus s.case.case v.bus) (Some i) → buses ≡ with_row (demanding v.demand l.0.1) s.case.case.buses i → Counted 𝓜 𝓝 s CHANGES (with_case (in_place s.case (with_buses s.case.case buses)) s) t → ChangeTaken 𝓜 𝓝 w s t DemandForm SaysDemand
      demand_made_at i buses o e n =
          record {
            change = demand v.bus v.demand l.0.1;
            said = demand_said;
            case = in_place s.case (with_buses s.case.case buses);
            made = demand_taken 𝓜 𝓝 s.case v.bus v.demand l.0.1 i o ∙ ap (λ (bs : List Bus). Some (in_place s.case (with_buses s.case.case bs))) (sym e);
            counted = n;
          }

      pub no_such_bus : (e : OfferRefusal) → e ≡ Paper (Case NotInCase) → Lowest (NamedBus s.case.case v.bus) None → CountedDeclined 𝓜 𝓝 s t → DemandOffered 𝓜 𝓝 w s t {A = Unit {0}} (Err e)
      no_such_bus e h o n =
          subst (λ (e : OfferRefusal). DemandOffered 𝓜 𝓝 w s t {A = Unit {0}} (Err e)) (sym h)
          (record { is = refl; change = demand v.bus v.demand l.0.1; said = demand_said; lacking = demand_lacking 𝓜 𝓝 s.case v.bus v.demand l.0.1 o; counted = n })

    -- ---- changes of mark
    module _ (v : MarkChange) (l : LawfulMark v × (w ≡ mark_words v)) where
      mark_said : SaysMark w (Some (mark v.branch v.in_service))
      mark_said = record { paper = v; lawful = l.0; words = l.1; says = refl }

      pub mark_made_at : (i : ℕ) (branches : List Branch) → Lowest (NamedRow s.case.case v.branch) (Some i) → branches ≡ with_row (marked v.in_service) s.case.case.branches i → Counted 𝓜 𝓝 s CHANGES (with_case (in_place s.case (with_branches s.case.case branches)) s) t → ChangeTaken 𝓜 𝓝 w s t MarkForm SaysMark
      mark_made_at i branches o e n =
          record {
            change = mark v.branch v.in_service;
            said = mark_said;
            case = in_place s.case (with_branches s.case.case branches);
            made = mark_taken 𝓜 𝓝 s.case v.branch v.in_service i o ∙ ap (λ (bs : List Branch). Some (in_place s.case (with_branches s.case.case bs))) (sym e);
            counted = n;
          }

      pub no_such_branch : (e : OfferRefusal) → e ≡ Paper (Case NotInCase) → Lowest (NamedRow s.case.case v.branch) None → CountedDeclined 𝓜 𝓝 s t → MarkOffered 𝓜 𝓝 w s t {A = Unit {0}} (Err e)
      no_such_branch e h o n =
          subst (λ (e : OfferRefusal). MarkOffered 𝓜 𝓝 w s t {A = Unit {0}} (Err e)) (sym h)
          (record { is = refl; change = mark v.branch v.in_service; said = mark_said; lacking = mark_lacking 𝓜 𝓝 s.case v.branch v.in_service o; counted = n })
