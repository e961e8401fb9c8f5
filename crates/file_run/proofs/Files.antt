-- What the papers of a file are answered, by what becomes of the first.
use Rattle.std.proofs.Common.{◌≡◌, ℕ, List, [], ◌∷◌, ◌++◌, take, drop, sym, refl, ap, ◌∙◌, subst, inl, inr, append_assoc, append-nil, arith}
use Rattle.std.proofs.Math.Seq.{take-nil, drop-nil}
use Rattle.std.proofs.lemmas.List.Elements.{All-nil, All-cons}
use Rattle.std.specs.List.{flat_map}
use Rattle.stepped.specs.Piecewise.{stepped_meaning}
use Rattle.stepped.specs.declared.stepped.Stepped.{Stepped}
use Rattle.curved.specs.Quadratic.{curved_meaning}
use Rattle.curved.specs.declared.curved.Curved.{Curved}
use Rattle.case_paper.specs.Fault.{case_number, case_place}
use Rattle.case_paper.specs.declared.fault.CaseFault.{CaseFault}
use Rattle.case_tables.specs.Read.{Tables, Unread}
use Rattle.paper_file.specs.Papers.{papers, FirstPaper}
use Rattle.paper_file.specs.Words.{words_in}
use Rattle.panel.specs.Opening.{PaperOpened}
use Rattle.panel.specs.View.{sized_case}
use Rattle.panel.specs.declared.panel.Panel.{Panel}
use Rattle.panel.specs.declared.watch.Idle.{Idle}
use Rattle.answer.proofs.Tellings.{printed-tells}
use Rattle.answer.specs.Laws.{AnswerFits}
use Rattle.answer.specs.Printed.{printed}
use Rattle.answer.specs.declared.answer.Answer.{Answer}
use Rattle.answer.specs.declared.answer.Answer.TheVariants as answer
use Rattle.file_run.specs.Answers.{refused}
use Rattle.file_run.specs.Papers.{Printed}
use Rattle.file_run.specs.Run.{PanelRun, HasRoom, CaseFirst, FileAnswered, FileRun}

-- where there are no words, the first paper has none either, and there is no later one
first_then : (words : List ℕ) (n : ℕ) (paper later : List ℕ) (answers : List Answer) → FirstPaper words n → paper ≡ take n words → later ≡ drop n words → CaseFirst paper (papers later) answers → FileAnswered (papers words) answers
first_then [] n paper later answers first p q h =
    let none : CaseFirst [] (papers later) answers = subst (λ (x : List ℕ). CaseFirst x (papers later) answers) (p ∙ take-nil n) h in
    subst (λ (x : List ℕ). CaseFirst [] (papers x) answers) (q ∙ drop-nil n) none
first_then (x ∷ xs) n paper later answers first p q h =
    let cut : papers (x ∷ xs) ≡ paper ∷ papers later = first.first (omega arith) ∙ (λ i. sym p i ∷ papers (sym q i)) in
    subst (λ (ps : List (List ℕ)). FileAnswered ps answers) (sym cut) h

module _ (words : List ℕ) (n : ℕ) (paper later : List ℕ) (first : FirstPaper words n) (p : paper ≡ take n words) (q : later ≡ drop n words) (before : List ℕ) (tables : Tables) (room : HasRoom tables) where
  pub case_refused : (after : List ℕ) (f : CaseFault) → Unread paper tables f → AnswerFits (refused (case_number f) (case_place f)) → after ≡ before ++ printed (refused (case_number f) (case_place f)) → Printed (FileAnswered (papers words)) before after
  case_refused after f u fit e = record {
    answers = refused (case_number f) (case_place f) ∷ [];
    such = first_then words n paper later _ first p q (inl (record { tables = tables; room = room; fault = f; unread = u; all_answers = refl }));
    fits = All-cons AnswerFits (refused (case_number f) (case_place f)) [] fit (All-nil AnswerFits);
    lines = e ∙ ap (λ z. before ++ z) (sym (append-nil _));
  }

  pub case_taken :
      (middle after : List ℕ) (d : Panel Stepped Curved Idle) → PaperOpened paper tables d → middle ≡ before ++ printed answer.Case →
      Printed (PanelRun stepped_meaning curved_meaning (sized_case d) (papers later)) middle after → Printed (FileAnswered (papers words)) before after
  case_taken middle after d o e r = record {
    answers = answer.Case ∷ r.answers;
    such =
        first_then words n paper later _ first p q
        (inr (record { tables = tables; room = room; after = o.after; read = o.read; said = o.said; start = sized_case d; case = o.case; answered = r.answers; panel_run = r.such; all_answers = refl }));
    fits = All-cons AnswerFits answer.Case r.answers tt r.fits;
    lines = r.lines ∙ ap (λ z. z ++ flat_map printed r.answers) e ∙ append_assoc before (printed answer.Case) (flat_map printed r.answers);
  }

-- a text that begins with nothing has the lines of what the papers of a file are answered, and of no other answers
pub file_ran : (bytes words before text : List ℕ) → words ≡ words_in (take 65536 bytes) → before ≡ [] → Printed (FileAnswered (papers words)) before text → FileRun bytes text
file_ran bytes words before text w b p =
    let lines : text ≡ flat_map printed p.answers = p.lines ∙ ap (λ z. z ++ flat_map printed p.answers) b in
    record {
      answers = p.answers;
      answered = subst (λ (x : List ℕ). FileAnswered (papers x) p.answers) w p.such;
      fits = p.fits;
      lines = lines;
      only = λ others fit e. printed-tells.several others p.answers fit p.fits (sym e ∙ lines);
    }
