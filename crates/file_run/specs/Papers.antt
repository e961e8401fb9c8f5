-- Papers that are brought to a manned panel one after another, and what is printed of them.
use Rattle.std.specs.Prelude.{◌≡◌, ℕ, List, [], ◌∷◌, ◌++◌, All}
use Rattle.std.specs.List.{flat_map}
use Rattle.machine.specs.Meaning.{Meaning}
use Rattle.standing.specs.Call.{Call, History}
use Rattle.standing.specs.Panel.{State, Sheet}
use Rattle.panel_model.specs.Network.{network}
use Rattle.answer.specs.Laws.{AnswerFits}
use Rattle.answer.specs.Printed.{printed}
use Rattle.answer.specs.declared.answer.Answer.{Answer}
use Rattle.file_run.specs.Answers.{sheet_in}
use Rattle.file_run.specs.Called.{Called}

module _ {M N : Type 0} (𝓜 : Meaning M) (𝓝 : Meaning N) (s : State (network 𝓜 𝓝)) where
  -- These papers and answers, in their order, and the calls that the papers make and the sheets that they write, the newest first:
  -- one paper after another leads from s to the state at the end.
  pub data PapersRun : List (List ℕ) → History (network 𝓜 𝓝) → List Sheet → State (network 𝓜 𝓝) → List Answer → Type 0 where
    none : PapersRun [] [] [] s []
    next :
        {ps : List (List ℕ)} {h : History (network 𝓜 𝓝)} {sheets : List Sheet} {t : State (network 𝓜 𝓝)} {answers : List Answer}
        {p : List ℕ} {c : Call (network 𝓜 𝓝)} {u : State (network 𝓜 𝓝)} {a : Answer} →
        PapersRun ps h sheets t answers → Called 𝓜 𝓝 p t u c a →
        PapersRun (ps ++ (p ∷ [])) (c ∷ h) (sheet_in a ++ sheets) u (answers ++ (a ∷ []))

  -- the papers lead to the state t, and are answered so
  pub record PapersAnswered (ps : List (List ℕ)) (t : State (network 𝓜 𝓝)) (answers : List Answer) : Type 0 where
    pub calls : History (network 𝓜 𝓝)
    pub sheets : List Sheet
    pub run : PapersRun ps calls sheets t answers

-- the text goes on with the lines of some answers, of which `Such` holds
pub record Printed (Such : List Answer → Type 0) (before after : List ℕ) : Type 0 where
  pub answers : List Answer
  pub such : Such answers
  -- each number of an answer lies in the range of its type
  pub fits : All AnswerFits answers
  pub lines : after ≡ before ++ flat_map printed answers
