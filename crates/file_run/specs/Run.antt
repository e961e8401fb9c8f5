-- The run of a file: what is printed for its bytes.
use Rattle.std.specs.Prelude.{◌≡◌, ℕ, ◌⊎◌, List, [], ◌∷◌, ◌++◌, length, take, All}
use Rattle.std.specs.List.{flat_map}
use Rattle.machine.specs.Meaning.{Meaning}
use Rattle.stepped.specs.Piecewise.{stepped_meaning}
use Rattle.stepped.specs.declared.stepped.Stepped.{Stepped}
use Rattle.curved.specs.Quadratic.{curved_meaning}
use Rattle.curved.specs.declared.curved.Curved.{Curved}
use Rattle.case_paper.specs.Fault.{case_number, case_place}
use Rattle.case_paper.specs.declared.fault.CaseFault.{CaseFault}
use Rattle.case_tables.specs.Read.{Tables, CaseRead, Unread, held_case}
use Rattle.build.specs.declared.tables.LaidCase.{LaidCase}
use Rattle.paper_file.specs.Words.{words_in}
use Rattle.paper_file.specs.Papers.{papers}
use Rattle.sheet.specs.declared.sheet.Sheet as page
use Rattle.standing.specs.Call.{History}
use Rattle.standing.specs.Call.Call.{man, stand_down}
use Rattle.standing.specs.Panel.{State, Sheet, new_panel, watched_by}
use Rattle.standing.specs.Run.{Run}
use Rattle.standing.specs.Standing.{Stands}
use Rattle.panel_model.specs.Network.{network, SizedCase, WellSized}
use Rattle.panel.specs.Questions.{StoodDown}
use Rattle.panel.specs.View.{sheet_told}
use Rattle.answer.specs.Laws.{AnswerFits}
use Rattle.answer.specs.Printed.{printed}
use Rattle.answer.specs.declared.answer.Answer.{Answer}
use Rattle.answer.specs.declared.answer.Answer.TheVariants as answer
use Rattle.file_run.specs.Answers.{refused}
use Rattle.file_run.specs.Papers.{PapersRun}

-- ---- a panel, from its case to the end of the file
module _ {M N : Type 0} (𝓜 : Meaning M) (𝓝 : Meaning N) where
  -- Attendant 1 mans a new panel of the case, the papers make their calls, and at the end the attendant stands down.
  pub record PanelRun (start : SizedCase M N) (ps : List (List ℕ)) (answers : List Answer) : Type 0 where
    pub sized : WellSized 𝓜 𝓝 start
    -- the papers, from the manned panel on
    pub calls : History (network 𝓜 𝓝)
    pub sheets : List Sheet
    pub manned : State (network 𝓜 𝓝)
    pub answered : List Answer
    pub papers_run : PapersRun 𝓜 𝓝 (watched_by 1 (new_panel start)) ps calls sheets manned answered
    -- standing down
    pub idle : State (network 𝓜 𝓝)
    pub last_sheet : page.Sheet
    pub stood_down : StoodDown 𝓜 𝓝 manned idle last_sheet
    pub all_answers : answers ≡ answered ++ (answer.Sheet last_sheet ∷ [])
    -- all these calls are a run, which has written the sheets that are printed, and what the panel shows then stands
    pub run : Run (network 𝓜 𝓝) start (stand_down ∷ (calls ++ (man 1 ∷ []))) (sheet_told last_sheet ∷ sheets) idle
    pub stands : Stands (network 𝓜 𝓝) start (stand_down ∷ (calls ++ (man 1 ∷ []))) (sheet_told last_sheet ∷ sheets) idle

-- ---- the papers of a file
-- the tables of a case have rows for the largest
pub record HasRoom (t : Tables) : Type 0 where
  pub buses : length t.buses ≡ 100
  pub stepped : length t.stepped ≡ 30
  pub first : length t.first ≡ 30
  pub curved : length t.curved ≡ 30
  pub second : length t.second ≡ 30
  pub branches : length t.branches ≡ 200

-- the paper is refused as a case, which is all that is answered
pub record CaseRefused (p : List ℕ) (answers : List Answer) : Type 0 where
  pub tables : Tables
  pub room : HasRoom tables
  pub fault : CaseFault
  pub unread : Unread p tables fault
  pub all_answers : answers ≡ refused (case_number fault) (case_place fault) ∷ []

-- the paper is a case, and the papers after it are brought to a panel of that case
pub record CaseTaken (p : List ℕ) (later : List (List ℕ)) (answers : List Answer) : Type 0 where
  pub tables : Tables
  pub room : HasRoom tables
  -- the case that the words say, read into the tables
  pub after : Tables
  pub read : LaidCase
  pub said : CaseRead p tables after read
  pub start : SizedCase Stepped Curved
  pub case : start.case ≡ held_case read after
  pub answered : List Answer
  pub panel_run : PanelRun stepped_meaning curved_meaning start later answered
  pub all_answers : answers ≡ answer.Case ∷ answered

abbrev pub CaseFirst : List ℕ → List (List ℕ) → List Answer → Type 0
CaseFirst p later answers = CaseRefused p answers ⊎ CaseTaken p later answers

-- the first paper is read as a case; where there is none, no words are
abbrev pub FileAnswered : List (List ℕ) → List Answer → Type 0
FileAnswered [] answers = CaseFirst [] [] answers
FileAnswered (p ∷ later) answers = CaseFirst p later answers

-- the text is the lines of what the papers among the first 65,536 bytes are answered
pub record FileRun (bytes text : List ℕ) : Type 0 where
  pub answers : List Answer
  pub answered : FileAnswered (papers (words_in (take 65536 bytes))) answers
  -- each number of an answer lies in the range of its type
  pub fits : All AnswerFits answers
  pub lines : text ≡ flat_map printed answers
  -- the text tells the answers: no others whose numbers lie in those ranges have these lines
  pub only : (others : List Answer) → All AnswerFits others → text ≡ flat_map printed others → others ≡ answers
