-- What is printed of an answer: lines, each ended by byte 10.
use Rattle.std.specs.Prelude.{ℕ, List, [], ◌∷◌, pos, Some, codes}
use Rattle.sheet.specs.Figure.{line_of}
use Rattle.sheet.specs.Lines.{lines_of, ended}
use Rattle.answer.specs.declared.answer.Answer.{Answer}
use Rattle.answer.specs.declared.answer.Answer.TheVariants.{Case, Held, Passed, Changed, Trial, Refused, Sheet}

-- the lines, without what ends them: a word, and the figures after it; those of a sheet are its own
abbrev pub answer_lines : Answer → List (List ℕ)
answer_lines Case = codes "CASE" ∷ []
answer_lines (Held cost) = line_of (codes "HELD") (Some cost.0) ∷ []
answer_lines (Passed cost) = line_of (codes "PASSED") (Some cost.0) ∷ []
answer_lines Changed = codes "CHANGED" ∷ []
answer_lines (Trial floor) = line_of (codes "TRIAL") (Some floor.0) ∷ []
answer_lines (Refused shown) = line_of (line_of (codes "REFUSED") (Some (pos shown.number))) (Some (pos shown.place)) ∷ []
answer_lines (Sheet sheet) = lines_of sheet

abbrev pub printed : Answer → List ℕ
printed answer = ended (answer_lines answer)
