-- What is printed tells the answers.
use Rattle.std.specs.Prelude.{◌≡◌, ◌^◌, ◌<◌, List, All, IfSome, FitsSigned}
use Rattle.std.specs.Int.{w64}
use Rattle.std.specs.List.{flat_map}
use Rattle.measure.specs.declared.Grains.{Grains}
use Rattle.case_paper.specs.declared.shown.Shown.{Shown}
use Rattle.sheet.specs.declared.sheet.Sheet.{Sheet}
use Rattle.answer.specs.Printed.{printed}
use Rattle.answer.specs.declared.answer.Answer.{Answer}
use Rattle.answer.specs.declared.answer.Answer.TheVariants as answer

-- a cost or a floor lies in the range of its type
abbrev pub GrainsFit : Grains → Type 0
GrainsFit g = FitsSigned w64 g.0

-- the number and the place lie in the ranges of their types
pub record ShownFits (s : Shown) : Type 0 where
  pub number : s.number < 2 ^ 32
  pub place : s.place < 2 ^ 64

-- each figure of the sheet lies in the range of its type
pub record SheetFits (s : Sheet) : Type 0 where
  pub attendant : s.attendant < 2 ^ 16
  pub held : s.held < 2 ^ 32
  pub passed : s.passed < 2 ^ 32
  pub declined : s.declined < 2 ^ 32
  pub changes : s.changes < 2 ^ 32
  pub cost : IfSome s.cost GrainsFit
  pub floor : IfSome s.floor GrainsFit

-- each number of the answer lies in the range of its type
abbrev pub AnswerFits : Answer → Type 0
AnswerFits answer.Case = Unit {0}
AnswerFits (answer.Held cost) = GrainsFit cost
AnswerFits (answer.Passed cost) = GrainsFit cost
AnswerFits answer.Changed = Unit {0}
AnswerFits (answer.Trial floor) = GrainsFit floor
AnswerFits (answer.Refused shown) = ShownFits shown
AnswerFits (answer.Sheet sheet) = SheetFits sheet

-- where the same is printed, the answers are the same: of one answer, and of several that are printed one after another
pub record PrintedTells : Type 0 where
  pub one : (a b : Answer) → AnswerFits a → AnswerFits b → printed a ≡ printed b → a ≡ b
  pub several : (xs ys : List Answer) → All AnswerFits xs → All AnswerFits ys → flat_map printed xs ≡ flat_map printed ys → xs ≡ ys
