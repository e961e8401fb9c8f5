-- The paper of a dispatch.
use Rattle.std.specs.Prelude.{◌≡◌, ℕ, ◌+◌, take, drop, List, [], ◌∷◌, ◌++◌, map, length, ℤ}
use Rattle.std.specs.List.{AllByRecursion}
use Rattle.word.specs.Word.{word_of, amount_word}
use Rattle.word.specs.Form.{Form}
use Rattle.word.specs.Column.{Gives}
use Rattle.word.specs.declared.kind.Kind.TheVariants as kind
use Rattle.paper.specs.Range.{Power, Angle}
use Rattle.word.specs.declared.column.WordColumn.{WordColumn}
use Rattle.network.specs.declared.dispatch.Dispatch as view

-- the powers of both groups, and the angle of every bus but the first
pub record Dispatch : Type 0 where
  pub powers : List ℤ
  pub angles : List ℤ

-- head, powers, angles, end
abbrev pub dispatch_words : Dispatch → List ℕ
dispatch_words d =
    word_of kind.Head 2 ∷ (map amount_word d.powers ++ (map amount_word d.angles ++ (word_of kind.End 0 ∷ [])))

-- each number is in the range of its measure
pub record InUnits (d : Dispatch) : Type 0 where
  pub powers : AllByRecursion Power d.powers
  pub angles : AllByRecursion Angle d.angles

-- a dispatch of so many powers and angles
pub record LawfulDispatch (n m : ℕ) (d : Dispatch) : Type 0 where
  pub machines : length d.powers ≡ n
  pub buses : length d.angles ≡ m
  pub units : InUnits d

abbrev pub DispatchForm : ℕ → ℕ → Form
DispatchForm n m w = (d : Dispatch) × LawfulDispatch n m d × (w ≡ dispatch_words d)

-- the words are those of a lawful dispatch, of which the first n powers are the first group's and the k others the second's; and the columns that
-- are read give its numbers
pub record ReadsDispatch (n k m : ℕ) (w : List ℕ) (d : view.Dispatch WordColumn) : Type 0 where
  pub dispatch : Dispatch
  pub lawful : LawfulDispatch (n + k) m dispatch
  pub words : w ≡ dispatch_words dispatch
  pub first : Gives d.first.column (take n dispatch.powers)
  pub second : Gives d.second.column (drop n dispatch.powers)
  pub angles : Gives d.angles.column dispatch.angles
