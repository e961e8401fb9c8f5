-- A dispatch written out.
use Rattle.std.specs.Prelude.{◌≡◌, ℕ, ◌+◌, List, ◌++◌, length, drop, ℤ}
use Rattle.word.specs.declared.fault.WordRefusal.{WordRefusal}
use Rattle.word.specs.Form.{Refused}
use Rattle.paper.specs.declared.write.WriteRefusal.{WriteRefusal}
use Rattle.paper.specs.declared.write.WriteRefusal.TheVariants.{TooShort}
use Rattle.paper.specs.Dispatch.{Dispatch, dispatch_words, InUnits, LawfulDispatch, DispatchForm}

-- the number and the place of a refusal to write
abbrev pub write_number : WriteRefusal → ℕ
write_number TooShort = 18

abbrev pub write_place : WriteRefusal → ℕ
write_place TooShort = 0

abbrev pub dispatch_of : List ℤ → List ℤ → Dispatch
dispatch_of powers angles = record { powers = powers; angles = angles }

-- the words w of a dispatch in units are read as that dispatch, and no other: of its counts, no lawful dispatch has the same words, and they are not refused
pub record ReadsBack (d : Dispatch) : Type 0 where
  pub lawful : LawfulDispatch (length d.powers) (length d.angles) d
  pub same : (e : Dispatch) → LawfulDispatch (length d.powers) (length d.angles) e → dispatch_words e ≡ dispatch_words d → e ≡ d
  pub taken : (r : WordRefusal) (place : ℕ) → Refused (DispatchForm (length d.powers) (length d.angles)) (dispatch_words d) r place → ⊥

-- n words are written over the list, those of the dispatch; later words stay; and if each number is in its range, they read back the same
pub record Writes (powers angles : List ℤ) (before : List ℕ) (n : ℕ) (after : List ℕ) : Type 0 where
  pub count : n ≡ length powers + length angles + 2
  pub words : after ≡ dispatch_words (dispatch_of powers angles) ++ drop n before
  pub back : InUnits (dispatch_of powers angles) → ReadsBack (dispatch_of powers angles)
