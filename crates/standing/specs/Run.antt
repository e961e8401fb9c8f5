-- Runs of calls on one panel.
use Rattle.std.specs.Prelude.{List, [], ◌∷◌, ◌++◌}
use Rattle.standing.specs.Model.{Model}
use Rattle.standing.specs.Call.{Call, History}
use Rattle.standing.specs.Panel.{State, Sheet, new_panel}
use Rattle.standing.specs.Step.{Step, sheets_of}

-- These calls, and no others, have led from a new panel of the case `start` to this state, and have written these sheets, the newest first.
pub data Run (m : Model) (start : m.Case) : History m → List Sheet → State m → Type 0 where
  new : m.WellFormed start → Run m start [] [] (new_panel start)
  called :
      {h : History m} {sheets : List Sheet} {c : Call m} {s t : State m} →
      Run m start h sheets s → Step c s t → Run m start (c ∷ h) (sheets_of c s ++ sheets) t
