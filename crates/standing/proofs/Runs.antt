-- A run goes on by what a call's contract says.
use Rattle.std.proofs.Common.{◌≡◌, List, ◌∷◌, ◌++◌, sym, subst}
use Rattle.standing.specs.Model.{Model}
use Rattle.standing.specs.Call.{Call, History}
use Rattle.standing.specs.Panel.{State, Sheet}
use Rattle.standing.specs.Step.{Step, sheets_of}
use Rattle.standing.specs.Run.{Run}
use Rattle.standing.specs.Run.Run.{called}

pub goes_on :
    {m : Model} {start : m.Case} {h : History m} {sheets : List Sheet} {c : Call m} {s t : State m} → Run m start h sheets s → Step c s t →
    (written : List Sheet) → written ≡ sheets_of c s → Run m start (c ∷ h) (written ++ sheets) t
goes_on {m} {start} {h} {sheets} {c} {s} {t} r x written e = subst (λ y. Run m start (c ∷ h) (y ++ sheets) t) (sym e) (called r x)
