-- A new panel begins a run of calls.
use Rattle.std.proofs.Common.{◌≡◌, ◌+◌, [], length, sym, subst}
use Rattle.machine.specs.Meaning.{Meaning}
use Rattle.build.specs.Build.{WellFormed}
use Rattle.standing.specs.Panel.{State, new_panel}
use Rattle.standing.specs.Run.{Run}
use Rattle.standing.specs.Run.Run.{new}
use Rattle.panel_model.specs.Network.{network, WellSized}
use Rattle.panel.specs.View.{case_on, sized_case, idle}
use Rattle.panel.specs.Opening.{Begins}
use Rattle.panel.specs.declared.panel.Panel.{Panel}
use Rattle.panel.specs.declared.watch.Idle.{Idle}

-- a well-formed case, with as many places for powers and angles as a dispatch for it has, begins a run on a panel that shows nothing
pub begins :
    {M N : Type 0} (𝓜 : Meaning M) (𝓝 : Meaning N) (p : Panel M N Idle) → WellFormed 𝓜 𝓝 (case_on p) →
    length p.powers.now ≡ length (case_on p).first.machines + length (case_on p).second.machines →
    length p.angles.now + 1 ≡ length (case_on p).buses → idle 𝓜 𝓝 p ≡ new_panel (sized_case p) → Begins 𝓜 𝓝 p
begins 𝓜 𝓝 p formed powers angles shows =
    let sized : WellSized 𝓜 𝓝 (sized_case p) = record { formed = formed; powers = powers; angles = angles } in
    let R : State (network 𝓜 𝓝) → Type 0 = λ s. Run (network 𝓜 𝓝) (sized_case p) [] [] s in
    record { sized = sized; new = shows; run = subst R (sym shows) (new sized) }
