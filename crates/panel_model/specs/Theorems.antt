-- What holds of panels of the DC model, for two kinds of machine.
use Rattle.machine.specs.Meaning.{Meaning}
use Rattle.standing.specs.Theorems.{StandingTheorem, PinningTheorem, SameCallsTheorem, RefusalsAlterNothing, ReofferedTheorem}
use Rattle.panel_model.specs.Network.{network}

pub record PanelsStand {M N : Type 0} (𝓜 : Meaning M) (𝓝 : Meaning N) : Type 0 where
  -- after any run of calls, what is shown stands
  pub standing : StandingTheorem (network 𝓜 𝓝)
  -- it leaves no choice of figures, and so the calls leave none
  pub pinned : PinningTheorem (network 𝓜 𝓝)
  pub same_calls : SameCallsTheorem (network 𝓜 𝓝)
  -- a refusal raises the one count and alters nothing else; what meets a full watch, and a question, alter nothing
  pub refusals : RefusalsAlterNothing (network 𝓜 𝓝)
  -- the shown dispatch, offered again to the same panel, is passed where the watch is not full
  pub reoffered : ReofferedTheorem (network 𝓜 𝓝)
