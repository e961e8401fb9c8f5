-- What the standing of a panel of the DC model rests on.
use Rattle.machine.specs.Meaning.{Meaning, Keeps}
use Rattle.network.proofs.Duality.{floor_stands}
use Rattle.network.proofs.Counted.{counted-covers}
use Rattle.standing.specs.Model.{Grounds}
use Rattle.panel_model.specs.Network.{network, by_rows, list_by_rows}
use Rattle.panel_model.proofs.Changes.{changed_sized}

pub grounds : {M N : Type 0} (𝓜 : Meaning M) (𝓝 : Meaning N) → Keeps 𝓜 → Keeps 𝓝 → Grounds (network 𝓜 𝓝)
grounds 𝓜 𝓝 k l = record {
  stays = λ c w x d e. changed_sized 𝓜 𝓝 c w x d e;
  covers = λ c w d m. counted-covers 𝓜 𝓝 k l c.case (by_rows c.case d) m.in_fractions;
  bounds = λ c w p q r m. floor_stands 𝓜 𝓝 k l c.case (list_by_rows p) r q.counts m;
}
