use Rattle.panel_model.proofs.RowsTold.{changes_told}
use Rattle.panel_model.proofs.laws.changes_told.Goals as goal

pub returns : goal.returns
returns g c = changes_told
