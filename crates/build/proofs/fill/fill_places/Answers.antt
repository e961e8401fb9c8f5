use Rattle.build.specs.Build.{Placed}
use Rattle.build.proofs.Filling.{filled_copied}
use Rattle.build.proofs.fill.fill_places.Goals as goal

pub returns : goal.returns
returns g c buses =
    filled_copied (Placed g.M.Machine.meaning buses) c.args.machines.now c.args.places.now c.args.table.now c.copy_from_slice.new.self
    c.requires.found c.copy_from_slice.ensures.after
