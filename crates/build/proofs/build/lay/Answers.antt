use Rattle.std.proofs.Common.{rules}
use Rattle.build.proofs.Forming.{well_formed}
use Rattle.build.specs.Build.{Laid, lent}
use Rattle.build.proofs.build.lay.Goals as goal

pub returns-clause-formed : goal.returns-clause-formed
returns-clause-formed g c =
    let 𝓜 = g.M.Machine.meaning in
    let 𝓝 = g.N.Machine.meaning in
    let o = c.args.rows.now in
    let before = lent c.args.buses.now c.args.first.now c.args.second.now c.args.branches.now in
    let after = lent c.fill_buses.new.table c.fill_places.new.table c.fill_places-2.new.table c.fill_branches.new.table in
    let done : Laid 𝓜 𝓝 o before after c.in_ok-tested.tested.laid = search rules in
    well_formed 𝓜 𝓝 o before after c.in_ok-tested.tested.laid done
