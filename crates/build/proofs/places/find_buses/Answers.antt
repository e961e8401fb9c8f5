use Rattle.std.proofs.Common.{length, rules}
use Rattle.build.specs.Offer.{MachineUnknown, UnknownRow}
use Rattle.std.proofs.lemmas.Result.{err_from_is_err_and}
use Rattle.build.proofs.Known.{machines_known, in_first, in_second, in_branches}
use Rattle.build.proofs.places.find_buses.Goals as goal

pub returns-in_err-find_places : goal.returns-in_err-find_places
returns-in_err-find_places g c =
    let p = err_from_is_err_and c.from_residual.result c.from_residual.ensures.1 in
    rw (p.1, p.2) (in_first g.M.Machine.meaning g.N.Machine.meaning c.args.rows.now _ c.in_err-find_places.ensures)

pub returns-in_err-find_places-2 : goal.returns-in_err-find_places-2
returns-in_err-find_places-2 g c =
    let o = c.args.rows.now in
    let p = err_from_is_err_and c.from_residual-in_err-find_places-2.result c.from_residual-in_err-find_places-2.ensures.1 in
    let first = machines_known g.M.Machine.meaning o.buses.now o.first.now _ c.in_ok-find_places.ensures in
    let second : UnknownRow (length o.first.now) (MachineUnknown g.N.Machine.meaning o.buses.now o.second.now) c.in_err-find_places-2.field-0.0 = search rules in
    rw (p.1, p.2) (in_second g.M.Machine.meaning g.N.Machine.meaning o _ first second)

pub returns-in_err-find_ends : goal.returns-in_err-find_ends
returns-in_err-find_ends g c =
    let o = c.args.rows.now in
    let p = err_from_is_err_and c.from_residual-in_err-find_ends.result c.from_residual-in_err-find_ends.ensures.1 in
    let first = machines_known g.M.Machine.meaning o.buses.now o.first.now _ c.in_ok-find_places.ensures in
    let second = machines_known g.N.Machine.meaning o.buses.now o.second.now _ c.in_ok-find_places-2.ensures in
    rw (p.1, p.2) (in_branches g.M.Machine.meaning g.N.Machine.meaning o _ first second c.in_err-find_ends.ensures)
