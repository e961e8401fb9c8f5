use Rattle.std.proofs.Common.{rules}
use Rattle.std.proofs.lemmas.Result.{err_from_is_err_and}
use Rattle.build.specs.Offer.{RangesKept, NamesKept, Accepted}
use Rattle.build.proofs.Known.{unknown_refused, found_known}
use Rattle.build.proofs.check.check.Goals as goal

pub returns-in_err-places : goal.returns-in_err-places
returns-in_err-places g c =
    let o = c.args.rows.now in
    let p = err_from_is_err_and c.from_residual-in_err-places.result c.from_residual-in_err-places.ensures.1 in
    let ranges : RangesKept o = search rules in
    let names : NamesKept o = search rules in
    rw (p.1, p.2)
    (unknown_refused g.M.Machine.meaning g.N.Machine.meaning o c.args.room.now _ ranges c.in_ok-check_limits.ensures c.in_ok-laid.ensures.0 names c.in_err-places.ensures)

pub returns : goal.returns
returns g c =
    let 𝓜 = g.M.Machine.meaning in
    let 𝓝 = g.N.Machine.meaning in
    let o = c.args.rows.now in
    let ranges : RangesKept o = search rules in
    let names : NamesKept o = search rules in
    let known = found_known 𝓜 𝓝 o c.in_ok-places.places c.in_ok-places.ensures in
    let accepted : Accepted 𝓜 𝓝 o c.args.room.now = record {
      ranges = ranges;
      uncrossed = c.in_ok-check_limits.ensures;
      sizes = c.in_ok-laid.ensures.0;
      names = names;
      known = known;
    } in
    (accepted, c.in_ok-laid.ensures.1, c.in_ok-laid.ensures.2, c.in_ok-places.ensures)
