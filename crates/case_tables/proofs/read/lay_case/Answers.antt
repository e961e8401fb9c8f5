use Rattle.std.proofs.lemmas.Result.{MatchResult-at_ok, MatchResult-at_err, IfOk-at_ok, err_from_is_err_and}
use Rattle.measure.proofs.Results.{value_told}
use Rattle.stepped.specs.Piecewise.{stepped_meaning}
use Rattle.curved.specs.Quadratic.{curved_meaning}
use Rattle.build.specs.Build.{lent, Laid, NotLaid, WellFormed, laid_case}
use Rattle.case_tables.specs.Read.{tables, laid_in, Reported}
use Rattle.case_tables.proofs.Ranges.{of_names}
use Rattle.case_tables.proofs.Reading.{error_told, not_read, counted_case, offered, first_room, second_room, case_read}
use Rattle.case_tables.proofs.read.lay_case.Goals as goal

pub read_rows-requires : goal.read_rows-requires
read_rows-requires c =
    let t = tables c.args.buses.now c.args.stepped.now c.args.first.now c.args.curved.now c.args.second.now c.args.branches.now in
    let l = c.requires in
    record { counted = counted_case c.args.words.now t l; empty = c.empty-rows.ensures }

pub map_err-requires : goal.map_err-requires
map_err-requires c e is =
    let t = tables c.args.buses.now c.args.stepped.now c.args.first.now c.args.curved.now c.args.second.now c.args.branches.now in
    let l = c.requires in
    let o = offered c.args.words.now t l c.read_rows.new.rows c.read_rows.ensures c.offer-offer.result c.amount-tolerance.result (record { sfits = c.amount-tolerance.type_inv }) c.amount-tolerance.ensures c.offer-offer.ensures in
    of_names c.args.words.now t l c.offer-offer.result o e (MatchResult-at_err _ (NotLaid stepped_meaning curved_meaning c.offer-offer.result (laid_in t) (lent c.lay.new.buses c.lay.new.first c.lay.new.second c.lay.new.branches)) e is c.lay.ensures.laid).refused

pub returns-in_err-laid : goal.returns-in_err-laid
returns-in_err-laid c =
    let t = tables c.args.buses.now c.args.stepped.now c.args.first.now c.args.curved.now c.args.second.now c.args.branches.now in
    let l = c.requires in
    let o = offered c.args.words.now t l c.read_rows.new.rows c.read_rows.ensures c.offer-offer.result c.amount-tolerance.result (record { sfits = c.amount-tolerance.type_inv }) c.amount-tolerance.ensures c.offer-offer.ensures in
    let p = err_from_is_err_and c.from_residual.result c.from_residual.ensures.1 in
    rw (p.1, p.2)
    (not_read c.args.words.now t l c.offer-offer.result o (lent c.lay.new.buses c.lay.new.first c.lay.new.second c.lay.new.branches) c.in_err-laid.field-0.0
    (error_told c.lay.result c.map_err.result _ _ Reported c.in_err-laid.field-0.0 c.in_err-laid.was c.map_err.ensures.cases c.lay.ensures.laid))

pub write_rows-requires : goal.write_rows-requires
write_rows-requires c =
    let t = tables c.args.buses.now c.args.stepped.now c.args.first.now c.args.curved.now c.args.second.now c.args.branches.now in
    let l = c.requires in
    let o = offered c.args.words.now t l c.read_rows.new.rows c.read_rows.ensures c.offer-offer.result c.amount-tolerance.result (record { sfits = c.amount-tolerance.type_inv }) c.amount-tolerance.ensures c.offer-offer.ensures in
    first_room c.args.words.now t l c.offer-offer.result o

pub write_rows-requires-2 : goal.write_rows-requires-2
write_rows-requires-2 c =
    let t = tables c.args.buses.now c.args.stepped.now c.args.first.now c.args.curved.now c.args.second.now c.args.branches.now in
    let l = c.requires in
    let o = offered c.args.words.now t l c.read_rows.new.rows c.read_rows.ensures c.offer-offer.result c.amount-tolerance.result (record { sfits = c.amount-tolerance.type_inv }) c.amount-tolerance.ensures c.offer-offer.ensures in
    second_room c.args.words.now t l c.offer-offer.result o

pub returns : goal.returns
returns c =
    let t = tables c.args.buses.now c.args.stepped.now c.args.first.now c.args.curved.now c.args.second.now c.args.branches.now in
    let l = c.requires in
    let o = offered c.args.words.now t l c.read_rows.new.rows c.read_rows.ensures c.offer-offer.result c.amount-tolerance.result (record { sfits = c.amount-tolerance.type_inv }) c.amount-tolerance.ensures c.offer-offer.ensures in
    let after = tables c.lay.new.buses c.write_rows.new.table c.lay.new.first c.write_rows-2.new.table c.lay.new.second c.lay.new.branches in
    let is = value_told c.lay.result c.map_err.result Reported c.in_ok-laid.laid c.in_ok-laid.was c.map_err.ensures.cases in
    let laid = MatchResult-at_ok (Laid stepped_meaning curved_meaning c.offer-offer.result (laid_in t) (laid_in after)) _ c.in_ok-laid.laid is c.lay.ensures.laid in
    let formed = IfOk-at_ok (λ n. WellFormed stepped_meaning curved_meaning (laid_case c.offer-offer.result (laid_in after) n)) is c.lay.ensures.formed in
    case_read c.args.words.now t l c.offer-offer.result o after c.in_ok-laid.laid laid c.write_rows.ensures c.write_rows-2.ensures formed
