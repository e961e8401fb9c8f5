use Rattle.std.proofs.Common.{◌≡◌, ◌*◌, drop, ◌+ℤ◌}
use Rattle.measure.specs.Range.{Within}
use Rattle.measure.specs.Rows.{Row, numbered, total}
use Rattle.machine.specs.Group.{total_margins}
use Rattle.machine.proofs.group.total_margin.Given as goal

-- the rows that are left make up the sum
abbrev pub invariant-loop-i : goal.invariant-loop-i
invariant-loop-i g l =
    let M = g.M.Machine.meaning in
    let q = g.C.Column.value l.prices.column in
    (l.total +ℤ total (λ (r : Row _). M.margin r.item (q r.row)) (numbered l.i (drop l.i l.machines)) ≡ total_margins M l.machines q)
    × Within (l.i * 1000000000000000) l.total
