use Rattle.std.proofs.Common.{◌≡◌, ◌*◌, drop, ◌+ℤ◌}
use Rattle.measure.specs.Fraction.{whole}
use Rattle.measure.specs.Range.{Within}
use Rattle.measure.specs.Rows.{Row, numbered, total, All}
use Rattle.machine.specs.Group.{counted_cost, AllowedAll}
use Rattle.machine.proofs.group.total_cost.Given as goal

-- the rows that are left make up the sum, and each machine so far allows its power
abbrev pub invariant-loop-i : goal.invariant-loop-i
invariant-loop-i g l =
    let M = g.M.Machine.meaning in
    let p = g.C.Column.value l.powers.column in
    (l.total +ℤ total (λ (r : Row _). M.cost_answer r.item (p r.row)) (numbered l.i (drop l.i l.machines)) ≡ counted_cost M l.machines p)
    × Within (l.i * 1000000000000000) l.total
    × (All (λ (r : Row _). M.Allowed r.item (whole (p r.row))) (numbered l.i (drop l.i l.machines)) → AllowedAll M l.machines p)
