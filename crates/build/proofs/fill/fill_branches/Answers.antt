use Rattle.std.proofs.Common.{refl, arith}
use Rattle.build.proofs.Making.{branch_made, branch_filled}
use Rattle.build.proofs.fill.fill_branches.Goals as goal

pub unwrap-requires : goal.unwrap-requires
unwrap-requires c = branch_made c.args.rows.now c.loop-i.i _ _ c.branch-row.result c.branch-row.ensures c.loop-i-test.true c.requires.ranges c.requires.uncrossed

pub loop-i-preserved : goal.loop-i-preserved
loop-i-preserved c buses found =
    branch_filled c.args.rows.now c.loop-i.i _ _ c.branch-row.result c.branch-row.ensures c.loop-i-test.true
    c.args.ends.now _ refl (omega arith)
    c.args.table.now c.loop-i.table c.unwrap.result c.unwrap.ensures (omega arith) buses found (c.loop-i.invariant buses found)
