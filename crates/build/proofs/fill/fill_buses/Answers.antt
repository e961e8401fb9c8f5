use Rattle.std.proofs.Common.{arith}
use Rattle.build.proofs.Making.{bus_made, bus_filled}
use Rattle.build.proofs.fill.fill_buses.Goals as goal

pub unwrap-requires : goal.unwrap-requires
unwrap-requires c = bus_made c.args.rows.now c.loop-i.i _ c.bus.result c.bus.ensures c.loop-i-test.true c.requires.ranges

pub loop-i-preserved : goal.loop-i-preserved
loop-i-preserved c =
    bus_filled c.args.rows.now c.loop-i.i _ c.bus.result c.bus.ensures c.loop-i-test.true
    c.args.table.now c.loop-i.table c.unwrap.result c.unwrap.ensures (omega arith) c.loop-i.invariant
