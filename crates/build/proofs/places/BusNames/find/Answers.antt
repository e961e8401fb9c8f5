use Rattle.std.proofs.Common.{arith}
use Rattle.measure.proofs.Sums.{holds_below}
use Rattle.build.proofs.places.BusNames.find.Goals as goal

pub overflow_cast-result : goal.overflow_cast-result
overflow_cast-result c = omega (arith, c.args.self.now.few, holds_below _ c.args.self.now.rows.now c.in_ok-row.row c.in_ok-row.ensures.0)
