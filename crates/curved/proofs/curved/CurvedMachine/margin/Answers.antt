use Rattle.std.proofs.Common.{sym}
use Rattle.curved.specs.Keeping.{ranges}
use Rattle.curved.proofs.curved.CurvedMachine.margin.Goals as goal

pub least_margin-requires : goal.least_margin-requires
least_margin-requires c = ranges c.args.self.now (sym c.if-is_in_range.ensures)
