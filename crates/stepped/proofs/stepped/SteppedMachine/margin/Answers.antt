use Rattle.std.proofs.Common.{sym, lit<}
use Rattle.std.proofs.lemmas.Int.{to_z-of_z}
use Rattle.measure.proofs.Sizes.{fits}
use Rattle.stepped.specs.Keeping.{ranges}
use Rattle.stepped.proofs.stepped.SteppedMachine.margin.Goals as goal

pub pieces-requires : goal.pieces-requires
pieces-requires c = ranges c.args.self.now (sym c.if-is_in_range.ensures.test)

pub invariant_of-lo : goal.invariant_of-lo
invariant_of-lo c =
    let low = (ranges c.args.self.now (sym c.if-is_in_range.ensures.test)).limits.low in
    simp (to_z-of_z, fits 100000000 c.args.self.now.lo.0 (lit< tt) low) (record { ok = low })

pub invariant_of-hi : goal.invariant_of-hi
invariant_of-hi c =
    let high = (ranges c.args.self.now (sym c.if-is_in_range.ensures.test)).limits.high in
    simp (to_z-of_z, fits 100000000 c.args.self.now.hi.0 (lit< tt) high) (record { ok = high })
