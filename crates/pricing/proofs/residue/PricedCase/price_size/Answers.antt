use Rattle.std.proofs.Common.{arith}
use Rattle.measure.proofs.Laws.{lin}
use Rattle.network.specs.View.{case_of}
use Rattle.pricing.specs.Kept.{prices_of}
use Rattle.measure.proofs.Sizes.{gave}
use Rattle.pricing.proofs.Kept.{price_within}
use Rattle.pricing.proofs.residue.PricedCase.price_size.Goals as goal

pub size-requires : goal.size-requires
size-requires g c =
    let s = c.args.self.now in
    let w = price_within (case_of s.case) (prices_of g.C.Column.value s.prices.now) c.args.row in
    rw (gave c.price_at.type_inv c.price_at.ensures) (omega (arith, lin, w.0), omega (arith, lin, w.1))
