use Rattle.std.proofs.Common.{ap, ◌∙◌, w64}
use Rattle.std.proofs.lemmas.Int.{to_z-of_z}
use Rattle.network.specs.Floor.{price}
use Rattle.network.specs.View.{case_of}
use Rattle.pricing.specs.Kept.{prices_of, kept_prices}
use Rattle.measure.proofs.Sizes.{gave}
use Rattle.pricing.proofs.Kept.{susceptance_fits, weighed_by}
use Rattle.pricing.proofs.residue.PricedCase.weight.Goals as goal

pub weighed-requires : goal.weighed-requires
weighed-requires g c =
    let s = c.args.self.now in
    let b = c.args.branch.now in
    let k = case_of s.case in
    let q = prices_of g.C.Column.value s.prices.now in
    rw (
      to_z-of_z w64 b.susceptance (susceptance_fits b),
      gave c.price_at.type_inv c.price_at.ensures ∙ ap (price k (kept_prices q)) c.from.ensures,
      gave c.price_at-2.type_inv c.price_at-2.ensures ∙ ap (price k (kept_prices q)) c.from-2.ensures,
      gave c.congestion_at.type_inv c.congestion_at.ensures,
    )
    (weighed_by k q (record { item = b; row = c.args.row }))
