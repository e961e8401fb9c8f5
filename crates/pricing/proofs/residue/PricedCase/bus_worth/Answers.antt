use Rattle.std.proofs.Common.{ltb, pos, ◌-ℤ◌, ◌*ℤ◌, ap, ◌∙◌, lit<, w64}
use Rattle.std.proofs.lemmas.Int.{to_z-of_z}
use Rattle.measure.specs.Range.{∣◌∣}
use Rattle.measure.specs.Rows.{only}
use Rattle.measure.proofs.Sizes.{fits}
use Rattle.measure.proofs.Sums.{row_got}
use Rattle.network.specs.View.{case_of}
use Rattle.pricing.specs.Kept.{prices_of, kept_prices, kept_residue, bus_worth}
use Rattle.measure.proofs.Sizes.{gave}
use Rattle.pricing.proofs.Kept.{worth_by}
use Rattle.pricing.proofs.residue.PricedCase.bus_worth.Goals as goal

pub returns : goal.returns
unfolding bus_worth
returns g c =
    let s = c.args.self.now in
    let b = c.in-Some.bus.now in
    let p = gave c.price_at.type_inv c.price_at.ensures in
    let d = to_z-of_z w64 b.demand.0 (fits 100000000 _ (lit< tt) b.ok.1) in
    let k = gave c.keep-residue.type_inv c.keep-residue.ensures ∙ ap kept_residue (gave c.residue.type_inv c.residue.ensures) in
    let o = gave c.only_if.type_inv c.only_if.ensures ∙ ap (only (ltb 0 c.args.row)) k in
    row_got (pos 0) (bus_worth (case_of s.case) (kept_prices (prices_of g.C.Column.value s.prices.now))) s.case.buses.now c.args.row b _ c.in-Some.ensures.lookup.3
    (gave c.worth.type_inv c.worth.ensures ∙ (λ i. p i *ℤ d i -ℤ pos 3200000 *ℤ ∣ o i ∣))

pub worth-requires : goal.worth-requires
worth-requires g c =
    let s = c.args.self.now in
    let b = c.in-Some.bus.now in
    let p = gave c.price_at.type_inv c.price_at.ensures in
    let d = to_z-of_z w64 b.demand.0 (fits 100000000 _ (lit< tt) b.ok.1) in
    let k = gave c.keep-residue.type_inv c.keep-residue.ensures ∙ ap kept_residue (gave c.residue.type_inv c.residue.ensures) in
    let o = gave c.only_if.type_inv c.only_if.ensures ∙ ap (only (ltb 0 c.args.row)) k in
    rw (p, d, o) (worth_by (case_of s.case) (prices_of g.C.Column.value s.prices.now) (record { item = b; row = c.args.row }))
