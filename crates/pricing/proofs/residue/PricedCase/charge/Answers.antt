use Rattle.std.proofs.Common.{cond, ℤ, pos, ◌+ℤ◌, ◌*ℤ◌, ap, ◌∙◌, lit<, w64}
use lib.Signed.{non_neg}
use Rattle.std.proofs.lemmas.Int.{to_z-of_z}
use Rattle.measure.specs.Range.{∣◌∣}
use Rattle.measure.specs.Rows.{only}
use Rattle.measure.proofs.Sizes.{fits}
use Rattle.measure.proofs.Sums.{row_got}
use Rattle.network.specs.Floor.{angle_charge}
use Rattle.network.specs.View.{case_of}
use Rattle.pricing.specs.Kept.{prices_of, kept_weight, kept_prices, kept_charge}
use Rattle.measure.proofs.Sizes.{gave}
use Rattle.pricing.proofs.Kept.{shift_fits, rating_fits, stretched_by, charged_by}
use Rattle.pricing.proofs.residue.PricedCase.charge.Goals as goal

-- what an angle price charges between two limits
abbrev stretch : ℤ → ℤ → ℤ → ℤ
stretch ν low high = cond (non_neg ν) (ν *ℤ high) (ν *ℤ low)

pub returns : goal.returns
unfolding kept_charge angle_charge
returns g c =
    let s = c.args.self.now in
    let b = c.in-Some.branch.now in
    let k = gave c.keep-weight.type_inv c.keep-weight.ensures ∙ ap kept_weight (gave c.weight.type_inv c.weight.ensures) in
    let n = gave c.angle_price_at.type_inv c.angle_price_at.ensures in
    let l = to_z-of_z w64 b.angmin.0 (fits 6400000 _ (lit< tt) b.limited.0) in
    let u = to_z-of_z w64 b.angmax.0 (fits 6400000 _ (lit< tt) b.limited.1) in
    let h = gave c.stretched-angle.type_inv c.stretched-angle.ensures ∙ (λ i. stretch (n i) (l i) (u i)) in
    let m = gave c.congestion_at.type_inv c.congestion_at.ensures in
    let t = to_z-of_z w64 b.shift.0 (shift_fits b) in
    let f = to_z-of_z w64 b.rating.0 (rating_fits b) in
    row_got (pos 0) (kept_charge (case_of s.case) (kept_prices (prices_of g.C.Column.value s.prices.now))) s.case.branches.now c.args.row b _ c.in-Some.ensures.lookup.3
    (gave c.only_if.type_inv c.only_if.ensures
    ∙ ap (only b.service) (gave c.charged.type_inv c.charged.ensures ∙ (λ i. k i *ℤ t i +ℤ ∣ m i ∣ *ℤ f i +ℤ h i)))

pub stretched-angle-requires : goal.stretched-angle-requires
stretched-angle-requires g c =
    let s = c.args.self.now in
    let b = c.in-Some.branch.now in
    let l = to_z-of_z w64 b.angmin.0 (fits 6400000 _ (lit< tt) b.limited.0) in
    let u = to_z-of_z w64 b.angmax.0 (fits 6400000 _ (lit< tt) b.limited.1) in
    rw (gave c.angle_price_at.type_inv c.angle_price_at.ensures, l, u)
    (stretched_by (case_of s.case) (prices_of g.C.Column.value s.prices.now) (record { item = b; row = c.args.row }))

pub charged-requires : goal.charged-requires
unfolding angle_charge
charged-requires g c =
    let s = c.args.self.now in
    let b = c.in-Some.branch.now in
    let k = gave c.keep-weight.type_inv c.keep-weight.ensures ∙ ap kept_weight (gave c.weight.type_inv c.weight.ensures) in
    let n = gave c.angle_price_at.type_inv c.angle_price_at.ensures in
    let l = to_z-of_z w64 b.angmin.0 (fits 6400000 _ (lit< tt) b.limited.0) in
    let u = to_z-of_z w64 b.angmax.0 (fits 6400000 _ (lit< tt) b.limited.1) in
    let h = gave c.stretched-angle.type_inv c.stretched-angle.ensures ∙ (λ i. stretch (n i) (l i) (u i)) in
    let m = gave c.congestion_at.type_inv c.congestion_at.ensures in
    rw (k, to_z-of_z w64 b.shift.0 (shift_fits b), m, to_z-of_z w64 b.rating.0 (rating_fits b), h)
    (charged_by (case_of s.case) (prices_of g.C.Column.value s.prices.now) (record { item = b; row = c.args.row }))
