use Rattle.std.proofs.Common.{ℕ, ◌≤◌, length, get_or, take, ℤ, ap, ◌∙◌, arith, lit<, w8, Fits, rules}
use Rattle.std.proofs.lemmas.List.{length-take}
use Rattle.measure.proofs.Sizes.{fits}
use Rattle.machine.specs.Group.{total_margins}
use Rattle.machine.proofs.Totals.{total_margins_within}
use Rattle.network.specs.View.{case_of}
use Rattle.network.specs.Floor.{price}
use Rattle.pricing.specs.Kept.{prices_of, kept_prices}
use Rattle.pricing.proofs.Kept.{passed_as, price_within}
use Rattle.pricing.proofs.residue.PricedCase.margins.Goals as goal

pub total_margin-requires : goal.total_margin-requires
total_margin-requires g c =
    let s = c.args.self.now in
    let m = c.args.machines in
    let h : Fits w8 c.args.machines.count = search rules in
    let n = length-take m.count m.rows.now in
    let l = ap length c.used.ensures.exact in
    record {
      few = omega arith;
      priced = λ i k. price_within (case_of s.case) (prices_of g.C.Column.value s.prices.now) (get_or m.places.now i 0);
    }

pub returns : goal.returns
returns g c =
    let s = c.args.self.now in
    let m = c.args.machines in
    let q = prices_of g.C.Column.value s.prices.now in
    let L : ℕ → ℤ = λ i. price (case_of s.case) (kept_prices q) (get_or m.places.now i 0) in
    let ms = take m.count m.rows.now in
    let h : Fits w8 c.args.machines.count = search rules in
    let n = length-take m.count m.rows.now in
    let f : length ms ≤ 255 = omega arith in
    let w = total_margins_within g.K.Machine.meaning g.met.K.Machine.lawful ms 255 f L (λ i k. price_within (case_of s.case) q (get_or m.places.now i 0)) in
    let e = passed_as (c.total_margin.ensures ∙ ap (λ (xs : _). total_margins g.K.Machine.meaning xs L) c.used.ensures.exact) (fits 255000000000000000 _ (lit< tt) w) in
    record { small = rw e w; exact = e }
