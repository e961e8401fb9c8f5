use Rattle.std.proofs.Common.{sym, ◌∙◌, subst}
use Rattle.measure.specs.Fraction.{whole, ◌≤ᶠ◌}
use Rattle.network.specs.Model.{true_cost}
use Rattle.network.specs.View.{case_of}
use Rattle.pricing.specs.Kept.{prices_of}
use Rattle.measure.proofs.Sizes.{gave}
use Rattle.pricing.proofs.Exact.{floor_same}
use Rattle.network.proofs.Duality.{floor_stands}
use Rattle.pricing.proofs.floor.floor.Goals as goal

pub returns : goal.returns
returns g c =
    let k = case_of c.args.case.now in
    let q = prices_of g.C.Column.value c.args.prices.now in
    let 𝓜 = g.M.Machine.meaning in
    let 𝓝 = g.N.Machine.meaning in
    let l = c.in_ok-check.ensures in
    let e = gave c.floor.type_inv c.floor.ensures ∙ floor_same k q l 𝓜 𝓝 in
    record {
      lawful = l;
      exact = e;
      below = λ d meets. subst (λ z. whole z ≤ᶠ true_cost 𝓜 𝓝 k d) (sym e) (floor_stands 𝓜 𝓝 g.met.M.Machine.lawful g.met.N.Machine.lawful k q d l meets);
    }
