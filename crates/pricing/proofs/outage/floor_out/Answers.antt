use Rattle.std.proofs.Common.{false, List, get_or, take, pos, ap, ◌∙◌, subst}
use Rattle.network.specs.declared.branch.Branch.{Branch}
use Rattle.network.specs.View.{group_of}
use Rattle.pricing.specs.Kept.{prices_of}
use Rattle.pricing.specs.Outage.{with_mark}
use Rattle.network.specs.Floored.{Floored}
use Rattle.pricing.proofs.Outages.{marked-as, set_mark, mark_twice, own_mark, take_mark}
use Rattle.pricing.proofs.outage.floor_out.Goals as goal

pub returns : goal.returns
returns g c =
    let s = c.args.stations in
    let bs = c.args.branches.now in
    let i = c.args.row in
    let d = c.index-branches-row-2.result in
    let q = prices_of g.C.Column.value c.args.prices.now in
    record {
      floored = subst (λ (xs : List Branch). Floored g.M.Machine.meaning g.N.Machine.meaning (record { tolerance = pos s.tolerance; buses = take s.nb s.buses.now; first = group_of s.first; second = group_of s.second; branches = xs }) q c.floor.result)
          (ap (take s.nl) (set_mark bs i d false _ (marked-as false (get_or bs i d) _ _ _ _ _) c.requires) ∙ take_mark s.nl bs i false)
          c.floor.ensures;
      unchanged = c.drop-outage.ensures
          ∙ ap (λ (xs : List Branch). with_mark xs i (get_or bs i c.index-branches-row.result).service) (set_mark bs i d false _ (marked-as false (get_or bs i d) _ _ _ _ _) c.requires)
          ∙ mark_twice bs i false (get_or bs i c.index-branches-row.result).service
          ∙ own_mark bs i c.index-branches-row.result c.requires;
    }
