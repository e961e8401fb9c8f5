use Rattle.std.proofs.Common.{get_or}
use Rattle.network.specs.declared.branch.Branch.{Branch}
use Rattle.pricing.proofs.Outages.{marked-as, set_mark}
use Rattle.pricing.proofs.outage.Outage.drop.Goals as goal

pub invariant_of-self : goal.invariant_of-self
invariant_of-self c d =
    let b : Branch = get_or c.args.self.rows.now c.args.self.row d in
    (b.named, (b.susceptible, (b.shifted, (b.rated, (b.limited, tt)))))

pub returns : goal.returns
returns c =
    let s = c.args.self in
    set_mark s.rows.now s.row c.index-self-self.result s.mark _ (marked-as s.mark (get_or s.rows.now s.row c.index-self-self.result) _ _ _ _ _) c.requires
