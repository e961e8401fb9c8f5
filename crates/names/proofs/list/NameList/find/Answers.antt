use Rattle.std.proofs.Common.{rules, tests}
use Rattle.std.proofs.lemmas.Iterator.{IsFirst-from_position, YieldsList-from_slice}
use Rattle.names.proofs.First.{lowest_first}
use Rattle.names.proofs.list.NameList.find.Goals as goal

pub returns : goal.returns
returns g c =
    let rows = c.args.self.now.rows.now in
    let same = λ (row : g.row.R.Denot). g.R.Kind.Name.same (g.R.Named.name row) c.args.sought.now in
    lowest_first same rows c.position.result
    (IsFirst-from_position _ _ _ same (λ row. same row → ⊥) c.position.ensures.ran (YieldsList-from_slice rows cc)
    (λ x q k. search (rules, tests)) (λ x q k. search (rules, tests)))
