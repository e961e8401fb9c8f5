use Rattle.std.proofs.Common.{ℕ, rules, tests}
use Rattle.std.proofs.lemmas.Iterator.{IsFirst-from_position, YieldsList-from_slice}
use Rattle.std.proofs.lemmas.Iterator.Consumers.{YieldsList-from_enumerate}
use Rattle.measure.proofs.Sums.{stands_below}
use Rattle.names.specs.Names.{NamedBefore, Repeats}
use Rattle.names.proofs.First.{lowest_numbered}
use Rattle.names.proofs.Tables.{repeats, named_before}
use Rattle.names.proofs.list.NameList.repeated.Goals as goal

pub returns : goal.returns
returns g c =
    let rows = c.args.self.now.rows.now in
    let same = g.R.Kind.Name.same in
    let name = g.R.Named.name in
    let before = λ (p : ℕ × g.row.R.Denot). NamedBefore same name (name p.1) rows p.0 in
    lowest_numbered rows before (λ p. before p → ⊥) (Repeats same name rows)
    (λ i x s y. repeats same name rows i x s y)
    (λ i x s n r. n (named_before same name rows i x s r))
    (λ i r. stands_below rows i r.item r.stands)
    c.position.result
    (IsFirst-from_position _ _ _ before (λ p. before p → ⊥) c.position.ensures.ran (YieldsList-from_enumerate (YieldsList-from_slice rows cc) cc)
    (λ x q k. search (rules, tests)) (λ x q k. search (rules, tests)))
