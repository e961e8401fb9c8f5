use Rattle.std.proofs.Common.{None, Some, refl, rules, tests}
use Rattle.std.proofs.lemmas.Iterator.{IsFirst-from_position, YieldsList-from_slice}
use Rattle.names.proofs.First.{lowest_first}
use Rattle.build.proofs.check.check_ranges.Goals as goal

pub returns-in-None : goal.returns-in-None
returns-in-None g c =
    let out = λ (row : g.row.R.Denot). g.R.Ranged.ranged row → ⊥ in
    lowest_first out c.args.rows.now None
    (IsFirst-from_position _ _ _ out (λ row. out row → ⊥) c.in-None.ensures.ran (YieldsList-from_slice c.args.rows.now cc)
    (λ x q k. search (rules, tests)) (λ x q k. search (rules, tests)))

pub returns-in-Some : goal.returns-in-Some
returns-in-Some g c =
    let out = λ (row : g.row.R.Denot). g.R.Ranged.ranged row → ⊥ in
    record {
      row = c.in-Some.row;
      is = refl;
      lowest = lowest_first out c.args.rows.now (Some c.in-Some.row)
          (IsFirst-from_position _ _ _ out (λ row. out row → ⊥) c.in-Some.ensures.ran (YieldsList-from_slice c.args.rows.now cc)
          (λ x q k. search (rules, tests)) (λ x q k. search (rules, tests)));
    }
