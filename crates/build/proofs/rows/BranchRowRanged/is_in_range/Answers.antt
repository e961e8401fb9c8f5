use Rattle.std.proofs.Common.{pos, ◌≤ℤ◌, Decides, rules}
use Rattle.std.proofs.lemmas.Bool.Decides.{Decides-and, Decides-like}
use Rattle.measure.specs.Range.{Within}
use Rattle.build.proofs.rows.BranchRowRanged.is_in_range.Goals as goal

pub returns : goal.returns
returns c =
    let row = c.args.self.now in
    let susceptance : Decides c.is_between.result ((pos 1 ≤ℤ row.susceptance) × (row.susceptance ≤ℤ pos 1000000)) = search rules in
    let shift : Decides c.is_between-2.result (Within 1600000 row.shift.0) = search rules in
    let rating : Decides c.is_between-3.result ((pos 0 ≤ℤ row.rating.0) × (row.rating.0 ≤ℤ pos 100000000)) = search rules in
    let angmin : Decides c.is_between-4.result (Within 6400000 row.angmin.0) = search rules in
    let angmax : Decides c.is_between-5.result (Within 6400000 row.angmax.0) = search rules in
    let flows = Decides-and _ _ (Decides-and _ _ (Decides-and _ _ c.is_in_range.ensures susceptance) shift) rating in
    Decides-like _
    (λ p. record { circuit = p.0.0.0.0.0.0; from = p.0.0.0.0.0.1; to = p.0.0.0.0.0.2; susceptance = p.0.0.0.0.1; shift = p.0.0.0.1; rating = p.0.0.1; angmin = p.0.1; angmax = p.1 })
    (λ k. ((((((k.circuit, k.from, k.to), k.susceptance), k.shift), k.rating), k.angmin), k.angmax))
    (Decides-and _ _ (Decides-and _ _ flows angmin) angmax)
