use Rattle.std.proofs.Common.{◌≡◌, ◌≤◌, map, length, get_or, take, set, ℤ, sym, ap, ◌∙◌, arith, w64}
use Rattle.std.proofs.lemmas.List.{length-map, length-take-le, map_more}
use Rattle.std.proofs.lemmas.Int.{to_z-of_z}
use Rattle.word.specs.Word.{amount_of}
use Rattle.case_tables.specs.Rows.{padded}
use Rattle.case_tables.proofs.Keeping.{padded-more}
use Rattle.case_tables.proofs.record.amounts_in.Goals as goal

pub loop-i-preserved : goal.loop-i-preserved
loop-i-preserved g c =
    let words = c.args.words.now in
    let i = c.loop-i.i in
    let i-in : i ≤ length words = omega arith in
    let z : ℤ = amount_of (get_or words i 0) in
    let before = map amount_of (take i words) in
    let long : length before ≡ i = length-map (take i words) amount_of ∙ length-take-le i words i-in in
    let is = to_z-of_z w64 c.amount.result (record { sfits = c.amount.type_inv }) ∙ c.amount.ensures in
    ap (set c.loop-i.amounts i) is
    ∙ ap (λ xs. set xs i z) c.loop-i.invariant
    ∙ ap (λ k. set (padded g.row.N before) k z) (sym long)
    ∙ padded-more g.row.N before z (omega arith)
    ∙ ap (padded g.row.N) (sym (map_more amount_of words i 0 (omega arith)))
