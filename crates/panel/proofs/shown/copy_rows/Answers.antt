use Rattle.std.proofs.Common.{w64, sym, subst, ◌∙◌, ◌<◌, length}
use Rattle.std.proofs.lemmas.Int.{to_z-of_z}
use Rattle.std.proofs.lemmas.List.{length-set}
use Rattle.panel.proofs.Copying.{copied_more}
use Rattle.panel.proofs.shown.copy_rows.Goals as goal

pub loop-i-preserved : goal.loop-i-preserved
loop-i-preserved g c =
    let i = c.loop-i.invariant in
    let z = to_z-of_z w64 c.at.result (record { sfits = c.at.type_inv }) ∙ c.at.ensures in
    let l : c.loop-i.i < length c.loop-i.table = subst (λ n. c.loop-i.i < n) (sym i.0) c.loop-i-test.true in
    (length-set c.loop-i.table c.loop-i.i _ ∙ i.0, copied_more (g.C.Column.value c.args.column.now) c.loop-i.table c.loop-i.i _ z l i.1)
