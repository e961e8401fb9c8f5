use Rattle.std.proofs.Common.{eqb, sym, ap, ◌∙◌, w64, SFits, to_z, of_z, rules}
use Rattle.std.proofs.lemmas.Int.{to_z-of_z}
use Rattle.std.proofs.lemmas.Bool.{eqb-true, eq-eqb}
use Rattle.paper.proofs.Layouts.{possible}
use Rattle.paper.proofs.Names.{branch_named}
use Rattle.paper.proofs.Changes.{mark_layout, mark_at}
use Rattle.paper.proofs.change.read_mark_change.Goals as goal

pub admit_change-requires : goal.admit_change-requires
admit_change-requires c = possible _ _ mark_layout

pub returns : goal.returns
returns c =
    let m = c.in_ok-branch.ensures in
    let f : SFits w64 c.amount.result = search rules in
    let z = to_z-of_z w64 c.amount.result f in
    rw c.branch_name.ensures (
      branch_named c.in_ok-branch.branch m.0,
      m.2 ∙ mark_at c.in_ok-branch.branch c.in_ok-branch.mark (eqb (of_z w64 c.amount.result) 1) m.0 m.1
          (λ t. sym c.amount.ensures ∙ sym z ∙ ap (to_z w64) (eqb-true (of_z w64 c.amount.result) 1 t))
          (λ e. eq-eqb (of_z w64 c.amount.result) 1 (ap (of_z w64) (c.amount.ensures ∙ e))),
    )
