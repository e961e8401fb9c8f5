use Rattle.std.proofs.Common.{◌≡◌, eqb, pos, ap, ◌∙◌, ap₂, w64, to_z, of_z, rules}
use Rattle.std.proofs.lemmas.Int.{to_z-of_z}
use Rattle.measure.specs.Rows.{only}
use Rattle.measure.proofs.Sums.{row_is}
use Rattle.judging.specs.Whole.{kept_power}
use Rattle.judging.proofs.balance.Injections.given.Goals as goal

pub returns : goal.returns
returns g c =
    let o = to_z-of_z w64 c.only_if.result (record { sfits = c.only_if.type_inv }) in
    let k = to_z-of_z w64 c.keep-power.result (record { sfits = c.keep-power.type_inv }) in
    let a : to_z w64 (of_z w64 c.at.result.0) ≡ g.C.Column.value c.args.self.now.powers.now.column c.args.row = search rules in
    row_is (pos 0) _ c.args.self.now.machines.rows.now c.args.row _ c.if-row-self.false
    (λ x s. o ∙ c.only_if.ensures ∙ ap₂ (λ p z. only (eqb p c.args.bus) z) (c.from.ensures ∙ c.place.ensures) (k ∙ c.keep-power.ensures ∙ ap kept_power a))
