use Rattle.std.proofs.Common.{min, length, ◌+◌, ◌≡◌, ◌∙◌, arith}
use Rattle.panel.proofs.Copying.{copied_powers, copied_angles}
use Rattle.panel.proofs.shown.copy_dispatch.Goals as goal

pub returns : goal.returns
returns c p powers angles gives =
    let one = c.copy_rows.ensures in
    let two = c.copy_rows-2.ensures in
    let three = c.copy_rows-3.ensures in
    let s = c.split_at_mut-first.ensures in
    let e = c.min-split.ensures in
    let f : length c.copy_rows.new.table ≡ min c.args.first (length c.args.powers.now) = one.length ∙ s.front_len ∙ e in
    let a : length c.copy_rows.new.table ≡ c.min-split.result = one.length ∙ s.front_len in
    let b : length c.copy_rows-2.new.table ≡ length c.split_at_mut-first.result.1.now = two.length in
    let d : length c.split_at_mut-first.result.1.now + c.min-split.result ≡ length c.args.powers.now = s.back_len in
    let h : length c.copy_rows.new.table + length c.copy_rows-2.new.table ≡ length c.args.powers.now = omega arith in (
      copied_powers c.args.first p c.args.dispatch.now gives c.args.powers.now _ _ powers f h one.rows two.rows,
      copied_angles c.args.first p c.args.dispatch.now gives c.args.angles.now _ angles three.length three.rows,
    )
