use Rattle.std.proofs.Common.{ℤ, ◌-ℤ◌, ◌*ℤ◌, ap, lit<, w64, SFits}
use Rattle.std.proofs.lemmas.Int.{to_z-of_z}
use Rattle.measure.proofs.Sizes.{fits, product_fits}
use Rattle.stepped.proofs.Sizes.{net-fits}
use Rattle.stepped.proofs.piecewise.Line.net_at.Goals as goal

pub overflow_mul-result : goal.overflow_mul-result
overflow_mul-result c =
    let q = fits 1000000 c.args.q.value (lit< tt) c.args.q.ok in
    let y = fits 100000000 c.args.y.watts (lit< tt) c.args.y.ok in
    simp (c.get.ensures, to_z-of_z, q, y) (product_fits 1000000 100000000 c.args.q.value c.args.y.watts (lit< tt) c.args.q.ok c.args.y.ok)

pub overflow_sub-result : goal.overflow_sub-result
overflow_sub-result c =
    let q = fits 1000000 c.args.q.value (lit< tt) c.args.q.ok in
    let y = fits 100000000 c.args.y.watts (lit< tt) c.args.y.ok in
    let k = product_fits 1000000 100000000 c.args.q.value c.args.y.watts (lit< tt) c.args.q.ok c.args.y.ok in
    let f : SFits w64 c.at.result = record { sfits = c.at.type_inv } in
    simp (c.get.ensures, to_z-of_z, q, y, k, f) (net-fits c.at.result c.args.q.value c.args.y.watts c.at.ensures.size c.args.q.ok c.args.y.ok)

pub returns : goal.returns
returns c =
    let q = fits 1000000 c.args.q.value (lit< tt) c.args.q.ok in
    let y = fits 100000000 c.args.y.watts (lit< tt) c.args.y.ok in
    let k = product_fits 1000000 100000000 c.args.q.value c.args.y.watts (lit< tt) c.args.q.ok c.args.y.ok in
    let f : SFits w64 c.at.result = record { sfits = c.at.type_inv } in
    let n = net-fits c.at.result c.args.q.value c.args.y.watts c.at.ensures.size c.args.q.ok c.args.y.ok in
    simp (c.get.ensures, to_z-of_z, q, y, k, f, n) (ap (λ (z : ℤ). z -ℤ c.args.q.value *ℤ c.args.y.watts) c.at.ensures.value)
