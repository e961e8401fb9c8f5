use Rattle.std.proofs.Common.{◌-◌, take, drop, ℤ, pos, ◌*ℤ◌, sym, subst, arith, lit<}
use Rattle.std.proofs.lemmas.Int.{to_z-of_z}
use Rattle.measure.specs.Range.{Within}
use Rattle.measure.specs.Rows.{All}
use Rattle.measure.proofs.Laws.{lin}
use Rattle.measure.proofs.Order.{product_within}
use Rattle.measure.proofs.Sizes.{fits}
use Rattle.stepped.specs.Piecewise.{powers_of, first, Chain}
use Rattle.stepped.proofs.Powers.{head_power, inner_powers}
use Rattle.stepped.proofs.stepped.Stepped.pieces.Goals as goal

pub invariant_of-line-2 : goal.invariant_of-line-2
invariant_of-line-2 c =
    let m = c.args.self.now in
    let ok = c.requires in
    let w = subst (Within 100000000) (sym (head_power m.points)) ok.first_point in
    let b = product_within 1000000 100000000 (pos 1000000) m.c (omega (arith, lin)) ok.c in
    simp (to_z-of_z, fits 100000000 m.c (lit< tt) ok.c, fits 100000000000000 (pos 1000000 *ℤ m.c) (lit< tt) b, fits 100000000 _ (lit< tt) w, fits 1000000 (first m.slopes) (lit< tt) ok.first_slope)
    (record { carried = omega (arith, lin, b, w); sloped = ok.first_slope })

pub invariant_of-result : goal.invariant_of-result
invariant_of-result c =
    let m = c.args.self.now in
    let ok = c.requires in
    let w = subst (Within 100000000) (sym (head_power m.points)) ok.first_point in
    let e = sym (inner_powers (m.n - 1 - 1) m.points) in
    let n = subst (λ (z : ℤ). Chain z (powers_of (take (m.n - 1 - 1) (drop 1 m.points)))) (sym (head_power m.points)) (subst (Chain (first (powers_of m.points))) e ok.chain) in
    record {
      ranged = subst (All (Within 100000000)) e ok.points;
      sloped = ok.slopes;
      rising = simp (to_z-of_z, fits 100000000 _ (lit< tt) w) n;
    }
