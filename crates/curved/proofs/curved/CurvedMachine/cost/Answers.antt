use Rattle.std.proofs.Common.{◌≡◌, sym, refl, ◌∙◌, arith, lit<, w64}
use Rattle.std.proofs.lemmas.Int.{to_z-of_z}
use Rattle.measure.proofs.Laws.{lin}
use Rattle.measure.proofs.Sizes.{fits}
use Rattle.machine.proofs.Answering.{allowed-within, answer_is}
use Rattle.curved.specs.Quadratic.{in_range, rounded_up}
use Rattle.curved.specs.Keeping.{ranges}
use Rattle.curved.proofs.curved.CurvedMachine.cost.Goals as goal

pub less-requires : goal.less-requires
less-requires c = ranges c.args.self.now (sym c.if-is_in_range.ensures)

pub invariant_of-p : goal.invariant_of-p
invariant_of-p c =
    let m = c.args.self.now in
    let t = sym c.if-is_in_range.ensures in
    let p = allowed-within (in_range m) m.lo.0 m.hi.0 c.args.p.0 t (ranges m t).limits (c.if-not-allows.ensures.0 refl) in
    simp (to_z-of_z, fits 100000000 c.args.p.0 (lit< tt) p) (record { ok = p })

pub returns-then-is_in_range : goal.returns-then-is_in_range
returns-then-is_in_range c =
    let m = c.args.self.now in
    let t = sym c.if-is_in_range.ensures in
    let a = c.if-not-allows.ensures.0 refl in
    let p = allowed-within (in_range m) m.lo.0 m.hi.0 c.args.p.0 t (ranges m t).limits a in
    let s : c.less.result.slope ≡ m.c1 = omega (arith, lin, c.less.ensures.slope, c.zero.ensures) in (
      a,
      to_z-of_z w64 c.up_at.result (record { sfits = c.up_at.type_inv })
          ∙ answer_is (in_range m) (rounded_up m) c.args.p.0 c.up_at.result t
          (simp (c.less.ensures.fixed, s, c.less.ensures.square, to_z-of_z, fits 100000000 c.args.p.0 (lit< tt) p) at c.up_at.ensures),
    )
