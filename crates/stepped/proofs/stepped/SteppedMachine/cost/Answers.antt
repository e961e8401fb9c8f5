use Rattle.std.proofs.Common.{sym, refl, ◌∙◌, lit<, w64}
use Rattle.std.proofs.lemmas.Int.{to_z-of_z}
use Rattle.measure.proofs.Sizes.{fits}
use Rattle.machine.proofs.Answering.{allowed-within, answer_is}
use Rattle.stepped.specs.Piecewise.{in_range, piecewise_whole}
use Rattle.stepped.specs.Keeping.{ranges}
use Rattle.stepped.proofs.stepped.SteppedMachine.cost.Goals as goal

pub pieces-requires : goal.pieces-requires
pieces-requires c = ranges c.args.self.now (sym c.if-is_in_range.ensures.test)

pub invariant_of-p : goal.invariant_of-p
invariant_of-p c =
    let m = c.args.self.now in
    let t = sym c.if-is_in_range.ensures.test in
    let p = allowed-within (in_range m) m.lo.0 m.hi.0 c.args.p.0 t (ranges m t).limits (c.if-not-allows.ensures.0 refl) in
    simp (to_z-of_z, fits 100000000 c.args.p.0 (lit< tt) p) (record { ok = p })

pub returns-then-is_in_range : goal.returns-then-is_in_range
returns-then-is_in_range c =
    let m = c.args.self.now in
    let t = sym c.if-is_in_range.ensures.test in
    let a = c.if-not-allows.ensures.0 refl in
    let p = allowed-within (in_range m) m.lo.0 m.hi.0 c.args.p.0 t (ranges m t).limits a in
    let e = c.pieces.ensures in (
      a,
      to_z-of_z w64 c.at.result (record { sfits = c.at.type_inv })
          ∙ answer_is (in_range m) (piecewise_whole m) c.args.p.0 c.at.result t
          (simp (e.cost, e.from, e.slope, e.points, e.slopes, to_z-of_z, fits 100000000 c.args.p.0 (lit< tt) p) at c.at.ensures),
    )
