use Rattle.std.proofs.Common.{eqb, pos, ◌-ℤ◌, ap, ◌∙◌, arith}
use Rattle.measure.specs.Rows.{only}
use Rattle.measure.proofs.Laws.{lin}
use Rattle.measure.proofs.Sizes.{gave}
use Rattle.measure.proofs.Sums.{row_got}
use Rattle.network.specs.View.{case_of}
use Rattle.pricing.specs.Kept.{prices_of, kept_prices, share}
use Rattle.pricing.proofs.Kept.{pull_within}
use Rattle.pricing.proofs.residue.PricedCase.share.Goals as goal

pub leaving-requires : goal.leaving-requires
leaving-requires g c =
    let s = c.args.self.now in
    let w = pull_within (case_of s.case) (prices_of g.C.Column.value s.prices.now) (record { item = c.in-Some.branch.now; row = c.args.row }) in
    rw (gave c.pull.type_inv c.pull.ensures) (omega (arith, lin, w.0), omega (arith, lin, w.1))

pub returns : goal.returns
unfolding share
returns g c =
    let s = c.args.self.now in
    let b = c.in-Some.branch.now in
    row_got (pos 0) (share (case_of s.case) (kept_prices (prices_of g.C.Column.value s.prices.now)) c.args.bus) s.case.branches.now c.args.row b _ c.in-Some.ensures.lookup.3
    (gave c.leaving.type_inv c.leaving.ensures ∙ ap (λ z. only (eqb b.ends.from c.args.bus) z -ℤ only (eqb b.ends.to c.args.bus) z) (gave c.pull.type_inv c.pull.ensures))
