use Rattle.std.proofs.Common.{arith, ◌∙◌}
use Rattle.std.proofs.lemmas.List.{length-set}
use Rattle.std.proofs.lemmas.Result.{err_from_is_err_and}
use Rattle.build.specs.Build.{EndsNamed}
use Rattle.build.proofs.Standing.{stands_at}
use Rattle.build.proofs.Filling.{matched_more, matched_all}
use Rattle.build.proofs.Known.{branch_known}
use Rattle.build.proofs.places.find_ends.Goals as goal

pub returns-in_err-ends : goal.returns-in_err-ends
returns-in_err-ends c =
    let branches = c.args.branches.now in
    let p = err_from_is_err_and c.from_residual.result c.from_residual.ensures.1 in
    let refused = c.in_err-ends.ensures in
    rw (p.1, p.2)
    (record {
      row = c.loop-i.i;
      is = refused.0;
      lowest = (
        record { item = _; stands = stands_at branches c.loop-i.i _ c.loop-i-test.true; holds = refused.1 },
        λ j l. branch_known c.args.buses.now.rows.now branches c.loop-i.ends j (λ r s. c.loop-i.invariant.1 j r l s),
      );
    })

pub loop-i-preserved : goal.loop-i-preserved
loop-i-preserved c = (
  length-set c.loop-i.ends c.loop-i.i _ ∙ c.loop-i.invariant.0,
  matched_more (EndsNamed c.args.buses.now.rows.now) c.args.branches.now c.loop-i.ends c.loop-i.i _ c.in_ok-ends.field-0 (omega arith)
      (stands_at c.args.branches.now c.loop-i.i _ c.loop-i-test.true) c.in_ok-ends.ensures
      c.loop-i.invariant.1,
)

pub returns : goal.returns
returns c = matched_all (EndsNamed c.args.buses.now.rows.now) c.args.branches.now c.loop-i.ends c.loop-i.i c.loop-i-test.false c.loop-i.invariant.1
