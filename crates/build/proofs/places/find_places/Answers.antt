use Rattle.std.proofs.Common.{subst, arith, rules, ◌∙◌}
use Rattle.std.proofs.lemmas.List.{length-set}
use Rattle.measure.proofs.Sums.{stands_read}
use Rattle.build.specs.Offer.{Lacks, Found}
use Rattle.build.specs.Build.{Placed}
use Rattle.build.proofs.Filling.{matched_more, matched_all}
use Rattle.build.proofs.Known.{machine_known}
use Rattle.build.proofs.places.find_places.Goals as goal

pub returns-in_default : goal.returns-in_default
returns-in_default g c =
    let machines = c.args.machines.now in
    let buses = c.args.buses.now.rows.now in
    let machine = c.index-machines-i.result in
    let stands = stands_read machines c.loop-i.i machine c.loop-i-test.true c.index-machines-i.is in
    record {
      row = c.loop-i.i;
      is = search rules;
      lowest = (
        record { item = machine; stands = stands; holds = subst (Lacks buses) c.bus.ensures c.in_default.ensures },
        λ j l. machine_known g.M.Machine.meaning buses machines c.loop-i.places j (λ m s. c.loop-i.invariant.1 j m l s),
      );
    }

pub loop-i-preserved : goal.loop-i-preserved
loop-i-preserved g c =
    let machines = c.args.machines.now in
    let buses = c.args.buses.now.rows.now in
    let machine = c.index-machines-i.result in
    let stands = stands_read machines c.loop-i.i machine c.loop-i-test.true c.index-machines-i.is in
    let found : Found buses (g.M.Machine.meaning.bus machine) c.in-Some.row = subst (λ k. Found buses k c.in-Some.row) c.bus.ensures c.in-Some.ensures in (
      length-set c.loop-i.places c.loop-i.i _ ∙ c.loop-i.invariant.0,
      matched_more (Placed g.M.Machine.meaning buses) machines c.loop-i.places c.loop-i.i machine _ (omega arith) stands
          (search rules)
          c.loop-i.invariant.1,
    )

pub returns : goal.returns
returns g c = matched_all (Placed g.M.Machine.meaning c.args.buses.now.rows.now) c.args.machines.now c.loop-i.places c.loop-i.i c.loop-i-test.false c.loop-i.invariant.1
