-- The case that a view of lent tables shows. A table of places that is too short puts the machines after its end at the reference; tables
-- that a case was laid in are never too short.
use Rattle.std.specs.Prelude.{ℕ, take, ℤ, pos, slice_index}
use Rattle.network.specs.declared.case.Machines.{Machines}
use Rattle.network.specs.declared.case.Case as view
use Rattle.network.specs.declared.dispatch.Dispatch.{Dispatch}
use Rattle.network.specs.Model.{Group, Case, WholeDispatch}

abbrev pub group_of : {M : Type 0} → Machines M → Group M
group_of m = record { machines = take m.count m.rows.now; place = λ i. slice_index m.places.now i }

abbrev pub case_of : {M N : Type 0} → view.Case M N → Case M N
case_of c =
    record {
      tolerance = pos c.tolerance;
      buses = take c.nb c.buses.now;
      first = group_of c.first;
      second = group_of c.second;
      branches = take c.nl c.branches.now;
    }

-- the dispatch that three columns give; `value` reads a column
abbrev pub dispatch_of : {C : Type 0} → (C → ℕ → ℤ) → Dispatch C → WholeDispatch
dispatch_of value d = record { first = value d.first.column; second = value d.second.column; angles = value d.angles.column }
