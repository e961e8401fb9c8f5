use Rattle.std.proofs.Common.{List}
use Rattle.build.specs.declared.rows.BusRow.{BusRow}
use Rattle.build.specs.Build.{EndsNamed, Filled, Joined, Matched}
use Rattle.build.proofs.fill.fill_branches.Given as goal

abbrev pub invariant-loop-i : goal.invariant-loop-i
invariant-loop-i l = (buses : List BusRow) → Matched (EndsNamed buses) l.rows l.ends → Filled (Joined buses) l.rows l.initial.table l.table l.i
