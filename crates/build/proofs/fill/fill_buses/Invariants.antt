use Rattle.build.specs.Raw.{BusOf}
use Rattle.build.specs.Build.{Filled}
use Rattle.build.proofs.fill.fill_buses.Given as goal

abbrev pub invariant-loop-i : goal.invariant-loop-i
invariant-loop-i l = Filled BusOf l.rows l.initial.table l.table l.i
