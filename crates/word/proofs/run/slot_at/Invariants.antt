use Rattle.std.proofs.Common.{drop, Option}
use Rattle.word.specs.Run.{slots_of, Due}
use Rattle.word.specs.declared.slot.Slot.{Slot}
use Rattle.word.proofs.run.slot_at.Given as goal

-- what is due so far on in the runs that are left is due at the place
abbrev pub invariant-loop-run : goal.invariant-loop-run
invariant-loop-run l = (o : Option Slot) → Due (slots_of (drop l.run-index l.runs)) l.left o → Due (slots_of l.runs) l.place o
