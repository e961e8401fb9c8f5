use Rattle.std.proofs.Common.{◌≤◌, length, take}
use Rattle.word.specs.Slot.{Matches}
use Rattle.word.specs.Run.{slots_of}
use Rattle.word.proofs.read.admit_all.Given as goal

-- the words so far fit the slots so far
abbrev pub invariant-loop-place : goal.invariant-loop-place
invariant-loop-place l =
    (l.place ≤ length (slots_of l.runs)) × Matches (take l.place (slots_of l.runs)) (take l.place l.words)
