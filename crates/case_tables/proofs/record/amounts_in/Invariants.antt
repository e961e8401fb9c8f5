use Rattle.std.proofs.Common.{◌≡◌, map, take}
use Rattle.word.specs.Word.{amount_of}
use Rattle.case_tables.specs.Rows.{padded}
use Rattle.case_tables.proofs.record.amounts_in.Given as goal

abbrev pub invariant-loop-i : goal.invariant-loop-i
invariant-loop-i g l = l.amounts ≡ padded g.row.N (map amount_of (take l.i l.words))
