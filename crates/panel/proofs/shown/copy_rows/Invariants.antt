use Rattle.std.proofs.Common.{◌≡◌, length}
use Rattle.panel.proofs.Copying.{Copied}
use Rattle.panel.proofs.shown.copy_rows.Given as goal

abbrev pub invariant-loop-i : goal.invariant-loop-i
invariant-loop-i g l = (length l.table ≡ length l.initial.table) × Copied (g.C.Column.value l.column) l.table l.i
