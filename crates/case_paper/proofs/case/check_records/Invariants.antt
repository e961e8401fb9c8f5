use Rattle.std.proofs.Common.{◌≡◌}
use Rattle.case_paper.proofs.Progress.{Progress}
use Rattle.case_paper.proofs.case.check_records.Given as goal

abbrev pub invariant-loop-place : goal.invariant-loop-place
invariant-loop-place l = Progress l.rows l.words l.place l.state l.tally.counts × (l.tally.words.now ≡ l.words) × (l.tally.rows.now ≡ l.rows)
