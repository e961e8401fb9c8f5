-- The watch of the code as the watch of a state.
use Rattle.standing.specs.Panel as standing
use Rattle.standing.specs.Panel.Heading.{HELD, PASSED, DECLINED, CHANGES}
use Rattle.panel.specs.declared.watch.Counts.{Counts}
use Rattle.panel.specs.declared.watch.Watch.{Watch}
use Rattle.panel.specs.declared.watch.Heading.{Heading}
use Rattle.panel.specs.declared.watch.Heading.TheVariants as heading

abbrev pub counts_of : Counts → standing.Counts
counts_of n = record { held = n.held; passed = n.passed; declined = n.declined; changes = n.changes }

abbrev pub watch_of : Watch → standing.Watch
watch_of w = record { attendant = w.attendant; counts = counts_of w.counts }

abbrev pub heading_of : Heading → standing.Heading
heading_of heading.Held = HELD
heading_of heading.Passed = PASSED
heading_of heading.Declined = DECLINED
heading_of heading.Changes = CHANGES
