use Rattle.standing.specs.ExampleGrounds.{one_bus_grounds}
use Rattle.standing.proofs.ExampleRuns.{run}
use Rattle.standing.proofs.example_runs.Goals as goal

pub returns : goal.returns
returns c = record { grounds = one_bus_grounds; run = run }
