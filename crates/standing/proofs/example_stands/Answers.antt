use Rattle.standing.proofs.ExampleRuns.{run}
use Rattle.standing.proofs.example_stands.Goals as goal

pub returns : goal.returns
returns c =
    record {
      stands = c.standing_stands.ensures _ _ _ _ run;
      no_other = λ sheets' s r. c.standing_pins.ensures.same_calls _ _ _ _ _ _ r run;
    }
