use Rattle.std.proofs.Common.{rules}
use Rattle.measure.proofs.Sums.{first_of-lowest}
use Rattle.judging.specs.Whole.{angle_beyond}
use Rattle.judging.proofs.angles.Angles.out_of_range.Goals as goal

pub returns : goal.returns
returns g c = first_of-lowest (angle_beyond (g.C.Column.value c.args.self.now.given.now.column)) _ c.args.self.now.buses _ c.first_broken.ensures (λ i b l k. search rules)
