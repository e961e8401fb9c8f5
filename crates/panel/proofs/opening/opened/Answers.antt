use Rattle.std.proofs.Common.{rules, refl}
use Rattle.panel.proofs.Begun.{begins}
use Rattle.panel.proofs.opening.opened.Goals as goal

pub returns-clause-run : goal.returns-clause-run
returns-clause-run g c = begins g.M.Machine.meaning g.N.Machine.meaning _ c.requires (search rules) (search rules) refl
