use Rattle.std.proofs.Common.{◌∙◌, rules}
use borrow.Author.Tests.{tests}
use Rattle.std.proofs.lemmas.Iterator.{YieldsList-from_slice}
use Rattle.std.proofs.lemmas.Iterator.Search.{all_from_yields_List}
use Rattle.measure.specs.Range.{between}
use Rattle.stepped.proofs.Ordered.{each-is}
use Rattle.stepped.proofs.piecewise.all_between.Goals as goal

pub returns : goal.returns
returns c =
    all_from_yields_List (between c.args.low c.args.high) _ _ _ c.all.ensures.ran (YieldsList-from_slice c.args.xs.now cc) (λ x b q k. search (rules, tests))
    ∙ each-is c.args.low c.args.high c.args.xs.now
