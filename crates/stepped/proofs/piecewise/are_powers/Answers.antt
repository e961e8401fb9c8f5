use Rattle.std.proofs.Common.{◌∙◌, pos, negsuc, rules}
use borrow.Author.Tests.{tests}
use Rattle.std.proofs.lemmas.Iterator.{YieldsList-from_slice}
use Rattle.std.proofs.lemmas.Iterator.Search.{all_from_yields_List}
use Rattle.measure.specs.Range.{between}
use Rattle.measure.specs.declared.Watts.{Watts}
use Rattle.stepped.proofs.Powers.{each_power}
use Rattle.stepped.proofs.piecewise.are_powers.Goals as goal

pub returns : goal.returns
returns c =
    all_from_yields_List (λ (w : Watts). between (negsuc 99999999) (pos 100000000) w.0) _ _ _ c.all.ensures.ran (YieldsList-from_slice c.args.xs.now cc) (λ x b q k. search (rules, tests))
    ∙ each_power (negsuc 99999999) (pos 100000000) c.args.xs.now
