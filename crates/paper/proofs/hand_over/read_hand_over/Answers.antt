use Rattle.std.proofs.Common.{nat_abs, ap, ◌∙◌, w64, SFits, rules}
use Rattle.std.proofs.lemmas.Int.{to_z-of_z}
use Rattle.paper.proofs.Layouts.{possible}
use Rattle.paper.proofs.HandOvers.{hand_over_layout, hand_over_read}
use Rattle.paper.proofs.hand_over.read_hand_over.Goals as goal

pub admit_all-requires : goal.admit_all-requires
admit_all-requires c = let p = possible _ _ hand_over_layout in search rules

pub returns : goal.returns
returns c =
    let f : SFits w64 c.amount.result = search rules in
    hand_over_read c.args.words.now (search rules) _ (ap nat_abs (to_z-of_z w64 c.amount.result f ∙ c.amount.ensures))
