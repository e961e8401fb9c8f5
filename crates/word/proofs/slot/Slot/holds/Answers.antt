use Rattle.std.proofs.Common.{◌≡◌, ◌∙◌, rules, arith, w64, to_z, of_z, SFits}
use Rattle.std.proofs.lemmas.Int.{to_z-of_z, ints}
use Rattle.std.proofs.lemmas.Grind.{common_steps}
use Rattle.word.specs.Word.{amount_of}
use Rattle.word.proofs.slot.Slot.holds.Goals as goal

pub returns-in-Amount : goal.returns-in-Amount
returns-in-Amount c =
    let f : SFits w64 c.amount.result = search rules in
    let l : SFits w64 c.in-Amount.least = search rules in
    let m : SFits w64 c.in-Amount.most = search rules in
    let s = c.new.ensures.start ∙ to_z-of_z w64 c.in-Amount.least l in
    let e = c.new.ensures.end ∙ to_z-of_z w64 c.in-Amount.most m in
    let a : to_z w64 (of_z w64 c.amount.result) ≡ amount_of c.args.word = to_z-of_z w64 c.amount.result f ∙ c.amount.ensures in
    let v = rw (s, e, a) at c.contains.ensures.cases in
    rw c.in-Amount.is (grind (arith, ints, common_steps))
