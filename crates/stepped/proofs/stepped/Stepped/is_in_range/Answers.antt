use Rattle.std.proofs.Common.{◌≡◌, ◌≤◌, length, ap, pos, negsuc, sym, ◌∙◌, arith, w64, SFits, rules}
use lib.Signed.{le_z, lt_z}
use native.Mathlib.Nat.{sub-zero}
use Rattle.std.proofs.lemmas.Int.{to_z-of_z}
use Rattle.std.proofs.lemmas.List.Sorted.{answers_always}
use Rattle.stepped.proofs.Ordered.{rising_is, never_falling_is}
use Rattle.stepped.proofs.RowTest.{row_test}
use Rattle.stepped.proofs.StepLaw.{one-cost}
use Rattle.measure.specs.declared.Watts.{Watts}
use Rattle.stepped.specs.Piecewise.{powers_of, each_between, rising}
use Rattle.stepped.proofs.Powers.{length_powers, take_powers, adjacent_powers}
use Rattle.stepped.proofs.stepped.Stepped.is_in_range.Goals as goal

pub returns : goal.returns
returns c =
    let m = c.args.self.now in
    let f : SFits w64 m.c = search rules in
    let eight : length m.points ≡ 8 = search rules in
    let points : length (powers_of m.points) ≡ 8 = length_powers m.points ∙ eight in
    let slopes : length m.slopes ≡ 7 = search rules in
    let low : 2 ≤ m.n = omega arith in
    let high : m.n ≤ 8 = omega arith in
    let test =
    row_test m low high c.are_in_range.result c.is_between.result c.are_powers.result c.is_sorted_by.result c.all_between.result c.is_sorted_by-2.result
    c.are_in_range.ensures
    (simp (to_z-of_z, f) at c.is_between.ensures)
    ((simp sub-zero at c.are_powers.ensures) ∙ ap (each_between (negsuc 99999999) (pos 100000000)) (take_powers m.n m.points))
    ((simp sub-zero at (rising_is _ _ (adjacent_powers lt_z _ _ (c.is_sorted_by.ensures.cases (λ (x : Watts) (y : Watts). lt_z x.0 y.0) (answers_always _ _ _ (λ f a r f' k. search rules)))))) ∙ ap rising (take_powers m.n m.points))
    (simp sub-zero at c.all_between.ensures)
    (simp sub-zero at (never_falling_is _ _ (c.is_sorted_by-2.ensures.cases le_z (answers_always _ _ _ (λ f a r f' k. search rules))))) in
    record { test = test; cost = λ e. one-cost m points slopes (sym test ∙ e) }
