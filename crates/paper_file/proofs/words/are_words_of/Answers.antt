use Rattle.std.proofs.Common.{◌≡◌, ℕ, Bool, true, false, List, sym, eqb-true, arith, rules, tests}
use Rattle.std.specs.Bool.{MatchBool}
use Rattle.std.specs.List.{zip}
use Rattle.std.proofs.lemmas.Bool.{true≢false}
use Rattle.std.proofs.lemmas.List.Elements.{All-from_all_within}
use Rattle.std.proofs.lemmas.Iterator.{YieldsList-from_slice, YieldsList-from_zip, cases_from_all}
use Rattle.std.proofs.lemmas.Iterator.Search.{true_from_All}
use Rattle.paper_file.proofs.Fours.{Written, as_many, from_pairs, to_pairs}
use Rattle.paper_file.proofs.words.are_words_of.Goals as goal

pub returns-then-words-fours : goal.returns-then-words-fours
returns-then-words-fours c =
    let words = c.args.words.now in
    let file = c.args.bytes.now in
    let fours = c.fours-fours.result.now in
    let pairs : List (ℕ × List ℕ) = zip words fours in
    let m = cases_from_all {all = pairs} c.all.new.self _ _ Written (λ p. Written p → ⊥) c.all.ensures.ran
    (YieldsList-from_zip (YieldsList-from_slice c.args.words.now (cc)) (YieldsList-from_slice c.fours-fours.result.now (cc)))
    (λ x q k. search (rules, tests)) (λ x q k. search (rules, tests)) in (
      λ t. from_pairs words file (λ i. omega (arith, c.type_inv.words i)) (λ i. omega (arith, c.type_inv.bytes i)) fours c.fours-fours.ensures
          c.if-words-fours.true (All-from_all_within Written pairs (yes c.all.result _ _ t m)),
      λ e. true_from_All Written (λ p. Written p → ⊥) c.all.result pairs (λ p y n. n y) m
          (to_pairs words file (λ i. omega (arith, c.type_inv.words i)) (λ i. omega (arith, c.type_inv.bytes i)) fours c.fours-fours.ensures e),
    )
  where
    yes : (r : Bool) (P Q : Type 0) → r ≡ true → MatchBool r P Q → P
    yes true P Q t m = m
    yes false P Q t m = absurd (true≢false (sym t))

pub returns-else-words-fours : goal.returns-else-words-fours
returns-else-words-fours c = (
  λ t. absurd (c.if-words-fours.false (eqb-true _ _ t)),
  λ e. absurd (c.if-words-fours.false (
      as_many c.args.words.now c.args.bytes.now (λ i. omega (arith, c.type_inv.words i)) (λ i. omega (arith, c.type_inv.bytes i))
      c.fours-fours.result.now c.fours-fours.ensures e)),
)
