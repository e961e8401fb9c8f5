use Rattle.std.proofs.Common.{◌≡◌, ℕ, ◌%◌, ◌^◌, ap, ◌∙◌, arith, w64, of_z}
use lib.Bits.{bit_and}
use Rattle.std.proofs.lemmas.Nat.{and_mask}
use Rattle.std.proofs.lemmas.Int.{to_z-of_z}
use Rattle.word.specs.Word.{amount_word, word_of, payload_of, payload_for}
use Rattle.word.specs.declared.kind.Kind.TheVariants.{Amount}
use Rattle.word.proofs.Words.{low_bits}
use Rattle.word.proofs.amount.amount_word.Goals as goal

pub returns : goal.returns
unfolding amount_word
returns c =
    let n : ℕ = c.cast_unsigned.result in
    let m : bit_and n 268435455 ≡ n % 2 ^ 28 = and_mask n 28 in
    let f = to_z-of_z w64 c.args.x c.ranges.x in
    let e : n ≡ of_z w64 c.args.x = c.cast_unsigned.ensures ∙ ap (of_z w64) f in
    let l = low_bits c.args.x c.ranges.x in
    let p : payload_of (bit_and n 268435455) ≡ payload_for c.args.x =
    ap payload_of m ∙ mod_mod n ∙ ap (λ k. k % 2 ^ 28) e ∙ l in
    c.word_of.ensures ∙ ap (word_of Amount) p
  where
    mod_mod : (n : ℕ) → n % 2 ^ 28 % 2 ^ 28 ≡ n % 2 ^ 28
    mod_mod n = omega arith
