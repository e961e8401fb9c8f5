-- The round trip of a word.
use Rattle.std.proofs.Common.{rules, ◌≡◌, ℕ, ◌+◌, ◌*◌, ◌/◌, ◌%◌, ◌^◌, ◌<◌, [], ◌∷◌, ℤ, pos, negsuc, sym, refl, ap, ◌∙◌, arith, w64, SFits, of_z}
use Rattle.std.proofs.lemmas.Int.{ints}
use Rattle.std.proofs.lemmas.Bool.Decides.{nat_tests}
use Rattle.word.specs.Word.{kind_number, kind_numbered, kind_of, payload_of, amount_of, word_of, signed_of, payload_for, amount_word, of_bytes, bytes_of}
use Rattle.word.specs.Laws.{Short, WordRoundTrip}
use Rattle.word.specs.declared.kind.Kind.{Kind}
use Rattle.word.specs.declared.kind.Kind.TheVariants.{Unknown, Head, Bus, Stepped, Curved, Branch, Amount, End}

numbered-back : (k : Kind) → kind_numbered (kind_number k) ≡ k
numbered-back Unknown = refl
numbered-back Head = refl
numbered-back Bus = refl
numbered-back Stepped = refl
numbered-back Curved = refl
numbered-back Branch = refl
numbered-back Amount = refl
numbered-back End = refl

pub kind_word : (k : Kind) (p : ℕ) → p < 2 ^ 28 → kind_of (word_of k p) ≡ k
unfolding kind_of
kind_word k p h =
    let e : (kind_number k * 2 ^ 28 + p) / 2 ^ 28 ≡ kind_number k = omega arith in
    ap kind_numbered e ∙ numbered-back k

pub payload_word : (k : Kind) (p : ℕ) → p < 2 ^ 28 → payload_of (word_of k p) ≡ p
payload_word k p h = omega arith

-- the number of a kind that is known
number_numbered : (n : ℕ) → (kind_numbered n ≡ Unknown → ⊥) → kind_number (kind_numbered n) ≡ n
number_numbered n h = grind (arith, nat_tests)

pub word_kind : (w : ℕ) → (kind_of w ≡ Unknown → ⊥) → word_of (kind_of w) (payload_of w) ≡ w
unfolding kind_of
word_kind w h = let e = number_numbered (w / 2 ^ 28) h in omega arith

-- a word of a known kind, by its payload
pub word_is : (w : ℕ) (k : Kind) → kind_of w ≡ k → (k ≡ Unknown → ⊥) → w ≡ word_of k (payload_of w)
word_is w k e h = sym (word_kind w (λ u. h (sym e ∙ u))) ∙ ap (λ (j : Kind). word_of j (payload_of w)) e

pub word_at : (w : ℕ) (k : Kind) (p : ℕ) → kind_of w ≡ k → (k ≡ Unknown → ⊥) → payload_of w ≡ p → w ≡ word_of k p
word_at w k p e h q = word_is w k e h ∙ ap (word_of k) q

payload_short : (z : ℤ) → payload_for z < 2 ^ 28
payload_short (pos n) = omega arith
payload_short (negsuc n) = omega arith

pub amount_back : (z : ℤ) → Short z → amount_of (amount_word z) ≡ z
unfolding amount_of amount_word
amount_back (pos n) h = grind (arith, ints, nat_tests)
amount_back (negsuc n) h = grind (arith, ints, nat_tests)

pub amount_kind : (z : ℤ) → kind_of (amount_word z) ≡ Amount
unfolding amount_word
amount_kind z = kind_word Amount (payload_for z) (payload_short z)

signed_back : (p : ℕ) → p < 2 ^ 28 → payload_for (signed_of p) ≡ p
signed_back p h = grind (arith, ints, nat_tests)

pub amount_same : (w : ℕ) → kind_of w ≡ Amount → amount_word (amount_of w) ≡ w
unfolding amount_of amount_word
amount_same w e =
    ap (word_of Amount) (signed_back (payload_of w) (omega arith)) ∙ sym (word_is w Amount e (λ k. search rules))

-- the low 28 bits of a number of 64
pub low_bits : (z : ℤ) → SFits w64 z → of_z w64 z % 2 ^ 28 ≡ payload_for z
low_bits (pos n) h = refl
low_bits (negsuc n) h = omega (arith, ints)

bytes_back : (w : ℕ) → w < 2 ^ 32 → of_bytes (bytes_of w) ≡ w
bytes_back w h =
    let a : (w / 256) / 256 ≡ w / 65536 = omega arith in
    let b : (w / 65536) / 256 ≡ w / 16777216 = omega arith in
    let c : (w / 16777216) / 256 ≡ 0 = omega arith in
    omega arith

bytes_same : (a b c d : ℕ) → a < 256 → b < 256 → c < 256 → d < 256 → bytes_of (of_bytes (a ∷ b ∷ c ∷ d ∷ [])) ≡ a ∷ b ∷ c ∷ d ∷ []
bytes_same a b c d ha hb hc hd =
    let n : ℕ = a * 16777216 + b * 65536 + c * 256 + d in
    let ea : n / 16777216 % 256 ≡ a = omega arith in
    let eb : n / 65536 % 256 ≡ b = omega arith in
    let ec : n / 256 % 256 ≡ c = omega arith in
    let ed : n % 256 ≡ d = omega arith in
    λ i. ea i ∷ eb i ∷ ec i ∷ ed i ∷ []

pub word_round_trip : WordRoundTrip
word_round_trip =
    record {
      kind = kind_word;
      payload = payload_word;
      word = word_kind;
      amount = amount_back;
      amount_kind = amount_kind;
      amount_written = amount_same;
      bytes = bytes_back;
      bytes_written = bytes_same;
    }
