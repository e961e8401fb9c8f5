-- What is written as a word reads back the same, and every word is written by what is read from it.
use Rattle.std.specs.Prelude.{◌≡◌, ℕ, ◌^◌, ◌<◌, List, [], ◌∷◌, ℤ, pos, negsuc, ◌≤ℤ◌, ◌≢◌}
use Rattle.word.specs.Word.{kind_of, payload_of, amount_of, word_of, amount_word, of_bytes, bytes_of}
use Rattle.word.specs.Form.{Exact}
use Rattle.word.specs.Slot.{Matches}
use Rattle.word.specs.Run.{slots_of}
use Rattle.word.specs.declared.run.Run.{Run}
use Rattle.word.specs.declared.kind.Kind.{Kind}
use Rattle.word.specs.declared.kind.Kind.TheVariants.{Unknown, Amount}

-- a number that 28 bits hold
abbrev pub Short : ℤ → Type 0
Short z = (negsuc 134217727 ≤ℤ z) × (z ≤ℤ pos 134217727)

pub record WordRoundTrip : Type 0 where
  pub kind : (k : Kind) (p : ℕ) → p < 2 ^ 28 → kind_of (word_of k p) ≡ k
  pub payload : (k : Kind) (p : ℕ) → p < 2 ^ 28 → payload_of (word_of k p) ≡ p
  pub word : (w : ℕ) → (kind_of w ≢ Unknown) → word_of (kind_of w) (payload_of w) ≡ w
  pub amount : (z : ℤ) → Short z → amount_of (amount_word z) ≡ z
  pub amount_kind : (z : ℤ) → kind_of (amount_word z) ≡ Amount
  pub amount_written : (w : ℕ) → kind_of w ≡ Amount → amount_word (amount_of w) ≡ w
  pub bytes : (w : ℕ) → w < 2 ^ 32 → of_bytes (bytes_of w) ≡ w
  pub bytes_written : (a b c d : ℕ) → a < 256 → b < 256 → c < 256 → d < 256 → bytes_of (of_bytes (a ∷ b ∷ c ∷ d ∷ [])) ≡ a ∷ b ∷ c ∷ d ∷ []

-- for every list of runs, a list of words fits its places, or is refused for one reason at one place
abbrev pub RunsExact : Type 0
RunsExact = (runs : List Run) → Exact (Matches (slots_of runs))
