-- The papers in a list of words: it is cut after each end word.
use Rattle.std.specs.Prelude.{◌≡◌, ℕ, ◌<◌, ◌≤◌, Bool, cond, List, [], ◌∷◌, length, take, drop, ◌==◌}
use Rattle.word.specs.Word.{kind_number, kind_of}

-- a word of kind 7, whatever its payload
abbrev pub is_end : ℕ → Bool
is_end word = kind_number (kind_of word) == 7

-- the papers with one more word at the front of the first
abbrev pub with_word : ℕ → List (List ℕ) → List (List ℕ)
with_word word [] = (word ∷ []) ∷ []
with_word word (p ∷ ps) = (word ∷ p) ∷ ps

-- an end word is the last of its paper, and any other word belongs to the paper of the word after it
abbrev pub papers : List ℕ → List (List ℕ)
papers [] = []
papers (word ∷ words) = cond (is_end word) ((word ∷ []) ∷ papers words) (with_word word (papers words))

-- the first n words are the first paper
pub record FirstPaper (words : List ℕ) (n : ℕ) : Type 0 where
  pub within : n ≤ length words
  pub some : 0 < length words → 0 < n
  pub first : 0 < length words → papers words ≡ take n words ∷ papers (drop n words)
