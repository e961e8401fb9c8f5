-- The words in a list of bytes: four bytes each, the highest first; one to three bytes over make no word.
use Rattle.std.specs.Prelude.{◌≡◌, ℕ, ◌*◌, ◌/◌, ◌^◌, ◌<◌, min, List, [], ◌∷◌, length, take, All, flat_map}
use Rattle.word.specs.Word.{of_bytes, bytes_of}

abbrev pub words_in : List ℕ → List ℕ
words_in [] = []
words_in (a ∷ []) = []
words_in (a ∷ b ∷ []) = []
words_in (a ∷ b ∷ c ∷ []) = []
words_in (a ∷ b ∷ c ∷ d ∷ bytes) = of_bytes (a ∷ b ∷ c ∷ d ∷ []) ∷ words_in bytes

-- numbers that 32 bits hold
abbrev pub AreWords : List ℕ → Type 0
AreWords words = All (λ word. word < 2 ^ 32) words

-- the words are those of the file: as many as there are fours among its first 65,536 bytes; their own bytes, one word after
-- another, the highest first, are the file's first bytes; and no other words have these bytes
pub record WordsOfFile (words file : List ℕ) : Type 0 where
  pub count : length words ≡ min 65536 (length file) / 4
  pub bytes : flat_map bytes_of words ≡ take (4 * length words) file
  pub only : (others : List ℕ) → AreWords others → flat_map bytes_of others ≡ flat_map bytes_of words → others ≡ words
