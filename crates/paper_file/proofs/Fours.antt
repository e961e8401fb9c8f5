-- The words in a list of bytes, one for each four, and the bytes of those words.
use Rattle.std.proofs.Common.{◌≡◌, ℕ, zero, suc, ◌-◌, ◌*◌, ◌/◌, ◌^◌, ◌<◌, min, List, [], ◌∷◌, ◌++◌, map, length, take, get_or, sym, refl, ap, ◌∙◌, subst, arith}
use Rattle.std.proofs.lemmas.Grind.{common_steps}
use Rattle.std.proofs.lemmas.List.{take-take, length-take, length-map, get_or_default}
use Rattle.std.specs.Simd.{first_chunks}
use Rattle.std.specs.List.{All, zip, flat_map}
use Rattle.word.specs.Word.{of_bytes, bytes_of}
use Rattle.word.proofs.Words.{word_round_trip}
use Rattle.paper_file.specs.Words.{words_in, AreWords, WordsOfFile}

pub words_of_fours : (bytes : List ℕ) → map of_bytes (first_chunks 4 (length bytes / 4) bytes) ≡ words_in bytes
words_of_fours [] = refl
words_of_fours (a ∷ []) = refl
words_of_fours (a ∷ b ∷ []) = refl
words_of_fours (a ∷ b ∷ c ∷ []) = refl
words_of_fours (a ∷ b ∷ c ∷ d ∷ bytes) =
    let more : suc (suc (suc (suc (length bytes)))) / 4 ≡ suc (length bytes / 4) = omega arith in
    ap (λ n. map of_bytes (first_chunks 4 n (a ∷ b ∷ c ∷ d ∷ bytes))) more ∙ ap (λ ws. of_bytes (a ∷ b ∷ c ∷ d ∷ []) ∷ ws) (words_of_fours bytes)

-- as many bytes as there are, and at most n
pub take_at_most : (m n : ℕ) (bytes : List ℕ) → m ≡ min (length bytes) n → take (m - 0) bytes ≡ take n bytes
take_at_most m n bytes e = grind (arith, common_steps)

abbrev pub AreBytes : List ℕ → Type 0
AreBytes bytes = (i : ℕ) → get_or bytes i 0 < 256

are_bytes-take : (n : ℕ) (bytes : List ℕ) → AreBytes bytes → AreBytes (take n bytes)
are_bytes-take zero bytes h i = omega arith
are_bytes-take (suc n) [] h i = omega arith
are_bytes-take (suc n) (x ∷ bytes) h zero = h 0
are_bytes-take (suc n) (x ∷ bytes) h (suc i) = are_bytes-take n bytes (λ k. h (suc k)) i

four_same : (a b c d : ℕ) (bytes : List ℕ) → AreBytes (a ∷ b ∷ c ∷ d ∷ bytes) → bytes_of (of_bytes (a ∷ b ∷ c ∷ d ∷ [])) ≡ a ∷ b ∷ c ∷ d ∷ []
four_same a b c d bytes h = word_round_trip.bytes_written a b c d (h 0) (h 1) (h 2) (h 3)

after_four : (a b c d : ℕ) (bytes : List ℕ) → AreBytes (a ∷ b ∷ c ∷ d ∷ bytes) → AreBytes bytes
after_four a b c d bytes h i = h (suc (suc (suc (suc i))))

-- each word's bytes are its four
fours_of_words : (bytes : List ℕ) → AreBytes bytes → map bytes_of (words_in bytes) ≡ first_chunks 4 (length bytes / 4) bytes
fours_of_words [] h = refl
fours_of_words (a ∷ []) h = refl
fours_of_words (a ∷ b ∷ []) h = refl
fours_of_words (a ∷ b ∷ c ∷ []) h = refl
fours_of_words (a ∷ b ∷ c ∷ d ∷ bytes) h =
    let more : suc (suc (suc (suc (length bytes)))) / 4 ≡ suc (length bytes / 4) = omega arith in
    ap (λ (four : List ℕ). four ∷ map bytes_of (words_in bytes)) (four_same a b c d bytes h)
    ∙ ap (λ fours. (a ∷ b ∷ c ∷ d ∷ []) ∷ fours) (fours_of_words bytes (after_four a b c d bytes h))
    ∙ ap (λ n. first_chunks 4 n (a ∷ b ∷ c ∷ d ∷ bytes)) (sym more)

word_count : (bytes : List ℕ) → length (words_in bytes) ≡ length bytes / 4
word_count [] = refl
word_count (a ∷ []) = refl
word_count (a ∷ b ∷ []) = refl
word_count (a ∷ b ∷ c ∷ []) = refl
word_count (a ∷ b ∷ c ∷ d ∷ bytes) = let n = word_count bytes in omega arith

-- the bytes of the words, one word after another
bytes_of_words : (bytes : List ℕ) → AreBytes bytes → flat_map bytes_of (words_in bytes) ≡ take (4 * (length bytes / 4)) bytes
bytes_of_words [] h = refl
bytes_of_words (a ∷ []) h = refl
bytes_of_words (a ∷ b ∷ []) h = refl
bytes_of_words (a ∷ b ∷ c ∷ []) h = refl
bytes_of_words (a ∷ b ∷ c ∷ d ∷ bytes) h =
    let more : 4 * (suc (suc (suc (suc (length bytes)))) / 4) ≡ suc (suc (suc (suc (4 * (length bytes / 4))))) = omega arith in
    ap (λ (four : List ℕ). four ++ flat_map bytes_of (words_in bytes)) (four_same a b c d bytes h)
    ∙ ap (λ rest. a ∷ b ∷ c ∷ d ∷ rest) (bytes_of_words bytes (after_four a b c d bytes h))
    ∙ ap (λ n. take n (a ∷ b ∷ c ∷ d ∷ bytes)) (sym more)

later_words : (w : ℕ) (ws : List ℕ) → AreWords (w ∷ ws) → AreWords ws
later_words w ws h k d l = h (suc k) d (omega arith)

-- words are told by their bytes
words_back : (ws : List ℕ) → AreWords ws → words_in (flat_map bytes_of ws) ≡ ws
words_back [] h = refl
words_back (w ∷ ws) h =
    ap (λ (n : ℕ). n ∷ words_in (flat_map bytes_of ws)) (word_round_trip.bytes w (h 0 0 (omega arith)))
    ∙ ap (λ rest. w ∷ rest) (words_back ws (later_words w ws h))

fit : (bytes : List ℕ) → AreBytes bytes → AreWords (words_in bytes)
fit [] h k e l = absurd (omega arith)
fit (a ∷ []) h k e l = absurd (omega arith)
fit (a ∷ b ∷ []) h k e l = absurd (omega arith)
fit (a ∷ b ∷ c ∷ []) h k e l = absurd (omega arith)
fit (a ∷ b ∷ c ∷ d ∷ bytes) h zero e l = omega (arith, h 0, h 1, h 2, h 3)
fit (a ∷ b ∷ c ∷ d ∷ bytes) h (suc k) e l = fit bytes (after_four a b c d bytes h) k e (omega arith)

pub words_of_file : (words file : List ℕ) → AreBytes file → words ≡ words_in (take 65536 file) → WordsOfFile words file
words_of_file words file h e =
    let read : List ℕ = take 65536 file in
    let g = are_bytes-take 65536 file h in
    let n : length words ≡ length read / 4 = ap length e ∙ word_count read in
    let m : length read ≡ min 65536 (length file) = length-take 65536 file in
    let bytes : flat_map bytes_of words ≡ take (4 * length words) file =
    ap (flat_map bytes_of) e ∙ bytes_of_words read g ∙ ap (λ k. take (4 * k) read) (sym n)
    ∙ take-take (4 * length words) 65536 file (omega arith) in
    record {
      count = n ∙ ap (λ k. k / 4) m;
      bytes = bytes;
      only = λ others w same.
          sym (words_back others w) ∙ ap words_in (same ∙ ap (flat_map bytes_of) e) ∙ words_back (words_in read) (fit read g) ∙ sym e;
    }

-- words that are written as the fours are those of the bytes
told : (words bytes : List ℕ) → AreWords words → map bytes_of words ≡ first_chunks 4 (length bytes / 4) bytes → words ≡ words_in bytes
told words bytes w e = sym (each_back words w) ∙ ap (map of_bytes) e ∙ words_of_fours bytes
  where
    each_back : (ws : List ℕ) → AreWords ws → map of_bytes (map bytes_of ws) ≡ ws
    each_back [] h = refl
    each_back (x ∷ ws) h =
        ap (λ (n : ℕ). n ∷ map of_bytes (map bytes_of ws)) (word_round_trip.bytes x (h 0 0 (omega arith)))
        ∙ ap (λ rest. x ∷ rest) (each_back ws (later_words x ws h))

-- and those of the bytes are written so
fours_told : (words bytes : List ℕ) → AreBytes bytes → words ≡ words_in bytes → map bytes_of words ≡ first_chunks 4 (length bytes / 4) bytes
fours_told words bytes h e = ap (map bytes_of) e ∙ fours_of_words bytes h

abbrev pub Written : ℕ × List ℕ → Type 0
Written p = bytes_of p.0 ≡ p.1

each_written : (words : List ℕ) (fours : List (List ℕ)) → length words ≡ length fours → All Written (zip words fours) → map bytes_of words ≡ fours
each_written [] [] e a = refl
each_written [] (f ∷ fours) e a = absurd (omega arith)
each_written (w ∷ words) [] e a = absurd (omega arith)
each_written (w ∷ words) (f ∷ fours) e a =
    let first : bytes_of w ≡ f = a 0 (w, f) (omega arith) in
    let rest : map bytes_of words ≡ fours = each_written words fours (omega arith) (λ k d l. a (suc k) d (omega arith)) in
    λ i. first i ∷ rest i

written_each : (words : List ℕ) → All Written (zip words (map bytes_of words))
written_each [] k d l = absurd (omega arith)
written_each (w ∷ words) zero d l = refl
written_each (w ∷ words) (suc k) d l = written_each words k d (omega arith)

-- what is asked of the bytes of a file, in one test of the pairs of words and fours
module _ (words file : List ℕ) (w : (i : ℕ) → get_or words i 0 < 2 ^ 32) (h : AreBytes file) (fours : List (List ℕ)) (is : fours ≡ first_chunks 4 (length (take 65536 file) / 4) (take 65536 file)) where
  as_written : words ≡ words_in (take 65536 file) → map bytes_of words ≡ fours
  as_written e = fours_told words (take 65536 file) (are_bytes-take 65536 file h) e ∙ sym is

  pub as_many : words ≡ words_in (take 65536 file) → length words ≡ length fours
  as_many e = sym (length-map words bytes_of) ∙ ap length (as_written e)

  pub from_pairs : length words ≡ length fours → All Written (zip words fours) → words ≡ words_in (take 65536 file)
  from_pairs n a =
      told words (take 65536 file) (λ k d l. subst (λ (n : ℕ). n < 2 ^ 32) (sym (get_or_default words k d 0 l)) (w k)) (each_written words fours n a ∙ is)

  pub to_pairs : words ≡ words_in (take 65536 file) → All Written (zip words fours)
  to_pairs e = subst (λ (fs : List (List ℕ)). All Written (zip words fs)) (as_written e) (written_each words)
