-- The papers of a list of words are the one way to cut it after each end word.
use Rattle.std.proofs.Common.{◌≡◌, ℕ, suc, ◌+◌, ◌<◌, Bool, true, false, cond, ◌⊎◌, List, [], ◌∷◌, ◌++◌, length, get_or, take, drop, sym, refl, ap, ◌∙◌, inl, inr, append_assoc, append-nil, arith, subst, not, Some, None, ltb, ltb-true, ltb-false}
use Rattle.std.proofs.lemmas.List.Sums.{passes_at_first}
use Rattle.std.specs.List.{position, position_or_len}
use Rattle.std.specs.Option.{option_map_or}
use Rattle.std.proofs.lemmas.List.{take-append-drop, take_more, drop_more, take_all, drop_all}
use Rattle.paper_file.specs.Papers.{is_end, with_word, papers, FirstPaper}
use Rattle.paper_file.specs.Laws.{joined, NoEnd, Ended, Unended, Cut, NoEmpty, PapersCut}

-- the papers of a word and of words after it, by whether it is an end word
abbrev paper_step : Bool → ℕ → List (List ℕ) → List (List ℕ)
paper_step ends word ps = cond ends ((word ∷ []) ∷ ps) (with_word word ps)

no_end_before : (words : List ℕ) → NoEnd (take (position_or_len is_end words) words)
no_end_before [] = tt
no_end_before (x ∷ xs) = go (is_end x) refl (no_end_before xs)
  where
    go : (b : Bool) → is_end x ≡ b → NoEnd (take (position_or_len is_end xs) xs) → NoEnd (take (cond (not b) (1 + position_or_len is_end xs) 0) (x ∷ xs))
    go true e h = tt
    go false e h =
        let more : suc (position_or_len is_end xs) ≡ 1 + position_or_len is_end xs = omega arith in
        subst (λ n. NoEnd (take n (x ∷ xs))) more (e, h)

pub papers-ended : (front : List ℕ) (end : ℕ) (rest : List ℕ) → NoEnd front → is_end end ≡ true → papers (front ++ (end ∷ rest)) ≡ (front ++ (end ∷ [])) ∷ papers rest
papers-ended [] end rest h e = ap (λ b. paper_step b end (papers rest)) e
papers-ended (x ∷ xs) end rest h e = ap (λ b. paper_step b x (papers (xs ++ (end ∷ rest)))) h.0 ∙ ap (with_word x) (papers-ended xs end rest h.1 e)

pub papers-unended : (words : List ℕ) → 0 < length words → NoEnd words → papers words ≡ words ∷ []
papers-unended [] some h = absurd (omega arith)
papers-unended (x ∷ []) some h = ap (λ b. paper_step b x []) h.0
papers-unended (x ∷ y ∷ ys) some h = ap (λ b. paper_step b x (papers (y ∷ ys))) h.0 ∙ ap (with_word x) (papers-unended (y ∷ ys) (omega arith) h.1)

-- the first n words, where an end word is the first at n, or no word is one
first_ended : (words : List ℕ) (i : ℕ) → i < length words → NoEnd (take i words) → is_end (get_or words i 0) ≡ true → FirstPaper words (i + 1)
first_ended words i h none e = record {
  within = omega arith;
  some = λ _. omega arith;
  first = λ _.
      ap papers (sym (take-append-drop i words) ∙ ap (λ r. take i words ++ r) (drop_more words i 0 h))
      ∙ papers-ended (take i words) (get_or words i 0) (drop (i + 1) words) none e
      ∙ ap (λ p. p ∷ papers (drop (i + 1) words)) (sym (take_more words i 0 h));
}

first-unended : (words : List ℕ) → NoEnd words → FirstPaper words (length words)
first-unended words none = record {
  within = omega arith;
  some = λ h. h;
  first = λ h. papers-unended words h none ∙ (λ i. sym (take_all (length words) words (omega arith)) i ∷ papers (sym (drop_all (length words) words (omega arith)) i));
}

pub first_paper : (words : List ℕ) → FirstPaper words (option_map_or (λ i. i + 1) (position is_end words) (length words))
first_paper words = go (ltb (position_or_len is_end words) (length words)) refl
  where
    go : (b : Bool) → ltb (position_or_len is_end words) (length words) ≡ b
        → FirstPaper words (option_map_or (λ i. i + 1) (cond b (Some (position_or_len is_end words)) None) (length words))
    go true e =
        let h = ltb-true _ _ e in
        first_ended words (position_or_len is_end words) h (no_end_before words) (passes_at_first is_end words 0 h)
    go false e = first-unended words (subst NoEnd (take_all _ words (ltb-false _ _ e)) (no_end_before words))

joins_step : (b : Bool) (word : ℕ) (ps : List (List ℕ)) → joined (paper_step b word ps) ≡ word ∷ joined ps
joins_step true word ps = refl
joins_step false word [] = refl
joins_step false word (p ∷ ps) = refl

joins : (words : List ℕ) → joined (papers words) ≡ words
joins [] = refl
joins (x ∷ xs) = joins_step (is_end x) x (papers xs) ∙ ap (λ ws. x ∷ ws) (joins xs)

no_empty_step : (b : Bool) (word : ℕ) (ps : List (List ℕ)) → NoEmpty ps → NoEmpty (paper_step b word ps)
no_empty_step true word ps h = (omega arith, h)
no_empty_step false word [] h = (omega arith, tt)
no_empty_step false word (p ∷ ps) h = (omega arith, h.1)

no_empty : (words : List ℕ) → NoEmpty (papers words)
no_empty [] = tt
no_empty (x ∷ xs) = no_empty_step (is_end x) x (papers xs) (no_empty xs)

alone : (word : ℕ) → is_end word ≡ true → Ended (word ∷ [])
alone word e = record { front = []; end = word; parts = refl; ends = e; only = tt }

longer : (word : ℕ) (p : List ℕ) → is_end word ≡ false → Ended p → Ended (word ∷ p)
longer word p e h = record { front = word ∷ h.front; end = h.end; parts = ap (λ q. word ∷ q) h.parts; ends = h.ends; only = (e, h.only) }

last_longer : (word : ℕ) (p : List ℕ) → is_end word ≡ false → Ended p ⊎ Unended p → Ended (word ∷ p) ⊎ Unended (word ∷ p)
last_longer word p e (inl h) = inl (longer word p e h)
last_longer word p e (inr h) = inr (record { some = omega arith; none = (e, h.none) })

cut_step : (b : Bool) (word : ℕ) (ps : List (List ℕ)) → is_end word ≡ b → Cut ps → Cut (paper_step b word ps)
cut_step true word [] e h = inl (alone word e)
cut_step true word (p ∷ ps) e h = (alone word e, h)
cut_step false word [] e h = inr (record { some = omega arith; none = (e, tt) })
cut_step false word (p ∷ []) e h = last_longer word p e h
cut_step false word (p ∷ q ∷ ps) e h = (longer word p e h.0, h.1)

cut : (words : List ℕ) → Cut (papers words)
cut [] = tt
cut (x ∷ xs) = cut_step (is_end x) x (papers xs) refl (cut xs)

-- an ended paper before other words is the first of their papers
ended-first : (p rest : List ℕ) → Ended p → papers (p ++ rest) ≡ p ∷ papers rest
ended-first p rest h =
    ap papers (ap (λ q. q ++ rest) h.parts ∙ append_assoc h.front (h.end ∷ []) rest)
    ∙ papers-ended h.front h.end rest h.only h.ends ∙ ap (λ q. q ∷ papers rest) (sym h.parts)

last_only : (p : List ℕ) → Ended p ⊎ Unended p → papers (p ++ []) ≡ p ∷ []
last_only p (inl h) = ended-first p [] h
last_only p (inr h) = ap papers (append-nil p) ∙ papers-unended p h.some h.none

only : (ps : List (List ℕ)) → Cut ps → papers (joined ps) ≡ ps
only [] h = refl
only (p ∷ []) h = last_only p h
only (p ∷ q ∷ ps) h = ended-first p (joined (q ∷ ps)) h.0 ∙ ap (λ rs. p ∷ rs) (only (q ∷ ps) h.1)

pub papers-cut : PapersCut
papers-cut = record { joins = joins; cut = cut; no_empty = no_empty; only = only }
