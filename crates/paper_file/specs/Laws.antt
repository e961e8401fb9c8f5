-- What it is to cut a list of words after each end word, and to tell a paper's call by its head.
use Rattle.std.specs.Prelude.{◌≡◌, ℕ, ◌<◌, true, false, ◌⊎◌, List, [], ◌∷◌, ◌++◌, length, ◌≢◌}
use Rattle.word.specs.Word.{word_of}
use Rattle.word.specs.declared.kind.Kind.TheVariants.{Head}
use Rattle.paper_file.specs.Calls.{head_number, call_for}
use Rattle.paper_file.specs.Papers.{is_end, papers}
use Rattle.paper_file.specs.declared.call.Call.{Call}
use Rattle.paper_file.specs.declared.call.Call.TheVariants.{Dispatch}

abbrev pub joined : List (List ℕ) → List ℕ
joined [] = []
joined (p ∷ ps) = p ++ joined ps

abbrev pub NoEnd : List ℕ → Type 0
NoEnd [] = Unit {0}
NoEnd (word ∷ words) = (is_end word ≡ false) × NoEnd words

-- the paper ends in its only end word
pub record Ended (p : List ℕ) : Type 0 where
  pub front : List ℕ
  pub end : ℕ
  pub parts : p ≡ front ++ (end ∷ [])
  pub ends : is_end end ≡ true
  pub only : NoEnd front

-- the paper has words, and no end word
pub record Unended (p : List ℕ) : Type 0 where
  pub some : 0 < length p
  pub none : NoEnd p

-- each paper ends in its only end word; the last may have no end word
abbrev pub Cut : List (List ℕ) → Type 0
Cut [] = Unit {0}
Cut (p ∷ []) = Ended p ⊎ Unended p
Cut (p ∷ q ∷ ps) = Ended p × Cut (q ∷ ps)

-- no paper is empty
abbrev pub NoEmpty : List (List ℕ) → Type 0
NoEmpty [] = Unit {0}
NoEmpty (p ∷ ps) = (0 < length p) × NoEmpty ps

pub record PapersCut : Type 0 where
  pub joins : (words : List ℕ) → joined (papers words) ≡ words
  pub cut : (words : List ℕ) → Cut (papers words)
  pub no_empty : (words : List ℕ) → NoEmpty (papers words)
  pub only : (ps : List (List ℕ)) → Cut ps → papers (joined ps) ≡ ps

-- a paper with a call's head goes to that call, and all others go in as dispatches
pub record CallsTold : Type 0 where
  pub by_head : (call : Call) (words : List ℕ) → call_for (word_of Head (head_number call) ∷ words) ≡ call
  pub others : (words : List ℕ) → ((call : Call) (rest : List ℕ) → words ≢ word_of Head (head_number call) ∷ rest) → call_for words ≡ Dispatch
