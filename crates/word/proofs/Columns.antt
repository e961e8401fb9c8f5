-- Columns of amounts in a list of words.
use Rattle.std.proofs.Common.{◌≡◌, ℕ, ◌+◌, ◌*◌, ◌<◌, ◌≤◌, ltb, List, length, get_or, pos, Some, None, Option, Bor, sym, refl, ap, ◌∙◌, inl, inr, arith}
use Rattle.std.specs.Option.{MatchOption, option_copied}
use Rattle.std.specs.List.{HoldsAt}
use Rattle.std.proofs.lemmas.Bool.{cases_lt, cond-true, cond-false, lt-ltb, le-ltb}
use Rattle.std.proofs.lemmas.List.{get_or_past}
use Rattle.word.specs.Word.{amount_of}
use Rattle.word.specs.Column.{column_value}

pub value_in : (w : List ℕ) (start count stride i : ℕ) → i < count → column_value w start count stride i ≡ amount_of (get_or w (start + stride * i) 0)
value_in w start count stride i h = cond-true (ltb i count) (amount_of (get_or w (start + stride * i) 0)) (pos 0) (lt-ltb i count h)

pub value_out : (w : List ℕ) (start count stride i : ℕ) → count ≤ i → column_value w start count stride i ≡ pos 0
value_out w start count stride i h = cond-false (ltb i count) (amount_of (get_or w (start + stride * i) 0)) (pos 0) (le-ltb i count h)

amount_none : amount_of 0 ≡ pos 0
unfolding amount_of
amount_none = refl

-- past the last word
pub value_past : (w : List ℕ) (start count stride i : ℕ) → length w ≤ start + stride * i → column_value w start count stride i ≡ pos 0
value_past w start count stride i h =
    elim (cases_lt i count) [
      | inl l ↦ value_in w start count stride i l ∙ ap amount_of (get_or_past w (start + stride * i) 0 h) ∙ amount_none
      | inr l ↦ value_out w start count stride i l
    ]

-- the word that is found at a row's place, or none
pub value_found : (w : List ℕ) (start count stride i place : ℕ) (o : Option (Bor ℕ)) → i < count → place ≡ start + stride * i → MatchOption o (length w ≤ place) (λ x. (place < length w) × HoldsAt (λ y. x.now ≡ y) w place) → MatchOption (option_copied o) (column_value w start count stride i ≡ pos 0) (λ x. column_value w start count stride i ≡ amount_of x)
value_found w start count stride i place None h e f = value_past w start count stride i (omega arith)
value_found w start count stride i place (Some x) h e f =
    value_in w start count stride i h ∙ ap (λ (k : ℕ). amount_of (get_or w k 0)) (sym e) ∙ ap amount_of (sym (f.1 0))
