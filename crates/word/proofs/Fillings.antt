-- Runs of amounts within a range, and the words of a head, a name and an end.
use Rattle.std.proofs.Common.{rules, ◌≡◌, ℕ, zero, suc, ◌+◌, ◌*◌, ◌<◌, List, [], ◌∷◌, ◌++◌, map, length, get_or, ℤ, pos, ◌≤ℤ◌, sym, refl, ap, ◌∙◌, subst, inl, inr, arith}
use Rattle.std.specs.List.{AllByRecursion}
use Rattle.std.proofs.lemmas.List.{get_or-append-add, get_or_past}
use Rattle.std.proofs.lemmas.Bool.{cases_lt}
use Rattle.word.specs.Word.{amount_of, word_of, amount_word}
use Rattle.word.specs.Laws.{Short}
use Rattle.word.specs.Slot.{Fits, Matches}
use Rattle.word.specs.Run.{in_turn}
use Rattle.word.specs.Column.{column_value}
use Rattle.word.specs.declared.kind.Kind.TheVariants as kind
use Rattle.word.specs.declared.slot.Slot.TheVariants.{Head, Amount, End}
use Rattle.word.proofs.Words.{word_at, kind_word, amount_same, amount_back, amount_kind}
use Rattle.word.proofs.Columns.{value_in, value_out}

pub head_known : kind.Head ≡ kind.Unknown → ⊥
head_known e = search rules

pub bus_known : kind.Bus ≡ kind.Unknown → ⊥
bus_known e = search rules

pub branch_known : kind.Branch ≡ kind.Unknown → ⊥
branch_known e = search rules

pub end_known : kind.End ≡ kind.Unknown → ⊥
end_known e = search rules

pub head_word : (h x : ℕ) → Fits (Head h) x → x ≡ word_of kind.Head h
head_word h x f = word_at x kind.Head h f.0 head_known f.1

pub end_word-is : (x : ℕ) → Fits End x → x ≡ word_of kind.End 0
end_word-is x f = word_at x kind.End 0 f.0 end_known f.1

pub head_fits : (h : ℕ) → h < 268435456 → Fits (Head h) (word_of kind.Head h)
head_fits h l = (kind_word kind.Head h l, omega arith)

pub end_fits : Fits End (word_of kind.End 0)
end_fits = (kind_word kind.End 0 (omega arith), refl)

pub last_word : (w : List ℕ) → Matches (End ∷ []) w → w ≡ word_of kind.End 0 ∷ []
last_word [] m = absurd m
last_word (x ∷ []) m = ap (λ (y : ℕ). y ∷ []) (end_word-is x m.0)
last_word (x ∷ y ∷ w) m = absurd m.1

module _ (least most : ℤ) where
  abbrev pub Between : ℤ → Type 0
  Between z = (least ≤ℤ z) × (z ≤ℤ most)

  pub amount_fits : (z : ℤ) → Short z → Between z → Fits (Amount least most) (amount_word z)
  amount_fits z s b = (amount_kind z, subst Between (sym (amount_back z s)) b)

  -- words that fit a run of amounts are what their amounts write
  pub run_words : (n : ℕ) (u : List ℕ) → Matches (in_turn n (Amount least most) (Amount least most)) u → (u ≡ map amount_word (map amount_of u)) × (length (map amount_of u) ≡ n) × AllByRecursion Between (map amount_of u)
  run_words zero [] m = (refl, refl, tt)
  run_words zero (x ∷ u) m = absurd m
  run_words (suc n) [] m = absurd m
  run_words (suc n) (x ∷ u) m =
      let r = run_words n u m.1 in
      let e : x ≡ amount_word (amount_of x) = sym (amount_same x m.0.0) in
      (ap (λ (y : ℕ). y ∷ u) e ∙ ap (λ (l : List ℕ). amount_word (amount_of x) ∷ l) r.0, ap suc r.1, (m.0.1, r.2))

  -- and what amounts in the range write fits the run
  pub words_run : ((z : ℤ) → Between z → Short z) → (zs : List ℤ) → AllByRecursion Between zs → Matches (in_turn (length zs) (Amount least most) (Amount least most)) (map amount_word zs)
  words_run fit [] a = tt
  words_run fit (z ∷ zs) a = (amount_fits z (fit z a.0) a.0, words_run fit zs a.1)

-- the amounts that a run's words give, by place
get_or-run : (zs : List ℤ) (rest : List ℕ) (i : ℕ) → i < length zs → AllByRecursion Short zs → amount_of (get_or (map amount_word zs ++ rest) i 0) ≡ get_or zs i (pos 0)
get_or-run [] rest i h a = absurd (omega arith)
get_or-run (z ∷ zs) rest zero h a = amount_back z a.0
get_or-run (z ∷ zs) rest (suc i) h a = get_or-run zs rest i (omega arith) a.1

pub column_run : (w pre : List ℕ) (zs : List ℤ) (rest : List ℕ) (start count i : ℕ) → w ≡ pre ++ (map amount_word zs ++ rest) → length pre ≡ start → length zs ≡ count → AllByRecursion Short zs → column_value w start count 1 i ≡ get_or zs i (pos 0)
column_run w pre zs rest start count i e l n a =
    elim (cases_lt i count) [
      | inl h ↦
          let j : start + 1 * i ≡ length pre + i = omega arith in
          value_in w start count 1 i h ∙ ap (λ (k : ℕ). amount_of (get_or w k 0)) j ∙ ap (λ (v : List ℕ). amount_of (get_or v (length pre + i) 0)) e
          ∙ ap amount_of (get_or-append-add pre (map amount_word zs ++ rest) i 0) ∙ get_or-run zs rest i (omega arith) a
      | inr h ↦ value_out w start count 1 i h ∙ sym (get_or_past zs i (pos 0) (omega arith))
    ]
