-- A paper's call is told by its head.
use Rattle.std.proofs.Common.{◌≡◌, ℕ, Bool, true, false, cond, eqb, ◌⊎◌, List, [], ◌∷◌, refl, ap, ◌∙◌, inl, inr, arith, eqb-true}
use Rattle.word.proofs.Words.{word_at}
use Rattle.word.specs.Word.{kind_of, payload_of, word_of}
use Rattle.word.specs.declared.kind.Kind.{Kind}
use Rattle.word.specs.declared.kind.Kind.TheVariants as kind
use Rattle.paper_file.specs.Calls.{head_number, call_numbered, call_by, call_for}
use Rattle.paper_file.specs.Laws.{CallsTold}
use Rattle.paper_file.specs.declared.call.Call.{Call}
use Rattle.paper_file.specs.declared.call.Call.TheVariants.{Dispatch, Prices, Demand, Mark, Trial, HandOver}

by_head : (call : Call) (words : List ℕ) → call_for (word_of kind.Head (head_number call) ∷ words) ≡ call
unfolding kind_of
by_head Dispatch words = refl
by_head Prices words = refl
by_head Demand words = refl
by_head Mark words = refl
by_head Trial words = refl
by_head HandOver words = refl

-- the call is the dispatch, or has this number
abbrev Numbered : ℕ → Call → Type 0
Numbered n call = (call ≡ Dispatch) ⊎ (n ≡ head_number call)

numbered_step : (n m : ℕ) (call other : Call) → m ≡ head_number call → Numbered n other → Numbered n (cond (eqb n m) call other)
numbered_step n m call other is h = go (eqb n m) refl
  where
    go : (b : Bool) → eqb n m ≡ b → Numbered n (cond b call other)
    go true e = inr (eqb-true n m e ∙ is)
    go false e = h

numbered : (n : ℕ) → Numbered n (call_numbered n)
numbered n =
    numbered_step n 3 Prices _ refl (numbered_step n 4 Demand _ refl (numbered_step n 5 Mark _ refl
    (numbered_step n 6 Trial _ refl (numbered_step n 7 HandOver Dispatch refl (inl refl)))))

headless : (words : List ℕ) → ((call : Call) (rest : List ℕ) → words ≡ word_of kind.Head (head_number call) ∷ rest → ⊥) → call_for words ≡ Dispatch
headless [] none = refl
headless (word ∷ words) none = go (kind_of word) refl
  where
    head : kind_of word ≡ kind.Head → Numbered (payload_of word) (call_numbered (payload_of word)) → call_numbered (payload_of word) ≡ Dispatch
    head k (inl h) = h
    head k (inr h) =
        let apart : kind.Head ≡ kind.Unknown → ⊥ = λ e. let z : ◌≡◌ {A = ℕ} 0 1 = cc in omega arith in
        absurd (none (call_numbered (payload_of word)) words (ap (λ w. w ∷ words) (word_at word kind.Head _ k apart h)))

    go : (k : Kind) → kind_of word ≡ k → call_by k (payload_of word) ≡ Dispatch
    go kind.Unknown e = refl
    go kind.Head e = head e (numbered (payload_of word))
    go kind.Bus e = refl
    go kind.Stepped e = refl
    go kind.Curved e = refl
    go kind.Branch e = refl
    go kind.Amount e = refl
    go kind.End e = refl

pub calls-told : CallsTold
calls-told = record { by_head = by_head; others = headless }
