-- Papers brought to a manned panel one after another.
use Rattle.std.proofs.Common.{◌≡◌, ℕ, ◌<◌, List, [], ◌∷◌, ◌++◌, length, take, drop, All, sym, refl, ap, ◌∙◌, append_assoc, append-nil}
use Rattle.std.proofs.lemmas.List.Elements.{All-nil, All-cons, All-append}
use Rattle.std.specs.List.{flat_map}
use Rattle.machine.specs.Meaning.{Meaning}
use Rattle.paper_file.specs.Papers.{papers, FirstPaper}
use Rattle.standing.specs.Panel.{State}
use Rattle.panel_model.specs.Network.{network}
use Rattle.answer.specs.Laws.{AnswerFits}
use Rattle.answer.specs.Printed.{printed}
use Rattle.answer.specs.declared.answer.Answer.{Answer}
use Rattle.file_run.specs.Called.{CalledSo}
use Rattle.file_run.specs.Papers.{PapersAnswered, Printed}
use Rattle.file_run.specs.Papers.PapersRun.{none, next}

-- ---- lines
flat_map-append : (xs ys : List Answer) → flat_map printed (xs ++ ys) ≡ flat_map printed xs ++ flat_map printed ys
flat_map-append [] ys = refl
flat_map-append (x ∷ xs) ys = ap (λ z. printed x ++ z) (flat_map-append xs ys) ∙ sym (append_assoc (printed x) (flat_map printed xs) (flat_map printed ys))

-- the text goes on with the lines of one answer more
pub line_more : (before middle after : List ℕ) (xs : List Answer) (a : Answer) → middle ≡ before ++ flat_map printed xs → after ≡ middle ++ printed a → after ≡ before ++ flat_map printed (xs ++ (a ∷ []))
line_more before middle after xs a e f =
    f ∙ ap (λ z. z ++ printed a) e ∙ append_assoc before (flat_map printed xs) (printed a)
    ∙ ap (λ z. before ++ z) (ap (λ z. flat_map printed xs ++ z) (sym (append-nil (printed a))) ∙ sym (flat_map-append xs (a ∷ [])))

-- and each number of it lies in the range of its type
pub fits_more : (xs : List Answer) (a : Answer) → All AnswerFits xs → AnswerFits a → All AnswerFits (xs ++ (a ∷ []))
fits_more xs a h f = All-append AnswerFits xs (a ∷ []) h (All-cons AnswerFits a [] f (All-nil AnswerFits))

module _ {M N : Type 0} (𝓜 : Meaning M) (𝓝 : Meaning N) (s t : State (network 𝓜 𝓝)) (words : List ℕ) where
  -- the papers of the words are done but for those of the rest
  pub record SoFar (rest before after : List ℕ) : Type 0 where
    pub done : List (List ℕ)
    pub cut : papers words ≡ done ++ papers rest
    pub printed : Printed (PapersAnswered 𝓜 𝓝 s done t) before after

module _ {M N : Type 0} (𝓜 : Meaning M) (𝓝 : Meaning N) (s : State (network 𝓜 𝓝)) where
  none_done : PapersAnswered 𝓜 𝓝 s [] s []
  none_done = record { calls = []; sheets = []; run = none }

  one_done : (t u : State (network 𝓜 𝓝)) (ps : List (List ℕ)) (xs : List Answer) (p : List ℕ) (a : Answer) → PapersAnswered 𝓜 𝓝 s ps t xs → CalledSo 𝓜 𝓝 p t u a → PapersAnswered 𝓜 𝓝 s (ps ++ (p ∷ [])) u (xs ++ (a ∷ []))
  one_done t u ps xs p a h k = record { calls = k.0 ∷ h.calls; sheets = _; run = next h.run k.1 }

module _ {M N : Type 0} (𝓜 : Meaning M) (𝓝 : Meaning N) (s : State (network 𝓜 𝓝)) (words before : List ℕ) where
  pub begins : SoFar 𝓜 𝓝 s s words words before before
  begins = record { done = []; cut = refl; printed = record { answers = []; such = none_done 𝓜 𝓝 s; fits = All-nil AnswerFits; lines = sym (append-nil before) } }

  -- the first paper of the rest is answered
  pub one_more :
      (t u : State (network 𝓜 𝓝)) (rest paper later middle after : List ℕ) (n : ℕ) (a : Answer) → SoFar 𝓜 𝓝 s t words rest before middle →
      0 < length rest → FirstPaper rest n → paper ≡ take n rest → later ≡ drop n rest → CalledSo 𝓜 𝓝 paper t u a → AnswerFits a → after ≡ middle ++ printed a →
      SoFar 𝓜 𝓝 s u words later before after
  one_more t u rest paper later middle after n a h some first p q k f e =
      let cut : papers rest ≡ paper ∷ papers later = first.first some ∙ (λ i. sym p i ∷ papers (sym q i)) in
      record {
        done = h.done ++ (paper ∷ []);
        cut = h.cut ∙ ap (λ z. h.done ++ z) cut ∙ sym (append_assoc h.done (paper ∷ []) (papers later));
        printed = record {
          answers = h.printed.answers ++ (a ∷ []);
          such = one_done 𝓜 𝓝 s t u h.done h.printed.answers paper a h.printed.such k;
          fits = fits_more h.printed.answers a h.printed.fits f;
          lines = line_more before middle after h.printed.answers a h.printed.lines e;
        };
      }
