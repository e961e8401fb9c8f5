-- A lawful case is not refused, and what is refused is so by one fault.
use Rattle.std.proofs.Common.{◌≡◌, ℕ, ◌+◌, ◌<◌, cond, eqb, List, [], ◌∷◌, ◌++◌, length, get_or, take, drop, sym, refl, ap, ◌∙◌, subst, inl, inr, arith}
use Rattle.std.specs.List.{flat_map, AllByRecursion}
use Rattle.std.proofs.lemmas.List.{append_assoc, append-nil, take-append-drop, drop_more}
use Rattle.std.proofs.lemmas.Bool.{cases_order, eq-eqb, cond-true}
use Rattle.word.specs.Fault.{refusal_number}
use Rattle.word.specs.Word.{kind_of, word_of}
use Rattle.word.specs.declared.fault.WordFault.{WordFault}
use Rattle.word.specs.declared.fault.WordRefusal.{WordRefusal}
use Rattle.word.specs.declared.fault.WordRefusal.TheVariants.{Stops, Kind as KindRefusal, Range, Follows}
use Rattle.word.specs.declared.kind.Kind.TheVariants as kind
use Rattle.word.proofs.Words.{kind_word}
use Rattle.case_paper.specs.Case.{rank, Record, record_words, end_word, Formed, CaseForm}
use Rattle.case_paper.specs.Order.{InOrder}
use Rattle.case_paper.specs.Fault.{record_number}
use Rattle.case_paper.specs.CaseFault.{Whole, count_rank, head_count, CountsMet, LawfulCase, OpenWord, Shows, RefusedCase, CaseExact}
use Rattle.case_paper.specs.declared.sort.Sort.{Sort}
use Rattle.case_paper.specs.declared.sort.Sort.TheVariants.{Bus, Stepped, Curved, Branch}
use Rattle.case_paper.specs.declared.fault.RecordFault.{RecordFault}
use Rattle.case_paper.specs.declared.fault.RecordFault.TheVariants.{Word, Order, Count}
use Rattle.case_paper.proofs.States.{first-no_end}
use Rattle.case_paper.proofs.Afters.{open_same, whole_of, completes_whole, completes_same}
use Rattle.case_paper.proofs.Cases.{∷-parts}
use Rattle.case_paper.proofs.Checks.{form_exact}

-- ---- the same number at the same word is the same fault
numbered : ℕ → WordRefusal
numbered n = cond (eqb n 2) Stops (cond (eqb n 3) KindRefusal (cond (eqb n 4) Range Follows))

numbered-back : (r : WordRefusal) → numbered (refusal_number r) ≡ r
unfolding numbered
numbered-back Stops = refl
numbered-back KindRefusal = refl
numbered-back Range = refl
numbered-back Follows = refl

number_same : (r t : WordRefusal) → refusal_number r ≡ refusal_number t → r ≡ t
number_same r t e = sym (numbered-back r) ∙ ap numbered e ∙ numbered-back t

not_order : (r : WordRefusal) → (refusal_number r ≡ 5 → ⊥) × (refusal_number r ≡ 6 → ⊥)
not_order Stops = ((λ e. omega arith), λ e. omega arith)
not_order KindRefusal = ((λ e. omega arith), λ e. omega arith)
not_order Range = ((λ e. omega arith), λ e. omega arith)
not_order Follows = ((λ e. omega arith), λ e. omega arith)

module _ (rows w : List ℕ) (k : ℕ) where
  words_same : (f g : WordFault) → Shows rows w k (Word f) → Shows rows w k (Word g) → refusal_number f.refusal ≡ refusal_number g.refusal → f ≡ g
  words_same f g s t e =
      let r : f.refusal ≡ g.refusal = number_same f.refusal g.refusal e in
      let p : f.place ≡ g.place = sym s.0 ∙ t.0 in
      let o : f.first ≡ g.first = open_same (take f.place w) f.first g.first s.1 (subst (λ (n : ℕ). OpenWord (take n w) g.first) (sym p) t.1) in
      λ i. record { refusal = r i; place = p i; first = o i }

  fault_same : (f g : RecordFault) → Shows rows w k f → Shows rows w k g → record_number f ≡ record_number g → f ≡ g
  fault_same (Word f) (Word g) s t e = ap Word (words_same f g s t e)
  fault_same (Word f) (Order p x) s t e = absurd ((not_order f.refusal).0 e)
  fault_same (Word f) (Count p x) s t e = absurd ((not_order f.refusal).1 e)
  fault_same (Order p x) (Word g) s t e = absurd ((not_order g.refusal).0 (sym e))
  fault_same (Order p x) (Order p' x') (h, rs, r, c, fx, n) (h', rs', r', c', fx', n') e =
      let d = completes_same w k p p' h h' rs rs' r r' c c' in
      let xe : x ≡ x' = fx ∙ ap (λ (z : Record). z.first) d.records ∙ sym fx' in
      λ i. Order (d.places i) (xe i)
  fault_same (Order p x) (Count p' x') s t e = absurd (let z : ◌≡◌ {A = ℕ} 5 6 = e in omega arith)
  fault_same (Count p x) (Word g) s t e = absurd ((not_order g.refusal).1 (sym e))
  fault_same (Count p x) (Order p' x') s t e = absurd (let z : ◌≡◌ {A = ℕ} 6 5 = e in omega arith)
  fault_same (Count p x) (Count p' x') (h, rs, r, c, fx, n) (h', rs', r', c', fx', n') e =
      let d = completes_same w k p p' h h' rs rs' r r' c c' in
      let xe : x ≡ x' = fx ∙ ap (λ (z : Record). z.first) d.records ∙ sym fx' in
      λ i. Count (d.places i) (xe i)

once_at : (rows w : List ℕ) (f g : RecordFault) (a : RefusedCase rows w f) (b : RefusedCase rows w g) → a.at ≡ b.at → f ≡ g
once_at rows w f g a b e =
    elim (cases_order (record_number f) (record_number g)) [
      | inl n ↦ fault_same rows w a.at f g a.shows (subst (λ (j : ℕ). Shows rows w j g) (sym e) b.shows) n
      | inr o ↦ elim o [
        | inl l ↦ absurd (b.first a.at f a.shows (inr (e, l)))
        | inr l ↦ absurd (a.first b.at g b.shows (inr (sym e, l)))
      ]
    ]

once : (rows w : List ℕ) (f g : RecordFault) → RefusedCase rows w f → RefusedCase rows w g → f ≡ g
once rows w f g a b =
    elim (cases_order a.at b.at) [
      | inl e ↦ once_at rows w f g a b e
      | inr o ↦ elim o [
        | inl l ↦ absurd (b.first a.at f a.shows (inl l))
        | inr l ↦ absurd (a.first b.at g b.shows (inl l))
      ]
    ]

-- ---- nothing shows in a lawful case
pub count_append : (k : ℕ) (rs ts : List Record) → count_rank k (rs ++ ts) ≡ count_rank k rs + count_rank k ts
count_append k [] ts = omega arith
count_append k (r ∷ rs) ts = let e = count_append k rs ts in omega arith

pub count_one : (r : Record) → count_rank (rank r.sort) (r ∷ []) ≡ 1
count_one r =
    let e : cond {A = ℕ} (eqb (rank r.sort) (rank r.sort)) 1 0 ≡ 1 = cond-true (eqb (rank r.sort) (rank r.sort)) 1 0 (eq-eqb (rank r.sort) (rank r.sort) refl) in
    omega arith

pub rank-small : (q : Sort) → rank q < 4
rank-small Bus = omega arith
rank-small (Stepped n) = omega arith
rank-small Curved = omega arith
rank-small Branch = omega arith

middle : (rs more : List Record) (r : Record) → AllByRecursion (λ t. InOrder t.sort t.amounts) ((rs ++ (r ∷ [])) ++ more) → InOrder r.sort r.amounts
middle [] more r a = a.0
middle (t ∷ rs) more r a = middle rs more r a.1

-- no record begins with an end word
pub no_more : (more : List Record) (x : ℕ) (v : List ℕ) → AllByRecursion Formed more → flat_map record_words more ++ end_word ≡ x ∷ v → kind_of x ≡ kind.End → more ≡ []
no_more [] x v f q e = refl
no_more (t ∷ ts) x v f q e = absurd (first-no_end t.sort t.first f.0.0 (ap kind_of (∷-parts q).0 ∙ e))

-- the words of a case give its head and its records
pub form_same : (w : List ℕ) (c d : CaseForm w) → (c.head ≡ d.head) × (c.records ≡ d.records)
form_same w c d =
    let front : List ℕ = d.head ++ flat_map record_words d.records in
    let whole : Whole front d.head d.records = record { words = refl; headed = d.headed; formed = d.formed } in
    let s = whole_of w d.head front d.records c whole end_word (d.words ∙ sym (append_assoc d.head (flat_map record_words d.records) end_word)) in
    let none = no_more s.1.more (word_of kind.End 0) [] s.1.formed s.1.rest (kind_word kind.End 0 (omega arith)) in
    (s.0, s.1.same ∙ ap (λ (l : List Record). d.records ++ l) none ∙ append-nil d.records)

no_end_inside : (w h : List ℕ) (k : ℕ) (rs : List Record) (c : CaseForm w) → k < length w → Whole (take k w) h rs → kind_of (get_or w k 0) ≡ kind.End → c.records ≡ rs
no_end_inside w h k rs c l v e =
    let x : ℕ = get_or w k 0 in
    let s = whole_of w h (take k w) rs c v (x ∷ drop (k + 1) w) (sym (take-append-drop k w) ∙ ap (λ (u : List ℕ). take k w ++ u) (drop_more w k 0 l)) in
    s.1.same ∙ ap (λ (u : List Record). rs ++ u) (no_more s.1.more x (drop (k + 1) w) s.1.formed s.1.rest e) ∙ append-nil rs

lawful_quiet : (rows w : List ℕ) → LawfulCase rows w → (k : ℕ) (f : RecordFault) → Shows rows w k f → ⊥
lawful_quiet rows w a k (Word f) (e, o, inl r) = form_exact.accepted w f.refusal f.place a.form r
lawful_quiet rows w a k (Word f) (e, o, inr (q, x)) =
    let p : ℕ = f.place in
    let s = whole_of w x.head (take p w) x.records a.form x.whole (drop p w) (sym (take-append-drop p w)) in
    let m = no_end_inside w x.head p x.records a.form x.inside x.whole x.ends in
    x.unmet (subst (λ (h : List ℕ). CountsMet h x.records) s.0 (subst (λ (rs : List Record). CountsMet a.form.head rs) m a.met))
lawful_quiet rows w a k (Order p x) (h, rs, r, c, fx, n) =
    let s = whole_of w h (take (k + 1) w) (rs ++ (r ∷ [])) a.form (completes_whole w k p h rs r c) (drop (k + 1) w) (sym (take-append-drop (k + 1) w)) in
    n (middle rs s.1.more r (subst (AllByRecursion (λ t. InOrder t.sort t.amounts)) s.1.same a.ordered))
lawful_quiet rows w a k (Count p x) (h, rs, r, c, fx, n) =
    let s = whole_of w h (take (k + 1) w) (rs ++ (r ∷ [])) a.form (completes_whole w k p h rs r c) (drop (k + 1) w) (sym (take-append-drop (k + 1) w)) in
    let j : ℕ = rank r.sort in
    let b = rank-small r.sort in
    let t : count_rank j a.form.records ≡ (count_rank j rs + count_rank j (r ∷ [])) + count_rank j s.1.more =
    ap (count_rank j) s.1.same ∙ count_append j (rs ++ (r ∷ [])) s.1.more ∙ ap (λ (n : ℕ). n + count_rank j s.1.more) (count_append j rs (r ∷ [])) in
    let o = count_one r in
    let m : count_rank j a.form.records ≡ head_count h j = a.met j b ∙ ap (λ (l : List ℕ). head_count l j) s.0 in
    let f = a.fitting j b in
    n (omega arith, omega arith)

pub case_exact : CaseExact
case_exact =
    record {
      accepted = λ rows w f a r. lawful_quiet rows w a r.at f r.shows;
      once = once;
    }
