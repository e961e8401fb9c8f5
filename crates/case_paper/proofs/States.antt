-- The states of the reader of a case.
use Rattle.std.proofs.Common.{rules, ◌≡◌, ℕ, ◌+◌, ◌<◌, ◌≤◌, ltb, ◌⊎◌, length, sym, refl, ap, ◌∙◌, subst, inl, inr, arith}
use Rattle.std.proofs.lemmas.List.{length-append, length-replicate}
use Rattle.std.proofs.lemmas.Bool.{cond-true, cond-false, lt-ltb, le-ltb, cases_lt}
use Rattle.word.specs.Word.{kind_of, payload_of}
use Rattle.word.specs.declared.kind.Kind.{Kind}
use Rattle.word.specs.declared.kind.Kind.TheVariants as kind
use Rattle.word.specs.declared.place.Place.{Place}
use Rattle.word.specs.declared.place.Place.TheVariants as place
use Rattle.case_paper.specs.Case.{sort_at, sort_of, FirstWord, amounts_of, sort_kind}
use Rattle.case_paper.specs.State.{after_sort, opened, read_more, begun, next, Takes, Good, AtRecord}
use Rattle.case_paper.specs.declared.sort.Sort.{Sort}
use Rattle.case_paper.specs.declared.sort.Sort.TheVariants.{Bus, Stepped, Curved, Branch}
use Rattle.case_paper.specs.declared.state.Open.{Open}
use Rattle.case_paper.specs.declared.state.State.{State}
use Rattle.case_paper.specs.declared.state.State.TheVariants.{Head, Counts, Next, Amounts, Done}

pub amounts_short : (s : Sort) (first : ℕ) → FirstWord s first → length (amounts_of s) ≤ 18
amounts_short Bus first f = omega arith
amounts_short (Stepped n) first f = simp (length-append, length-replicate) (omega arith)
amounts_short Curved first f = omega arith
amounts_short Branch first f = omega arith

pub first_kind : (s : Sort) (x : ℕ) → FirstWord s x → kind_of x ≡ sort_kind s
first_kind Bus x f = f.0
first_kind (Stepped n) x f = f.0
first_kind Curved x f = f.0
first_kind Branch x f = f.0

pub first-sort : (s : Sort) (x : ℕ) → FirstWord s x → sort_of x ≡ s
first-sort Bus x f = ap (λ (k : Kind). sort_at k (payload_of x)) f.0
first-sort (Stepped n) x f = ap (λ (k : Kind). sort_at k (payload_of x)) f.0 ∙ ap Stepped f.1
first-sort Curved x f = ap (λ (k : Kind). sort_at k (payload_of x)) f.0
first-sort Branch x f = ap (λ (k : Kind). sort_at k (payload_of x)) f.0

-- no record begins with an end word
pub sort_no_end : (s : Sort) → sort_kind s ≡ kind.End → ⊥
sort_no_end Bus e = search rules
sort_no_end (Stepped n) e = search rules
sort_no_end Curved e = search rules
sort_no_end Branch e = search rules

pub first-no_end : (s : Sort) (x : ℕ) → FirstWord s x → kind_of x ≡ kind.End → ⊥
first-no_end s x f e = sort_no_end s (sym (first_kind s x f) ∙ e)

-- whether a word is an end word
pub end_or_not : (k : Kind) → (k ≡ kind.End) ⊎ (k ≡ kind.End → ⊥)
end_or_not kind.Unknown = inr (λ e. search rules)
end_or_not kind.Head = inr (λ e. search rules)
end_or_not kind.Bus = inr (λ e. search rules)
end_or_not kind.Stepped = inr (λ e. search rules)
end_or_not kind.Curved = inr (λ e. search rules)
end_or_not kind.Branch = inr (λ e. search rules)
end_or_not kind.Amount = inr (λ e. search rules)
end_or_not kind.End = inl refl

pub next-end : (p : Place) (x : ℕ) → kind_of x ≡ kind.End → next (Next p) x ≡ Done
next-end p x e = ap (λ (k : Kind). begun k x) e

begun-record : (k : Kind) (x : ℕ) → (k ≡ kind.End → ⊥) → begun k x ≡ Amounts (opened (sort_of x) x)
begun-record kind.Unknown x n = refl
begun-record kind.Head x n = refl
begun-record kind.Bus x n = refl
begun-record kind.Stepped x n = refl
begun-record kind.Curved x n = refl
begun-record kind.Branch x n = refl
begun-record kind.Amount x n = refl
begun-record kind.End x n = absurd (n refl)

pub next-record : (p : Place) (x : ℕ) → (kind_of x ≡ kind.End → ⊥) → next (Next p) x ≡ Amounts (opened (sort_of x) x)
next-record p x n = begun-record (kind_of x) x n

pub next-count : (read x : ℕ) → read + 1 < 5 → next (Counts read) x ≡ Counts (read + 1)
next-count read x h = cond-true (ltb (read + 1) 5) (Counts (read + 1)) (Next place.Buses) (lt-ltb (read + 1) 5 h)

pub next-counted : (read x : ℕ) → 5 ≤ read + 1 → next (Counts read) x ≡ Next place.Buses
next-counted read x h = cond-false (ltb (read + 1) 5) (Counts (read + 1)) (Next place.Buses) (le-ltb (read + 1) 5 h)

pub next_more : (o : Open) (x : ℕ) → o.read + 1 < length (amounts_of o.sort) → next (Amounts o) x ≡ Amounts (read_more o)
next_more o x h = cond-true (ltb (o.read + 1) (length (amounts_of o.sort))) (Amounts (read_more o)) (Next (after_sort o.sort)) (lt-ltb (o.read + 1) (length (amounts_of o.sort)) h)

pub next_last : (o : Open) (x : ℕ) → length (amounts_of o.sort) ≤ o.read + 1 → next (Amounts o) x ≡ Next (after_sort o.sort)
next_last o x h = cond-false (ltb (o.read + 1) (length (amounts_of o.sort))) (Amounts (read_more o)) (Next (after_sort o.sort)) (le-ltb (o.read + 1) (length (amounts_of o.sort)) h)

pub after-record : (s : Sort) → AtRecord (after_sort s)
after-record Bus = tt
after-record (Stepped n) = tt
after-record Curved = tt
after-record Branch = tt

pub amounts_some : (s : Sort) (first : ℕ) → FirstWord s first → 0 < length (amounts_of s)
amounts_some Bus first f = omega arith
amounts_some (Stepped n) first f = simp (length-append, length-replicate) (omega arith)
amounts_some Curved first f = omega arith
amounts_some Branch first f = omega arith

pub good_next : (s : State) (x : ℕ) → Good s → Takes s x → Good (next s x)
good_next Head x g t = let h : 0 < 5 = omega arith in h
good_next (Counts read) x g t =
    elim (cases_lt (read + 1) 5) [
      | inl h ↦ subst (λ (z : State). Good z) (sym (next-count read x h)) h
      | inr h ↦ subst (λ (z : State). Good z) (sym (next-counted read x h)) tt
    ]
good_next (Next p) x g t =
    elim (end_or_not (kind_of x)) [
      | inl e ↦ subst (λ (z : State). Good z) (sym (next-end p x e)) tt
      | inr n ↦ subst (λ (z : State). Good z) (sym (next-record p x n)) (t.1.1 n, amounts_some (sort_of x) x (t.1.1 n))
    ]
good_next (Amounts o) x g t =
    elim (cases_lt (o.read + 1) (length (amounts_of o.sort))) [
      | inl h ↦ subst (λ (z : State). Good z) (sym (next_more o x h)) (g.0, h)
      | inr h ↦ subst (λ (z : State). Good z) (sym (next_last o x h)) (after-record o.sort)
    ]
good_next Done x g t = tt
