-- The reader of a case after some of its words, and the four ways in which it stops at a word.
use Rattle.std.proofs.Common.{None, ◌≡◌, ℕ, ◌+◌, ◌<◌, ◌≤◌, true, List, [], ◌∷◌, ◌++◌, length, get_or, take, sym, refl, ap, ◌∙◌, subst, arith}
use Rattle.std.proofs.lemmas.Option.{none-some}
use Rattle.std.proofs.lemmas.List.{take_more, take_all, append-nil, append_assoc}
use Rattle.word.specs.Word.{kind_of}
use Rattle.word.specs.Form.{Begins, Refused, Ended, Exact}
use Rattle.word.specs.Place.{may_stand}
use Rattle.word.specs.declared.kind.Kind.{Kind}
use Rattle.word.specs.declared.fault.WordRefusal.{WordRefusal}
use Rattle.word.specs.declared.fault.WordRefusal.TheVariants.{Stops, Kind as KindRefusal, Range, Follows}
use Rattle.word.proofs.Forms.{refused_like}
use Rattle.word.proofs.Exacts.{exact}
use Rattle.word.proofs.Machines as machine
use Rattle.case_paper.specs.Case.{CaseForm, Record}
use Rattle.case_paper.specs.CaseFault.{OpenWord}
use Rattle.case_paper.specs.State.{state_place, open_first, next, Takes, Missteps, Good}
use Rattle.case_paper.specs.declared.state.State.{State}
use Rattle.case_paper.specs.declared.state.State.TheVariants.{Head, Counts, Next, Amounts, Done}
use Rattle.case_paper.proofs.States.{good_next}
use Rattle.case_paper.proofs.Stages.{Stage, stage_inside}
use Rattle.case_paper.proofs.Cases.{Final, Accepts, case_to, case_from, live, stands_word}
use Rattle.case_paper.proofs.Afters.{run, inside_open}

-- the words p are taken, and lead to this state
pub record Read (p : List ℕ) (s : State) (h : List ℕ) (rs : List Record) : Type 0 where
  pub runs : machine.Runs State Takes next Final Head p
  pub state : s ≡ run Head p
  pub good : Good s
  pub stage : Stage s p h rs

-- one word more, with whatever records there are after it
pub read_next : (w : List ℕ) (i : ℕ) (s s' : State) (h h' : List ℕ) (rs rs' : List Record) → Read (take i w) s h rs → i < length w → Takes s (get_or w i 0) → s' ≡ next s (get_or w i 0) → Stage (next s (get_or w i 0)) (take i w ++ (get_or w i 0 ∷ [])) h' rs' → Read (take (i + 1) w) s' h' rs'
read_next w i s s' h h' rs rs' r l t e g =
    let p : List ℕ = take i w in
    let x : ℕ = get_or w i 0 in
    let next-read : Read (p ++ (x ∷ [])) (next s x) h' rs' =
    record {
      runs = machine.runs_more State Takes next Final Head p x r.runs (subst (λ (z : State). Takes z x) r.state t);
      state = ap (λ (z : State). next z x) r.state ∙ sym (machine.after_more State Takes next Final Head p x);
      good = good_next s x r.good t;
      stage = g;
    } in
    subst (λ (z : State). Read (take (i + 1) w) z h' rs') (sym e)
    (subst (λ (q : List ℕ). Read q (next s x) h' rs') (sym (take_more w i 0 l)) next-read)

-- the words read so far begin a case
pub read_begins : (p : List ℕ) (s : State) (h : List ℕ) (rs : List Record) → Read p s h rs → Begins CaseForm p
read_begins p s h rs r =
    let l = live s r.good in
    let a = subst (λ (z : State). Accepts z l.0) r.state l.1 in
    (l.0, case_to (p ++ l.0) (machine.join State Takes next Final Head p l.0 r.runs a))

-- at the end word the words are a case
read_done : (p : List ℕ) (s : State) (h : List ℕ) (rs : List Record) → Read p s h rs → s ≡ Done → CaseForm p
read_done p s h rs r e =
    case_to p (subst (λ (l : List ℕ). Accepts Head l) (append-nil p)
    (machine.join State Takes next Final Head p [] r.runs (sym r.state ∙ e)))

pub read_all : (w : List ℕ) (i : ℕ) (h : List ℕ) (rs : List Record) → Read (take i w) Done h rs → length w ≤ i → CaseForm w
read_all w i h rs r l = subst CaseForm (take_all i w l) (read_done (take i w) Done h rs r refl)

closed_word : (s : State) (p : List ℕ) → s ≡ run Head p → open_first s ≡ None → OpenWord p (open_first s)
closed_word s p e z = subst (OpenWord p) (sym z) (λ x i. none-some x (sym z ∙ ap open_first e ∙ inside_open p x i))

-- the first word of the record that is open
pub open_word : (s : State) (p h : List ℕ) (rs : List Record) → Read p s h rs → OpenWord p (open_first s)
open_word Head p h rs r = closed_word Head p r.state refl
open_word (Counts n) p h rs r = closed_word (Counts n) p r.state refl
open_word (Next a) p h rs r = closed_word (Next a) p r.state refl
open_word (Amounts o) p h rs r = stage_inside o p h rs r.good r.stage
open_word Done p h rs r = closed_word Done p r.state refl

module _ (w : List ℕ) (i : ℕ) (s : State) (h : List ℕ) (rs : List Record) (r : Read (take i w) s h rs) where
  here : State
  here = run Head (take i w)

  like : (f : WordRefusal) → Refused (Accepts Head) w f i → Refused CaseForm w f i
  like f g = refused_like (Accepts Head) CaseForm case_to case_from w f i g

  going : (rest : List ℕ) × Accepts here rest
  unfolding here
  going = subst (λ (z : State). (rest : List ℕ) × Accepts z rest) r.state (live s r.good)

  pub read_stops : i ≡ length w → (s ≡ Done → ⊥) → Refused CaseForm w Stops i
  unfolding here
  read_stops e n = like Stops (machine.stops State Takes next Final Head w i r.runs going.0 going.1 e (λ f. n (r.state ∙ f)))

  pub read_misstep : i < length w → (f : WordRefusal) → Missteps s (get_or w i 0) f → Refused CaseForm w f i
  unfolding here
  read_misstep l Stops m = absurd m
  read_misstep l KindRefusal m =
      like KindRefusal (machine.wrong_kind State Takes next Final Head w i r.runs going.0 going.1 l (λ f. m.0 (r.state ∙ f))
      (λ x e t. m.1 (subst (λ (k : Kind). may_stand (state_place s) k ≡ true) e (subst (λ (z : State). Takes z x) (sym r.state) t).0)))
  read_misstep l Range m =
      let x = stands_word s (kind_of (get_or w i 0)) r.good m.0 m.1 in
      let t = subst (λ (z : State). Takes z x.0) r.state x.2 in
      let g = live (next s x.0) (good_next s x.0 r.good x.2) in
      let a = subst (λ (z : State). Accepts (next z x.0) g.0) r.state g.1 in
      like Range (machine.wrong_range State Takes next Final Head w i r.runs going.0 going.1 l (λ f. m.0 (r.state ∙ f))
      x.0 x.1 t g.0 a (λ u. m.2 (subst (λ (z : State). Takes z (get_or w i 0)) (sym r.state) u).1))
  read_misstep l Follows m =
      like Follows (machine.follows State Takes next Final Head w i r.runs going.0 going.1 l (sym r.state ∙ m))

-- nothing is taken after the end word
done_takes : (s : State) (x : ℕ) → s ≡ Done → Takes s x → ⊥
done_takes s x e t = (subst (λ (z : State). Takes z x) e t).1

pub case_ended : Ended CaseForm
case_ended p x rest c d =
    let a = subst (λ (l : List ℕ). Accepts Head l) (sym (append-nil p)) (case_from p c) in
    let f = machine.split State Takes next Final Head p [] a in
    let b = machine.split State Takes next Final Head p (x ∷ rest) (case_from (p ++ (x ∷ rest)) d) in
    done_takes (run Head p) x f b.0

pub form_exact : Exact CaseForm
form_exact = exact CaseForm case_ended

-- a word with which the words still begin a case is not against the form
pub begins_quiet : (w : List ℕ) (i : ℕ) → i < length w → Begins CaseForm (take (i + 1) w) → (f : WordRefusal) → Refused CaseForm w f i → ⊥
begins_quiet w i l b Stops r = let e = r.0 in omega arith
begins_quiet w i l b KindRefusal r = r.2 (get_or w i 0, refl, subst (λ (q : List ℕ). Begins CaseForm q) (take_more w i 0 l) b)
begins_quiet w i l b Range r = r.3 b
begins_quiet w i l b Follows r =
    let c = subst (λ (q : List ℕ). Begins CaseForm q) (take_more w i 0 l) b in
    case_ended (take i w) (get_or w i 0) c.0 r.1 (subst CaseForm (append_assoc (take i w) (get_or w i 0 ∷ []) c.0) c.1)
