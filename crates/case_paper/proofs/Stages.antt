-- What the words read so far are, at each state of the reader.
use Rattle.std.proofs.Common.{◌≡◌, ℕ, suc, ◌+◌, ◌<◌, ◌≤◌, List, [], ◌∷◌, ◌++◌, length, get_or, take, sym, refl, ap, ◌∙◌, subst, inl, inr, arith}
use Rattle.std.specs.List.{flat_map, AllByRecursion}
use Rattle.std.proofs.lemmas.List.{append_assoc, append-nil, take_more, take_all, length-append, flat_map_more}
use Rattle.std.proofs.ByRecursion.{All-push}
use Rattle.std.proofs.lemmas.Bool.{cases_lt}
use Rattle.word.specs.Word.{kind_of, word_of}
use Rattle.word.specs.Slot.{Fits, Matches}
use Rattle.word.specs.declared.kind.Kind.TheVariants as kind
use Rattle.word.specs.declared.place.Place.{Place}
use Rattle.word.specs.declared.slot.Slot.{Slot}
use Rattle.word.specs.declared.slot.Slot.TheVariants as slot
use Rattle.word.proofs.Slots.{matches_join}
use Rattle.word.proofs.Words.{word_at}
use Rattle.word.proofs.Fillings.{end_known}
use Rattle.case_paper.specs.Case.{head_slots, head_amounts, FirstWord, amounts_of, Record, record_words, end_word, Formed}
use Rattle.case_paper.specs.CaseFault.{Whole, Inside}
use Rattle.case_paper.specs.State.{after_sort, read_more, next, Takes, Good}
use Rattle.case_paper.specs.declared.state.Open.{Open}
use Rattle.case_paper.specs.declared.state.State.{State}
use Rattle.case_paper.specs.declared.state.State.TheVariants.{Head, Counts, Next, Amounts, Done}
use Rattle.case_paper.proofs.States.{end_or_not, next-end, next-record, next-count, next-counted, next_more, next_last}
use Rattle.case_paper.proofs.Cases.{stands_head, stands_amount, due_kind, head_kind}

pub record Part (o : Open) (p h : List ℕ) (rs : List Record) : Type 0 where
  pub before : List ℕ
  pub part : List ℕ
  pub words : p ≡ before ++ (o.first ∷ part)
  pub whole : Whole before h rs
  pub matches : Matches (take o.read (amounts_of o.sort)) part
  pub long : length part ≡ o.read

-- the words p are the records rs and the end word
pub record Ends (p h : List ℕ) (rs : List Record) : Type 0 where
  pub before : List ℕ
  pub words : p ≡ before ++ end_word
  pub whole : Whole before h rs

-- what the words p are at a state, with the head and the whole records in them
abbrev pub Stage : State → List ℕ → List ℕ → List Record → Type 0
Stage Head p h rs = (p ≡ []) × (rs ≡ [])
Stage (Counts read) p h rs = Matches (take (suc read) head_slots) p × (length p ≡ suc read) × (rs ≡ [])
Stage (Next place) p h rs = Whole p h rs
Stage (Amounts o) p h rs = Part o p h rs
Stage Done p h rs = Ends p h rs

part_more : (o : Open) (x : ℕ) (p h : List ℕ) (rs : List Record) → o.read < length (amounts_of o.sort) → Fits (get_or (amounts_of o.sort) o.read slot.End) x → Part o p h rs → Part (read_more o) (p ++ (x ∷ [])) h rs
part_more o x p h rs l f t =
    record {
      before = t.before;
      part = t.part ++ (x ∷ []);
      words = ap (λ (l : List ℕ). l ++ (x ∷ [])) t.words ∙ append_assoc t.before (o.first ∷ t.part) (x ∷ []);
      whole = t.whole;
      matches = subst (λ (ss : List Slot). Matches ss (t.part ++ (x ∷ []))) (sym (take_more (amounts_of o.sort) o.read slot.End l))
          (matches_join (take o.read (amounts_of o.sort)) (get_or (amounts_of o.sort) o.read slot.End ∷ []) t.part (x ∷ []) t.matches (f, tt));
      long = length-append t.part (x ∷ []) ∙ ap (λ (n : ℕ). n + 1) t.long;
    }

-- the record that a part makes, once it has all its amounts
abbrev pub record_of : (o : Open) (p h : List ℕ) (rs : List Record) → Part o p h rs → Record
record_of o p h rs t = record { sort = o.sort; first = o.first; amounts = t.part }

pub part_formed : (o : Open) (p h : List ℕ) (rs : List Record) → FirstWord o.sort o.first → length (amounts_of o.sort) ≤ o.read → (t : Part o p h rs) → Formed (record_of o p h rs t)
part_formed o p h rs f l t = (f, subst (λ (ss : List Slot). Matches ss t.part) (take_all o.read (amounts_of o.sort) l) t.matches)

pub part_whole : (o : Open) (p h : List ℕ) (rs : List Record) → FirstWord o.sort o.first → length (amounts_of o.sort) ≤ o.read → (t : Part o p h rs) → Whole p h (rs ++ (record_of o p h rs t ∷ []))
part_whole o p h rs f l t =
    let r : Record = record_of o p h rs t in
    let w = t.whole in
    record {
      words = t.words ∙ ap (λ (l : List ℕ). l ++ (o.first ∷ t.part)) w.words ∙ flat_map_more record_words h rs r;
      headed = w.headed;
      formed = All-push Formed rs r w.formed (part_formed o p h rs f l t);
    }

-- the part with the next amount
pub amount_more : (o : Open) (x : ℕ) (p h : List ℕ) (rs : List Record) → Good (Amounts o) → Takes (Amounts o) x → Part o p h rs → Part (read_more o) (p ++ (x ∷ [])) h rs
amount_more o x p h rs g t a =
    part_more o x p h rs g.1 (stands_amount x t.0 ∙ sym (due_kind o.sort o.read g.1), t.1) a

-- one amount of the head more
count_more : (read x : ℕ) (p : List ℕ) → read < 5 → Takes (Counts read) x → Matches (take (suc read) head_slots) p → Matches (take (suc (read + 1)) head_slots) (p ++ (x ∷ []))
count_more read x p l t m =
    let e : suc read + 1 ≡ suc (read + 1) = omega arith in
    subst (λ (ss : List Slot). Matches ss (p ++ (x ∷ []))) (sym (take_more head_slots (suc read) slot.End (omega arith)) ∙ ap (λ (n : ℕ). take n head_slots) e)
    (matches_join (take (suc read) head_slots) (get_or head_amounts read slot.End ∷ []) p (x ∷ []) m ((stands_amount x t.0 ∙ sym (head_kind read l), t.1), tt))

head_done : (read : ℕ) (p : List ℕ) (rs : List Record) → 5 ≤ read + 1 → rs ≡ [] → Matches (take (suc (read + 1)) head_slots) p → Whole p p rs
head_done read p rs l e m =
    record {
      words = sym (ap (λ (r : List Record). p ++ flat_map record_words r) e ∙ append-nil p);
      headed = subst (λ (ss : List Slot). Matches ss p) (take_all (suc (read + 1)) head_slots (omega arith)) m;
      formed = subst (λ (r : List Record). AllByRecursion Formed r) (sym e) tt;
    }

-- a word that completes no record: the records stay, and the head once it is complete
pub record StageAt (s : State) (p : List ℕ) (rs : List Record) : Type 0 where
  pub head : List ℕ
  pub stage : Stage s p head rs

pub stage_same : (s : State) (x : ℕ) (p h : List ℕ) (rs : List Record) → Good s → Takes s x → Stage s p h rs → ((o : Open) (a : Place) → s ≡ Amounts o → next s x ≡ Next a → ⊥) → StageAt (next s x) (p ++ (x ∷ [])) rs
stage_same Head x p h rs g t e open-yet =
    record { head = h; stage = (subst (λ (l : List ℕ). Matches (take 1 head_slots) (l ++ (x ∷ []))) (sym e.0) ((stands_head x t.0, t.1), tt), ap (λ (l : List ℕ). length (l ++ (x ∷ []))) e.0, e.1) }
stage_same (Counts read) x p h rs g t e open-yet =
    let m = count_more read x p g t e.0 in
    let n : length (p ++ (x ∷ [])) ≡ suc (read + 1) = let l = length-append p (x ∷ []) in let k = e.1 in omega arith in
    elim (cases_lt (read + 1) 5) [
      | inl l ↦ record { head = h; stage = subst (λ (s : State). Stage s (p ++ (x ∷ [])) h rs) (sym (next-count read x l)) (m, n, e.2) }
      | inr l ↦ record { head = p ++ (x ∷ []); stage = subst (λ (s : State). Stage s (p ++ (x ∷ [])) (p ++ (x ∷ [])) rs) (sym (next-counted read x l)) (head_done read (p ++ (x ∷ [])) rs l e.2 m) }
    ]
stage_same (Next a) x p h rs g t w open-yet =
    elim (end_or_not (kind_of x)) [
      | inl e ↦ let z : x ≡ word_of kind.End 0 = word_at x kind.End 0 e end_known (t.1.0 e) in
          record {
            head = h;
            stage = subst (λ (s : State). Stage s (p ++ (x ∷ [])) h rs) (sym (next-end a x e))
                (record { before = p; words = ap (λ (y : ℕ). p ++ (y ∷ [])) z; whole = w });
          }
      | inr n ↦ record {
        head = h;
        stage = subst (λ (s : State). Stage s (p ++ (x ∷ [])) h rs) (sym (next-record a x n))
            (record { before = p; part = []; words = refl; whole = w; matches = tt; long = refl });
      }
    ]
stage_same (Amounts o) x p h rs g t a open-yet =
    elim (cases_lt (o.read + 1) (length (amounts_of o.sort))) [
      | inl l ↦ record { head = h; stage = subst (λ (s : State). Stage s (p ++ (x ∷ [])) h rs) (sym (next_more o x l)) (amount_more o x p h rs g t a) }
      | inr l ↦ absurd (open-yet o (after_sort o.sort) refl (next_last o x l))
    ]
stage_same Done x p h rs g t e open-yet = absurd t.1

-- the record that is open, at its state
pub stage_inside : (o : Open) (p h : List ℕ) (rs : List Record) → Good (Amounts o) → Part o p h rs → Inside p o.first
stage_inside o p h rs g a =
    record {
      before = a.before;
      head = h;
      records = rs;
      sort = o.sort;
      part = a.part;
      words = a.words;
      whole = a.whole;
      opens = g.0;
      short = let l = a.long in omega (arith, g.1);
    }
