-- The reader of a case with the records so far: in order, counted, and no fault shown.
use Rattle.std.proofs.Common.{rules, None, Option, ◌≡◌, ℕ, suc, ◌+◌, ◌-◌, ◌<◌, ◌≤◌, cond, eqb, ◌⊎◌, List, [], ◌∷◌, ◌++◌, length, get_or, take, drop, set, sym, refl, ap, ◌∙◌, subst, inl, inr, arith}
use Rattle.std.specs.List.{flat_map, AllByRecursion}
use Rattle.std.proofs.lemmas.List.{append_assoc, append-nil, take_more, take_all, length-append, length-take-le, drop_at, get_or-set_same, get_or-set_other, get_or-take, get_or_append_left, take_at, take-take, length-set, length-take, same_from_push}
use Rattle.std.proofs.lemmas.Slice.{between_is}
use Rattle.std.proofs.ByRecursion.{All-push}
use Rattle.std.proofs.lemmas.Bool.{cases_eq, cases_lt, eq-eqb, ne_eqb, cond-true, cond-false}
use Rattle.word.specs.Fault.{refusal_number}
use Rattle.word.specs.Word.{kind_of, payload_of, word_of}
use Rattle.word.specs.Form.{Refused}
use Rattle.word.specs.declared.kind.Kind.TheVariants as kind
use Rattle.word.specs.declared.place.Place.{Place}
use Rattle.word.specs.declared.fault.WordFault.{WordFault}
use Rattle.word.specs.declared.fault.WordRefusal.{WordRefusal}
use Rattle.word.specs.declared.fault.WordRefusal.TheVariants.{Stops, Kind as KindRefusal, Range, Follows}
use Rattle.word.proofs.Slots.{matches_length}
use Rattle.word.proofs.Words.{kind_word}
use Rattle.case_paper.specs.Case.{head_slots, amounts_of, rank, Record, record_words, end_word, CaseForm}
use Rattle.case_paper.specs.Order.{InOrder}
use Rattle.case_paper.specs.Fault.{record_number}
use Rattle.case_paper.specs.Complete.{amounts_read, Rowed, Counted, Ending, Unsound}
use Rattle.case_paper.specs.CaseFault.{Whole, count_rank, head_count, CountsMet, HasRow, LawfulCase, OpenWord, EarlyEnd, Completes, Shows, RefusedCase}
use Rattle.case_paper.specs.State.{open_first, read_more, next, Takes, Missteps, Good}
use Rattle.case_paper.specs.declared.sort.Sort.{Sort}
use Rattle.case_paper.specs.declared.state.Open.{Open}
use Rattle.case_paper.specs.declared.state.State.{State}
use Rattle.case_paper.specs.declared.state.State.TheVariants.{Head, Counts, Next, Amounts, Done}
use Rattle.case_paper.specs.declared.fault.RecordFault.{RecordFault}
use Rattle.case_paper.specs.declared.fault.RecordFault.TheVariants.{Word, Order, Count}
use Rattle.case_paper.proofs.States.{end_or_not, next-record, next-count, next-counted, next_more, next_last}
use Rattle.case_paper.proofs.Stages.{Part, Ends, Stage, StageAt, stage_same, amount_more, record_of, part_formed, part_whole}
use Rattle.case_paper.proofs.Checks.{Read, read_next, read_begins, read_all, open_word, read_stops, read_misstep, begins_quiet, form_exact}
use Rattle.case_paper.proofs.Afters.{run-whole, run_inside, whole_same, whole_of, completes_inside, completes_whole, completes_same, next-amounts, next-done, amounts_done}
use Rattle.case_paper.proofs.Outcomes.{rank-small, no_more}

-- the counts are those of the records, by rank
abbrev pub Tallied : List ℕ → List Record → Type 0
Tallied counts rs = (k : ℕ) → k < 4 → get_or counts k 0 ≡ count_rank k rs

abbrev pub Ordered : Record → Type 0
Ordered r = InOrder r.sort r.amounts

-- no fault shows before the word at i
abbrev pub Quiet : List ℕ → List ℕ → ℕ → Type 0
Quiet rows w i = (j : ℕ) (g : RecordFault) → Shows rows w j g → j < i → ⊥

pub record Progress (rows w : List ℕ) (i : ℕ) (s : State) (counts : List ℕ) : Type 0 where
  pub head : List ℕ
  pub records : List Record
  pub got : Read (take i w) s head records
  pub ordered : AllByRecursion Ordered records
  pub tally : Tallied counts records
  pub four : length counts ≡ 4
  pub fitting : (k : ℕ) → k < 4 → get_or counts k 0 ≤ get_or rows k 0
  pub met : s ≡ Done → CountsMet head records
  pub quiet : Quiet rows w i

-- ---- the counts
count_push : (k : ℕ) (rs : List Record) (r : Record) → count_rank k (rs ++ (r ∷ [])) ≡ count_rank k rs + cond (eqb (rank r.sort) k) 1 0
count_push k [] r = omega arith
count_push k (s ∷ rs) r = let e = count_push k rs r in omega arith

-- one record more, by its rank
module _ (counts : List ℕ) (j : ℕ) (four : length counts ≡ 4) (small : j < 4) where
  abbrev more : List ℕ
  more = set counts j (get_or counts j 0 + 1)

  more_same : (k : ℕ) → k ≡ j → get_or more k 0 ≡ get_or counts k 0 + 1
  more_same k e =
      subst (λ (n : ℕ). get_or more n 0 ≡ get_or counts n 0 + 1) (sym e) (get_or-set_same counts j (get_or counts j 0 + 1) 0 (omega arith))

  more_other : (k : ℕ) → (k ≡ j → ⊥) → get_or more k 0 ≡ get_or counts k 0
  more_other k n = get_or-set_other counts j k (get_or counts j 0 + 1) 0 n

  tally_push : (rs : List Record) (r : Record) → rank r.sort ≡ j → Tallied counts rs → Tallied more (rs ++ (r ∷ []))
  tally_push rs r o t k h =
      let p = count_push k rs r in
      let t' = t k h in
      elim (cases_eq k j) [
        | inl e ↦
            let g = more_same k e in
            let c : cond {A = ℕ} (eqb (rank r.sort) k) 1 0 ≡ 1 = cond-true (eqb (rank r.sort) k) 1 0 (eq-eqb (rank r.sort) k (omega arith)) in
            omega arith
        | inr n ↦
            let g = more_other k n in
            let c : cond {A = ℕ} (eqb (rank r.sort) k) 1 0 ≡ 0 = cond-false (eqb (rank r.sort) k) 1 0 (ne_eqb (rank r.sort) k (λ e. n (sym e ∙ o))) in
            omega arith
      ]

  fitting_push : (rows : List ℕ) → get_or counts j 0 < get_or rows j 0 → ((k : ℕ) → k < 4 → get_or counts k 0 ≤ get_or rows k 0) → (k : ℕ) → k < 4 → get_or more k 0 ≤ get_or rows k 0
  fitting_push rows l f k h =
      elim (cases_eq k j) [
        | inl e ↦ let g = more_same k e in let m : get_or counts k 0 < get_or rows k 0 = subst (λ (n : ℕ). get_or counts n 0 < get_or rows n 0) (sym e) l in omega arith
        | inr n ↦ let g = more_other k n in let m = f k h in omega arith
      ]

-- the head's counts stand in the words
module _ (w h : List ℕ) (i : ℕ) (rs : List Record) (v : Whole (take i w) h rs) where
  head_long : length h ≡ 6
  head_long = matches_length head_slots h v.headed

  taken_long : 6 ≤ length (take i w)
  taken_long =
      let a : length (take i w) ≡ length (h ++ flat_map record_words rs) = ap length v.words in
      let b = length-append h (flat_map record_words rs) in
      let c = head_long in omega arith

  pub head_read : (k : ℕ) → k < 4 → head_count w k ≡ head_count h k
  head_read k l =
      let t = taken_long in
      let m = length-take i w in
      let c = head_long in
      ap payload_of (sym (get_or-take i w (2 + k) 0 (omega arith)) ∙ ap (λ (u : List ℕ). get_or u (2 + k) 0) v.words ∙ get_or_append_left h (flat_map record_words rs) 0 (2 + k) (omega arith))

  pub counted_met : (counts : List ℕ) → Tallied counts rs → Counted counts w → CountsMet h rs
  counted_met counts t c k l = sym (t k l) ∙ c k l ∙ head_read k l

  pub met_counted : (counts : List ℕ) → Tallied counts rs → CountsMet h rs → Counted counts w
  met_counted counts t c k l = t k l ∙ c k l ∙ sym (head_read k l)

  pub rowed_row : (rows counts : List ℕ) (q : Sort) → Tallied counts rs → Rowed rows counts w q → HasRow rows h rs q
  rowed_row rows counts q t r =
      let b = rank-small q in
      let e = t (rank q) b in
      let d = head_read (rank q) b in
      (omega arith, omega arith)

  pub row_rowed : (rows counts : List ℕ) (q : Sort) → Tallied counts rs → HasRow rows h rs q → Rowed rows counts w q
  row_rowed rows counts q t r =
      let b = rank-small q in
      let e = t (rank q) b in
      let d = head_read (rank q) b in
      (omega arith, omega arith)

quiet_more : (rows w : List ℕ) (i : ℕ) → Quiet rows w i → ((g : RecordFault) → Shows rows w i g → ⊥) → Quiet rows w (i + 1)
quiet_more rows w i q n j g s l =
    elim (cases_eq j i) [
      | inl e ↦ n g (subst (λ (k : ℕ). Shows rows w k g) e s)
      | inr d ↦ q j g s (omega arith)
    ]

-- ---- what shows at the word at i
-- no fault of a smaller number than 3 shows at a word
not_first : (rows w : List ℕ) (j i : ℕ) (g : RecordFault) → i < length w → j ≡ i → Shows rows w j g → record_number g < 3 → ⊥
not_first rows w j i (Word g) l e t k = go g.refusal refl
  where
    go : (r : WordRefusal) → g.refusal ≡ r → ⊥
    go Stops q = stops t.2
      where
        stops : Refused CaseForm w g.refusal g.place ⊎ ((g.refusal ≡ KindRefusal) × EarlyEnd w g.place) → ⊥
        stops (inl f) =
            let f' : Refused CaseForm w Stops g.place = subst (λ (r : WordRefusal). Refused CaseForm w r g.place) q f in
            let n = f'.0 in
            let m = t.0 in
            omega arith
        stops (inr f) = let n : ◌≡◌ {A = ℕ} 2 3 = ap refusal_number (sym q ∙ f.0) in omega arith
    go KindRefusal q = let n : refusal_number g.refusal ≡ 3 = ap refusal_number q in omega arith
    go Range q = let n : refusal_number g.refusal ≡ 4 = ap refusal_number q in omega arith
    go Follows q = let n : refusal_number g.refusal ≡ 7 = ap refusal_number q in omega arith
not_first rows w j i (Order a b) l e t k = omega arith
not_first rows w j i (Count a b) l e t k = omega arith

module _ (rows w : List ℕ) (i : ℕ) (s : State) (counts : List ℕ) (p : Progress rows w i s counts) where
  -- an end word too early shows only where the reader is between records
  early_state : EarlyEnd w i → (b : Place) × (s ≡ Next b)
  early_state x = let b = run-whole (take i w) x.head x.records x.whole in (b.0, p.got.state ∙ b.1)

  in_time : (Ending s (get_or w i 0) → Counted counts w) → EarlyEnd w i → ⊥
  in_time t x =
      let b = early_state x in
      let v : Whole (take i w) p.head p.records = subst (λ (z : State). Stage z (take i w) p.head p.records) b.1 p.got.stage in
      let m = counted_met w p.head i p.records v counts p.tally (t (b.0, b.1, x.ends)) in
      let e = whole_same (take i w) p.head x.head p.records x.records v x.whole in
      x.unmet (subst (λ (h : List ℕ). CountsMet h x.records) e.0 (subst (λ (rs : List Record). CountsMet p.head rs) e.1 m))

  -- a record is completed only inside one
  completes_state : (place : ℕ) (h : List ℕ) (rs : List Record) (r : Record) → Completes w i place h rs r → (o : Open) × (s ≡ Amounts o)
  completes_state place h rs r c =
      let t = run_inside (take i w) r.first (completes_inside w i place h rs r c) in (record { sort = t.0; first = r.first; read = t.1 }, p.got.state ∙ t.2)

  -- inside a record, no refusal above 5 meets a word
  late_done : (r : WordRefusal) → Missteps s (get_or w i 0) r → (o : Open) → s ≡ Amounts o → 5 < refusal_number r → ⊥
  late_done Stops m o e k = omega arith
  late_done KindRefusal m o e k = omega arith
  late_done Range m o e k = omega arith
  late_done Follows m o e k = amounts_done o (sym e ∙ m)

  -- the words stop
  pub refused_stops : i ≡ length w → (s ≡ Done → ⊥) → RefusedCase rows w (Word (record { refusal = Stops; place = i; first = open_first s }))
  refused_stops e n =
      record {
        at = i;
        shows = (refl, open_word s (take i w) p.head p.records p.got, inl (read_stops w i s p.head p.records p.got e n));
        first = λ j g t o. elim o [ inl l ↦ p.quiet j g t l | inr k ↦ least g k.1 ];
      }
    where
      least : (g : RecordFault) → record_number g < 2 → ⊥
      least (Word g) l = go g.refusal l
        where
          go : (r : WordRefusal) → refusal_number r < 2 → ⊥
          go Stops l = omega arith
          go KindRefusal l = omega arith
          go Range l = omega arith
          go Follows l = omega arith
      least (Order a b) l = omega arith
      least (Count a b) l = omega arith

  -- an end word stands too early
  pub refused_early : i < length w → Ending s (get_or w i 0) → (Counted counts w → ⊥) → RefusedCase rows w (Word (record { refusal = KindRefusal; place = i; first = None }))
  refused_early l (a, e, k) n =
      let v : Whole (take i w) p.head p.records = subst (λ (z : State). Stage z (take i w) p.head p.records) e p.got.stage in
      record {
        at = i;
        shows = (
          refl,
          subst (λ (z : State). OpenWord (take i w) (open_first z)) e (open_word s (take i w) p.head p.records p.got),
          inr (
            refl,
            record {
              head = p.head;
              records = p.records;
              inside = l;
              ends = k;
              whole = v;
              unmet = λ m. n (met_counted w p.head i p.records v counts p.tally m);
            },
          ),
        );
        first = λ j g t o. elim o [ inl m ↦ p.quiet j g t m | inr d ↦ not_first rows w j i g l d.0 t d.1 ];
      }

  -- a word is against the form
  pub refused_misstep : i < length w → (Ending s (get_or w i 0) → Counted counts w) → (r : WordRefusal) → Missteps s (get_or w i 0) r → RefusedCase rows w (Word (record { refusal = r; place = i; first = open_first s }))
  refused_misstep l time r m =
      record {
        at = i;
        shows = (refl, open_word s (take i w) p.head p.records p.got, inl (read_misstep w i s p.head p.records p.got l r m));
        first = λ j g t o. elim o [ inl k ↦ p.quiet j g t k | inr d ↦ least g (subst (λ (k : ℕ). Shows rows w k g) d.0 t) d.1 ];
      }
    where
      least : (g : RecordFault) → Shows rows w i g → record_number g < refusal_number r → ⊥
      least (Word g) (e, o, inl q) k =
          let c = form_exact.once w g.refusal r g.place i q (read_misstep w i s p.head p.records p.got l r m) in
          let n : refusal_number g.refusal ≡ refusal_number r = ap refusal_number c.0 in omega arith
      least (Word g) (e, o, inr (q, x)) k = in_time time (subst (EarlyEnd w) (sym e) x)
      least (Order place x) (h, rs, t, c, fx, n) k =
          let d = completes_state place h rs t c in late_done r m d.0 d.1 (omega arith)
      least (Count place x) (h, rs, t, c, fx, n) k =
          let d = completes_state place h rs t c in late_done r m d.0 d.1 (omega arith)

-- ---- the end word
-- only an end word between records leads to the end
ending : (s : State) (x : ℕ) → Takes s x → next s x ≡ Done → Ending s x
ending Head x t e = absurd (search rules)
ending (Counts read) x t e =
    absurd (elim (cases_lt (read + 1) 5) [
      | inl l ↦ let z = sym (next-count read x l) ∙ e in search rules
      | inr l ↦ let z = sym (next-counted read x l) ∙ e in search rules
    ])
ending (Next a) x t e =
    elim (end_or_not (kind_of x)) [
      | inl k ↦ (a, refl, k)
      | inr n ↦ absurd (let z = sym (next-record a x n) ∙ e in search rules)
    ]
ending (Amounts o) x t e =
    absurd (elim (cases_lt (o.read + 1) (length (amounts_of o.sort))) [
      | inl l ↦ let z = sym (next_more o x l) ∙ e in search rules
      | inr l ↦ let z = sym (next_last o x l) ∙ e in search rules
    ])
ending Done x t e = absurd t.1

-- ---- a word that completes no record
module _ (rows w : List ℕ) (i : ℕ) (s s' : State) (counts : List ℕ) (p : Progress rows w i s counts) (l : i < length w) (t : Takes s (get_or w i 0)) (e : s' ≡ next s (get_or w i 0)) (time : Ending s (get_or w i 0) → Counted counts w) (open-yet : (o : Open) (a : Place) → s ≡ Amounts o → s' ≡ Next a → ⊥) where
  staged : StageAt (next s (get_or w i 0)) (take i w ++ (get_or w i 0 ∷ [])) p.records
  staged = stage_same s (get_or w i 0) (take i w) p.head p.records p.got.good t p.got.stage (λ o a x y. open-yet o a x (e ∙ y))

  got_same : Read (take (i + 1) w) s' staged.head p.records
  got_same = read_next w i s s' p.head staged.head p.records p.records p.got l t e staged.stage

  met_same : s' ≡ Done → CountsMet staged.head p.records
  met_same d =
      let k = ending s (get_or w i 0) t (sym e ∙ d) in
      let v : Whole (take i w) p.head p.records = subst (λ (z : State). Stage z (take i w) p.head p.records) k.1 p.got.stage in
      let m = counted_met w p.head i p.records v counts p.tally (time k) in
      let n : Ends (take (i + 1) w) staged.head p.records = subst (λ (z : State). Stage z (take (i + 1) w) staged.head p.records) d got_same.stage in
      let b = same_from_push (take i w) n.before (get_or w i 0) (word_of kind.End 0) (sym (take_more w i 0 l) ∙ n.words) in
      let c = whole_same (take i w) p.head staged.head p.records p.records v (subst (λ (u : List ℕ). Whole u staged.head p.records) (sym b.0) n.whole) in
      subst (λ (h : List ℕ). CountsMet h p.records) c.0 m

  quiet_same : (g : RecordFault) → Shows rows w i g → ⊥
  quiet_same (Word g) (q, o, inl r) =
      begins_quiet w i l (read_begins (take (i + 1) w) s' staged.head p.records got_same) g.refusal (subst (Refused CaseForm w g.refusal) (sym q) r)
  quiet_same (Word g) (q, o, inr (k, x)) = in_time rows w i s counts p time (subst (EarlyEnd w) (sym q) x)
  quiet_same (Order place x) (h, rs, r, c, fx, n) =
      let d = completes_state rows w i s counts p place h rs r c in
      let b = run-whole (take (i + 1) w) h (rs ++ (r ∷ [])) (completes_whole w i place h rs r c) in
      open-yet d.0 b.0 d.1 (got_same.state ∙ b.1)
  quiet_same (Count place x) (h, rs, r, c, fx, n) =
      let d = completes_state rows w i s counts p place h rs r c in
      let b = run-whole (take (i + 1) w) h (rs ++ (r ∷ [])) (completes_whole w i place h rs r c) in
      open-yet d.0 b.0 d.1 (got_same.state ∙ b.1)

  pub progress_same : Progress rows w (i + 1) s' counts
  progress_same =
      record {
        head = staged.head;
        records = p.records;
        got = got_same;
        ordered = p.ordered;
        tally = p.tally;
        four = p.four;
        fitting = p.fitting;
        met = met_same;
        quiet = quiet_more rows w i p.quiet quiet_same;
      }

-- ---- a word that completes the record that is open
module _ (rows w : List ℕ) (i : ℕ) (s s' : State) (counts : List ℕ) (p : Progress rows w i s counts) (l : i < length w) (t : Takes s (get_or w i 0)) (e : s' ≡ next s (get_or w i 0)) (this : Open) (is : s ≡ Amounts this) (a : Place) (then : s' ≡ Next a) where
  x : ℕ
  x = get_or w i 0

  good : Good (Amounts this)
  good = subst (λ (z : State). Good z) is p.got.good

  takes : Takes (Amounts this) x
  unfolding x
  takes = subst (λ (z : State). Takes z (get_or w i 0)) is t

  -- with the word itself
  full : Part (read_more this) (take i w ++ (x ∷ [])) p.head p.records
  full = amount_more this x (take i w) p.head p.records good takes (subst (λ (z : State). Stage z (take i w) p.head p.records) is p.got.stage)

  goes : next (Amounts this) x ≡ Next a
  unfolding x
  goes = ap (λ (z : State). next z (get_or w i 0)) (sym is) ∙ sym e ∙ then

  closed_last : length (amounts_of this.sort) ≤ this.read + 1
  closed_last =
      elim (cases_lt (this.read + 1) (length (amounts_of this.sort))) [
        | inl k ↦ absurd (next-amounts a (read_more this) (sym goes ∙ next_more this x k))
        | inr k ↦ k
      ]

  closed_place : length full.before + suc this.read ≡ i
  closed_place =
      let n = length-take-le i w (omega arith) in
      let k = length-append (take i w) (x ∷ []) in
      let m : length (take i w ++ (x ∷ [])) ≡ length (full.before ++ (this.first ∷ full.part)) = ap length full.words in
      let j = length-append full.before (this.first ∷ full.part) in
      let o = full.long in
      omega arith

  -- the words up to and with this one
  upto : take (i + 1) w ≡ full.before ++ (this.first ∷ full.part)
  unfolding x
  upto = take_more w i 0 l ∙ full.words

  start : take ((i - this.read) - 1) w ≡ full.before
  start =
      let c = closed_place in
      sym (take-take ((i - this.read) - 1) (i + 1) w (omega arith)) ∙ ap (take ((i - this.read) - 1)) upto
      ∙ take_at full.before (this.first ∷ full.part) ((i - this.read) - 1) (omega arith)

  made : Record
  made = record_of (read_more this) (take i w ++ (x ∷ [])) p.head p.records full

  closed_amounts : amounts_read w i this.read ≡ full.part
  closed_amounts =
      let c = closed_place in
      let n : length (full.before ++ (this.first ∷ [])) ≡ i - this.read = omega (arith, length-append full.before (this.first ∷ [])) in
      between_is w (i - this.read) (i + 1) ∙ ap (drop (i - this.read)) (upto ∙ sym (append_assoc full.before (this.first ∷ []) full.part))
      ∙ drop_at (full.before ++ (this.first ∷ [])) full.part (i - this.read) n

  completes : Completes w i ((i - this.read) - 1) p.head p.records made
  unfolding made
  completes =
      record {
        inside = l;
        words = upto ∙ ap (λ (v : List ℕ). v ++ (this.first ∷ full.part)) (sym start);
        whole = subst (λ (v : List ℕ). Whole v p.head p.records) (sym start) full.whole;
        formed = part_formed (read_more this) (take i w ++ (x ∷ [])) p.head p.records good.0 closed_last full;
      }

  after_read : Read (take (i + 1) w) s' p.head (p.records ++ (made ∷ []))
  unfolding made x
  after_read =
      let rs : List Record = p.records ++ (made ∷ []) in
      read_next w i s s' p.head p.head p.records rs p.got l t e
      (subst (λ (z : State). Stage (next z (get_or w i 0)) (take i w ++ (x ∷ [])) p.head rs) (sym is)
      (subst (λ (z : State). Stage z (take i w ++ (x ∷ [])) p.head rs) (sym (next_last this x closed_last))
      (part_whole (read_more this) (take i w ++ (x ∷ [])) p.head p.records good.0 closed_last full)))

  -- no word's fault shows
  words_quiet : (g : WordFault) → Shows rows w i (Word g) → ⊥
  words_quiet g (n, o, inl r) =
      begins_quiet w i l (read_begins (take (i + 1) w) s' p.head (p.records ++ (made ∷ [])) after_read) g.refusal (subst (Refused CaseForm w g.refusal) (sym n) r)
  words_quiet g (n, o, inr (k, y)) =
      let b = early_state rows w i s counts p (subst (EarlyEnd w) (sym n) y) in next-amounts b.0 this (sym b.1 ∙ is)

  -- no other record is completed
  order_shown : (place y : ℕ) → Shows rows w i (Order place y) → Ordered made → ⊥
  order_shown place y (h, rs, r, c, fy, n) o =
      let d = completes_same w i ((i - this.read) - 1) place p.head h p.records rs made r completes c in
      n (subst Ordered d.records o)

  count_shown : (place y : ℕ) → Shows rows w i (Count place y) → HasRow rows p.head p.records this.sort → ⊥
  unfolding made
  count_shown place y (h, rs, r, c, fy, n) o =
      let d = completes_same w i ((i - this.read) - 1) place p.head h p.records rs made r completes c in
      n (subst (λ (b : Record). HasRow rows h rs b.sort) d.records (subst (λ (k : List ℕ). HasRow rows k rs this.sort) d.heads (subst (λ (k : List Record). HasRow rows p.head k this.sort) d.befores o)))

  row_of : Rowed rows counts w this.sort → HasRow rows p.head p.records this.sort
  row_of = rowed_row w p.head ((i - this.read) - 1) p.records completes.whole rows counts this.sort p.tally

  of_row : HasRow rows p.head p.records this.sort → Rowed rows counts w this.sort
  of_row = row_rowed w p.head ((i - this.read) - 1) p.records completes.whole rows counts this.sort p.tally

  ordered_made : InOrder this.sort (amounts_read w i this.read) → Ordered made
  unfolding made
  ordered_made o = subst (InOrder this.sort) closed_amounts o

  ordered_read : Ordered made → InOrder this.sort (amounts_read w i this.read)
  unfolding made
  ordered_read o = subst (InOrder this.sort) (sym closed_amounts) o

  refused_order : (InOrder this.sort (amounts_read w i this.read) → ⊥) → RefusedCase rows w (Order ((i - this.read) - 1) this.first)
  unfolding made
  refused_order n =
      record {
        at = i;
        shows = (p.head, p.records, made, completes, refl, λ o. n (ordered_read o));
        first = λ j g u o. elim o [ inl k ↦ p.quiet j g u k | inr d ↦ least g (subst (λ (k : ℕ). Shows rows w k g) d.0 u) d.1 ];
      }
    where
      least : (g : RecordFault) → Shows rows w i g → record_number g < 5 → ⊥
      least (Word g) u k = words_quiet g u
      least (Order c d) u k = omega arith
      least (Count c d) u k = omega arith

  refused_count : InOrder this.sort (amounts_read w i this.read) → (Rowed rows counts w this.sort → ⊥) → RefusedCase rows w (Count ((i - this.read) - 1) this.first)
  unfolding made
  refused_count o n =
      record {
        at = i;
        shows = (p.head, p.records, made, completes, refl, λ r. n (of_row r));
        first = λ j g u o. elim o [ inl k ↦ p.quiet j g u k | inr d ↦ least g (subst (λ (k : ℕ). Shows rows w k g) d.0 u) d.1 ];
      }
    where
      least : (g : RecordFault) → Shows rows w i g → record_number g < 6 → ⊥
      least (Word g) u k = words_quiet g u
      least (Order c d) u k = order_shown c d u (ordered_made o)
      least (Count c d) u k = omega arith

  pub refused_closed : (f : RecordFault) → Unsound this.sort (amounts_read w i this.read) (Rowed rows counts w this.sort) ((i - this.read) - 1) this.first f → RefusedCase rows w f
  refused_closed (Word f) u = absurd u
  refused_closed (Order place y) (n, a, b) =
      subst (λ (k : ℕ). RefusedCase rows w (Order k y)) (sym a) (subst (λ (z : ℕ). RefusedCase rows w (Order ((i - this.read) - 1) z)) (sym b) (refused_order n))
  refused_closed (Count place y) (o, n, a, b) =
      subst (λ (k : ℕ). RefusedCase rows w (Count k y)) (sym a) (subst (λ (z : ℕ). RefusedCase rows w (Count ((i - this.read) - 1) z)) (sym b) (refused_count o n))

  pub progress_closed : (counts' : List ℕ) → InOrder this.sort (amounts_read w i this.read) → Rowed rows counts w this.sort → counts' ≡ set counts (rank this.sort) (get_or counts (rank this.sort) 0 + 1) → Progress rows w (i + 1) s' counts'
  unfolding made
  progress_closed counts' o r c =
      let b = rank-small this.sort in
      let rs : List Record = p.records ++ (made ∷ []) in
      record {
        head = p.head;
        records = rs;
        got = after_read;
        ordered = All-push Ordered p.records made p.ordered (ordered_made o);
        tally = subst (λ (cs : List ℕ). Tallied cs rs) (sym c) (tally_push counts (rank this.sort) p.four b p.records made refl p.tally);
        four = ap length c ∙ length-set counts (rank this.sort) (get_or counts (rank this.sort) 0 + 1) ∙ p.four;
        fitting = subst (λ (cs : List ℕ). (k : ℕ) → k < 4 → get_or cs k 0 ≤ get_or rows k 0) (sym c) (fitting_push counts (rank this.sort) p.four b rows r.1 p.fitting);
        met = λ d. absurd (next-done a (sym then ∙ d));
        quiet = quiet_more rows w i p.quiet quiet_closed;
      }
    where
      quiet_closed : (g : RecordFault) → Shows rows w i g → ⊥
      quiet_closed (Word g) u = words_quiet g u
      quiet_closed (Order c d) u = order_shown c d u (ordered_made o)
      quiet_closed (Count c d) u = count_shown c d u (row_of r)

-- ---- the whole case
pub progress_all : (rows w : List ℕ) (i : ℕ) (counts : List ℕ) → Progress rows w i Done counts → length w ≤ i → LawfulCase rows w
progress_all rows w i counts p l =
    let c = read_all w i p.head p.records p.got l in
    let n = p.got.stage in
    let e : w ≡ n.before ++ end_word = sym (take_all i w l) ∙ n.words in
    let s = whole_of w p.head n.before p.records c n.whole end_word e in
    let m = no_more s.1.more (word_of kind.End 0) [] s.1.formed s.1.rest (kind_word kind.End 0 (omega arith)) in
    let rs : p.records ≡ c.records = sym (s.1.same ∙ ap (λ (u : List Record). p.records ++ u) m ∙ append-nil p.records) in
    record {
      form = c;
      met = subst (λ (h : List ℕ). CountsMet h c.records) (sym s.0) (subst (CountsMet p.head) rs (p.met refl));
      ordered = subst (AllByRecursion Ordered) rs p.ordered;
      fitting = λ k h. subst (λ (z : List Record). count_rank k z ≤ get_or rows k 0) rs (let f = p.fitting k h in let u = p.tally k h in omega arith);
    }

-- a fault by its parts
pub refused_as : (rows w : List ℕ) (f : WordFault) (r : WordRefusal) (place : ℕ) (first : Option ℕ) → f.refusal ≡ r → f.place ≡ place → f.first ≡ first → RefusedCase rows w (Word (record { refusal = r; place = place; first = first })) → RefusedCase rows w (Word f)
refused_as rows w f r place first a b c d =
    subst (λ (z : WordFault). RefusedCase rows w (Word z)) (λ i. record { refusal = sym a i; place = sym b i; first = sym c i }) d
