-- Where the reader is after words of a known shape; so those shapes exclude one another, and each is unique.
use Rattle.std.proofs.Common.{rules, Some, None, Option, ◌≡◌, ℕ, suc, ◌+◌, ◌-◌, ◌<◌, List, [], ◌∷◌, ◌++◌, length, take, drop, sym, refl, ap, ◌∙◌, inl, inr, arith}
use Rattle.std.specs.List.{flat_map, AllByRecursion}
use Rattle.std.proofs.lemmas.List.{append_assoc, append-nil, length-append, length-take-le, take_at, drop_at, take-take, flat_map_more, take_all, take-append-drop, same_from_push}
use Rattle.std.proofs.ByRecursion.{All-push}
use Rattle.std.proofs.lemmas.Bool.{cases_lt}
use Rattle.word.specs.Word.{kind_of}
use Rattle.word.specs.Slot.{Matches}
use Rattle.word.specs.declared.kind.Kind.TheVariants as kind
use Rattle.word.specs.declared.place.Place.{Place}
use Rattle.word.specs.declared.place.Place.TheVariants as place
use Rattle.word.proofs.Machines as machine
use Rattle.word.proofs.Words.{kind_word}
use Rattle.word.proofs.Slots.{matches_length}
use Rattle.case_paper.specs.Case.{head_slots, FirstWord, amounts_of, sort_of, Record, record_words, end_word, Formed, CaseForm}
use Rattle.case_paper.specs.CaseFault.{Whole, Inside, OpenWord, Completes}
use Rattle.case_paper.specs.State.{after_sort, opened, read_more, open_first, next, Takes}
use Rattle.case_paper.specs.declared.sort.Sort.{Sort}
use Rattle.case_paper.specs.declared.state.Open.{Open}
use Rattle.case_paper.specs.declared.state.State.{State}
use Rattle.case_paper.specs.declared.state.State.TheVariants.{Head, Next, Amounts, Done}
use Rattle.case_paper.proofs.States.{first-sort, first-no_end, next-record, next_more, next_last, amounts_some}
use Rattle.case_paper.proofs.Cases.{Final, ∷-parts}

abbrev pub run : State → List ℕ → State
run = machine.after State Takes next Final

pub run-append : (s : State) (u v : List ℕ) → run s (u ++ v) ≡ run (run s u) v
run-append s [] v = refl
run-append s (x ∷ u) v = run-append (next s x) u v

-- ---- where the reader is
run-head : (h : List ℕ) → Matches head_slots h → run Head h ≡ Next place.Buses
run-head [] m = absurd m
run-head (a ∷ []) m = absurd m.1
run-head (a ∷ b ∷ []) m = absurd m.1.1
run-head (a ∷ b ∷ c ∷ []) m = absurd m.1.1.1
run-head (a ∷ b ∷ c ∷ d ∷ []) m = absurd m.1.1.1.1
run-head (a ∷ b ∷ c ∷ d ∷ e ∷ []) m = absurd m.1.1.1.1.1
run-head (a ∷ b ∷ c ∷ d ∷ e ∷ f ∷ []) m = refl
run-head (a ∷ b ∷ c ∷ d ∷ e ∷ f ∷ g ∷ h) m = absurd m.1.1.1.1.1.1

run-part : (o : Open) (u : List ℕ) → o.read + length u < length (amounts_of o.sort) → run (Amounts o) u ≡ Amounts (record o { read = o.read + length u })
run-part o [] h = ap (λ (n : ℕ). Amounts (record o { read = n })) (let e : o.read ≡ o.read + 0 = omega arith in e)
run-part o (x ∷ u) h =
    ap (λ (s : State). run s u) (next_more o x (omega arith)) ∙ run-part (read_more o) u (omega arith)
    ∙ ap (λ (n : ℕ). Amounts (record o { read = n })) (let e : (o.read + 1) + length u ≡ o.read + suc (length u) = omega arith in e)

run-full : (o : Open) (x : ℕ) (u : List ℕ) → o.read + suc (length u) ≡ length (amounts_of o.sort) → run (Amounts o) (x ∷ u) ≡ Next (after_sort o.sort)
run-full o x [] h = next_last o x (omega arith)
run-full o x (y ∷ u) h =
    ap (λ (s : State). run s (y ∷ u)) (next_more o x (omega arith)) ∙ run-full (read_more o) y u (omega arith)

next-opened : (a : Place) (q : Sort) (x : ℕ) → FirstWord q x → next (Next a) x ≡ Amounts (opened q x)
next-opened a q x f = next-record a x (first-no_end q x f) ∙ ap (λ (z : Sort). Amounts (opened z x)) (first-sort q x f)

run-amounts : (q : Sort) (first : ℕ) (u : List ℕ) → FirstWord q first → length u ≡ length (amounts_of q) → run (Amounts (opened q first)) u ≡ Next (after_sort q)
run-amounts q first [] f l = let s = amounts_some q first f in absurd (omega arith)
run-amounts q first (x ∷ u) f l = run-full (opened q first) x u (omega arith)

run-record : (a : Place) (r : Record) → Formed r → run (Next a) (record_words r) ≡ Next (after_sort r.sort)
run-record a r f =
    ap (λ (s : State). run s r.amounts) (next-opened a r.sort r.first f.0)
    ∙ run-amounts r.sort r.first r.amounts f.0 (matches_length (amounts_of r.sort) r.amounts f.1)

run-records : (a : Place) (rs : List Record) → AllByRecursion Formed rs → (b : Place) × (run (Next a) (flat_map record_words rs) ≡ Next b)
run-records a [] f = (a, refl)
run-records a (r ∷ rs) f =
    let t = run-records (after_sort r.sort) rs f.1 in
    (t.0, run-append (Next a) (record_words r) (flat_map record_words rs) ∙ ap (λ (s : State). run s (flat_map record_words rs)) (run-record a r f.0) ∙ t.1)

pub run-whole : (p h : List ℕ) (rs : List Record) → Whole p h rs → (b : Place) × (run Head p ≡ Next b)
run-whole p h rs w =
    let t = run-records place.Buses rs w.formed in
    (t.0, ap (run Head) w.words ∙ run-append Head h (flat_map record_words rs) ∙ ap (λ (s : State). run s (flat_map record_words rs)) (run-head h w.headed) ∙ t.1)

pub run_inside : (p : List ℕ) (x : ℕ) → Inside p x → (q : Sort) × (read : ℕ) × (run Head p ≡ Amounts (record { sort = q; first = x; read = read }))
run_inside p x i =
    let b = run-whole i.before i.head i.records i.whole in
    let s = i.short in (
      i.sort,
      length i.part,
      ap (run Head) i.words ∙ run-append Head i.before (x ∷ i.part) ∙ ap (λ (s : State). run s (x ∷ i.part)) b.1
          ∙ ap (λ (s : State). run s i.part) (next-opened b.0 i.sort x i.opens)
          ∙ run-part (opened i.sort x) i.part (omega arith) ∙ ap (λ (n : ℕ). Amounts (record { sort = i.sort; first = x; read = n })) (let e : 0 + length i.part ≡ length i.part = omega arith in e),
    )

-- ---- the states differ
pub next-amounts : (a : Place) (o : Open) → Next a ≡ Amounts o → ⊥
next-amounts a o e = search rules

pub next-done : (a : Place) → Next a ≡ Done → ⊥
next-done a e = search rules

pub amounts_done : (o : Open) → Amounts o ≡ Done → ⊥
amounts_done o e = search rules

-- ---- the open word
pub inside_open : (p : List ℕ) (x : ℕ) → Inside p x → open_first (run Head p) ≡ Some x
inside_open p x i = ap open_first (run_inside p x i).2

pub open_same : (p : List ℕ) (x y : Option ℕ) → OpenWord p x → OpenWord p y → x ≡ y
open_same p (Some x) (Some y) i j = sym (inside_open p x i) ∙ inside_open p y j
open_same p (Some x) None i n = absurd (n x i)
open_same p None (Some y) n j = absurd (n y j)
open_same p None None n m = refl

-- ---- the records of a list of words
made : Sort → ℕ → List ℕ → Record
made q first xs = record { sort = q; first = first; amounts = xs }

-- the records ts go on after rs with others, whose words and the end are v
pub record GoesOn (rs ts : List Record) (v : List ℕ) : Type 0 where
  pub more : List Record
  pub same : ts ≡ rs ++ more
  pub rest : flat_map record_words more ++ end_word ≡ v
  pub formed : AllByRecursion Formed more

-- whole records at the front of a case's are the first of its records
pub records_prefix : (rs ts : List Record) → AllByRecursion Formed rs → AllByRecursion Formed ts → (v : List ℕ) → flat_map record_words ts ++ end_word ≡ flat_map record_words rs ++ v → GoesOn rs ts v
unfolding made
records_prefix [] ts f g v e = record { more = ts; same = refl; rest = e; formed = g }
records_prefix (r ∷ rs) [] f g v e =
    let d = ∷-parts e in
    absurd (first-no_end r.sort r.first f.0.0 (ap kind_of (sym d.0) ∙ kind_word kind.End 0 (omega arith)))
records_prefix (r ∷ rs) (t ∷ ts) f g v e =
    let d = ∷-parts e in
    let q : t.sort ≡ r.sort = sym (first-sort t.sort t.first g.0.0) ∙ ap sort_of d.0 ∙ first-sort r.sort r.first f.0.0 in
    let l : length r.amounts ≡ length t.amounts =
    matches_length (amounts_of r.sort) r.amounts f.0.1 ∙ ap (λ (z : Sort). length (amounts_of z)) (sym q)
    ∙ sym (matches_length (amounts_of t.sort) t.amounts g.0.1) in
    let n : ℕ = length t.amounts in
    let b : t.amounts ++ (flat_map record_words ts ++ end_word) ≡ r.amounts ++ (flat_map record_words rs ++ v) =
    sym (append_assoc t.amounts (flat_map record_words ts) end_word) ∙ d.1 ∙ append_assoc r.amounts (flat_map record_words rs) v in
    let x : t.amounts ≡ r.amounts = sym (take_at t.amounts (flat_map record_words ts ++ end_word) n refl) ∙ ap (take n) b ∙ take_at r.amounts (flat_map record_words rs ++ v) n l in
    let y : flat_map record_words ts ++ end_word ≡ flat_map record_words rs ++ v = sym (drop_at t.amounts (flat_map record_words ts ++ end_word) n refl) ∙ ap (drop n) b ∙ drop_at r.amounts (flat_map record_words rs ++ v) n l in
    let z = records_prefix rs ts f.1 g.1 v y in
    let same : made t.sort t.first t.amounts ≡ made r.sort r.first r.amounts = λ i. made (q i) (d.0 i) (x i) in
    record { more = z.more; same = λ i. same i ∷ z.same i; rest = z.rest; formed = z.formed }

records_same : (rs ts : List Record) → AllByRecursion Formed rs → AllByRecursion Formed ts → flat_map record_words rs ≡ flat_map record_words ts → rs ≡ ts
records_same rs ts f g e =
    let a = records_prefix ts rs g f end_word (ap (λ (l : List ℕ). l ++ end_word) e) in
    let b = records_prefix rs ts f g end_word (ap (λ (l : List ℕ). l ++ end_word) (sym e)) in
    let la : length rs ≡ length ts + length a.more = ap length a.same ∙ length-append ts a.more in
    let lb : length ts ≡ length rs + length b.more = ap length b.same ∙ length-append rs b.more in
    a.same ∙ ap (λ (l : List Record). ts ++ l) (empty a.more (omega arith)) ∙ append-nil ts
  where
    empty : (l : List Record) → length l ≡ 0 → l ≡ []
    empty [] h = refl
    empty (x ∷ l) h = absurd (omega arith)

heads_same : (h k u v : List ℕ) → Matches head_slots h → Matches head_slots k → h ++ u ≡ k ++ v → (h ≡ k) × (u ≡ v)
heads_same h k u v m n e =
    let a = matches_length head_slots h m in
    let b = matches_length head_slots k n in
    (sym (take_at h u 6 a) ∙ ap (take 6) e ∙ take_at k v 6 b, sym (drop_at h u 6 a) ∙ ap (drop 6) e ∙ drop_at k v 6 b)

pub whole_same : (p h k : List ℕ) (rs ts : List Record) → Whole p h rs → Whole p k ts → (h ≡ k) × (rs ≡ ts)
whole_same p h k rs ts w v =
    let s = heads_same h k (flat_map record_words rs) (flat_map record_words ts) w.headed v.headed (sym w.words ∙ v.words) in
    (s.0, records_same rs ts w.formed v.formed s.1)

-- the whole records at the front of a case are the first of its records
pub whole_of : (w h pre : List ℕ) (rs : List Record) (c : CaseForm w) → Whole pre h rs → (rest : List ℕ) → w ≡ pre ++ rest → (c.head ≡ h) × GoesOn rs c.records rest
whole_of w h pre rs c f rest e =
    let g : c.head ++ (flat_map record_words c.records ++ end_word) ≡ h ++ (flat_map record_words rs ++ rest) =
    sym c.words ∙ e ∙ ap (λ (l : List ℕ). l ++ rest) f.words ∙ append_assoc h (flat_map record_words rs) rest in
    let s = heads_same c.head h (flat_map record_words c.records ++ end_word) (flat_map record_words rs ++ rest) c.headed f.headed g in
    (s.0, records_prefix rs c.records f.formed c.formed rest s.1)

-- ---- a record that a word completes
module _ (w : List ℕ) (k place : ℕ) (h : List ℕ) (rs : List Record) (r : Record) (c : Completes w k place h rs r) where
  -- the words with the record are whole
  pub completes_whole : Whole (take (k + 1) w) h (rs ++ (r ∷ []))
  completes_whole =
      record {
        words = c.words ∙ ap (λ (l : List ℕ). l ++ record_words r) c.whole.words ∙ flat_map_more record_words h rs r;
        headed = c.whole.headed;
        formed = All-push Formed rs r c.whole.formed c.formed;
      }

  pub completes_place : place + suc (length r.amounts) ≡ k + 1
  completes_place =
      let a : length (take (k + 1) w) ≡ length (take place w ++ record_words r) = ap length c.words in
      let b = length-append (take place w) (record_words r) in
      let l = c.inside in
      let n = length-take-le (k + 1) w (omega arith) in
      elim (cases_lt (length w) place) [
        | inl g ↦ let t : length (take place w) ≡ length w = ap length (take_all place w (omega arith)) in absurd (omega arith)
        | inr g ↦ let t = length-take-le place w g in omega arith
      ]

  -- before the word they end inside the record
  pub completes_inside : Inside (take k w) r.first
  completes_inside =
      let n = completes_place in
      let l = c.inside in
      let m = matches_length (amounts_of r.sort) r.amounts c.formed.1 in
      let s = amounts_some r.sort r.first c.formed.0 in
      let j : ℕ = length r.amounts - 1 in
      let lp = length-take-le place w (omega arith) in
      let split : (r.first ∷ take j r.amounts) ++ drop j r.amounts ≡ record_words r = ap (λ (v : List ℕ). r.first ∷ v) (take-append-drop j r.amounts) in
      let front : take (k + 1) w ≡ (take place w ++ (r.first ∷ take j r.amounts)) ++ drop j r.amounts =
      c.words ∙ ap (λ (v : List ℕ). take place w ++ v) (sym split) ∙ sym (append_assoc (take place w) (r.first ∷ take j r.amounts) (drop j r.amounts)) in
      let lj = length-take-le j r.amounts (omega arith) in
      let la = length-append (take place w) (r.first ∷ take j r.amounts) in
      record {
        before = take place w;
        head = h;
        records = rs;
        sort = r.sort;
        part = take j r.amounts;
        words = sym (take-take k (k + 1) w (omega arith)) ∙ ap (take k) front
            ∙ take_at (take place w ++ (r.first ∷ take j r.amounts)) (drop j r.amounts) k (omega arith);
        whole = c.whole;
        opens = c.formed.0;
        short = omega arith;
      }

pub record SameRecord (place place' : ℕ) (h h' : List ℕ) (rs rs' : List Record) (r r' : Record) : Type 0 where
  pub heads : h ≡ h'
  pub befores : rs ≡ rs'
  pub records : r ≡ r'
  pub places : place ≡ place'

pub completes_same : (w : List ℕ) (k place place' : ℕ) (h h' : List ℕ) (rs rs' : List Record) (r r' : Record) → Completes w k place h rs r → Completes w k place' h' rs' r' → SameRecord place place' h h' rs rs' r r'
completes_same w k place place' h h' rs rs' r r' c d =
    let s = whole_same (take (k + 1) w) h h' (rs ++ (r ∷ [])) (rs' ++ (r' ∷ [])) (completes_whole w k place h rs r c) (completes_whole w k place' h' rs' r' d) in
    let p = same_from_push rs rs' r r' s.1 in
    let a = completes_place w k place h rs r c in
    let b = completes_place w k place' h' rs' r' d in
    let l : length r.amounts ≡ length r'.amounts = ap (λ (x : Record). length x.amounts) p.1 in
    record { heads = s.0; befores = p.0; records = p.1; places = omega arith }
