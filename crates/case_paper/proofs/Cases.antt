-- The reader of a case takes exactly the words of a case.
use Rattle.std.proofs.Common.{◌≡◌, ℕ, zero, suc, ◌+◌, ◌-◌, ◌<◌, ◌≤◌, true, false, List, [], ◌∷◌, ◌++◌, length, get_or, drop, replicate, pos, negsuc, sym, refl, ap, ◌∙◌, subst, inl, inr, arith, rules}
use Rattle.std.specs.List.{flat_map, AllByRecursion}
use Rattle.std.proofs.lemmas.List.{append_assoc, drop_more, drop_all}
use Rattle.std.proofs.ByRecursion.{All-append, All-get_or}
use Rattle.std.proofs.lemmas.Bool.{cases_lt, both_ways}
use Rattle.std.proofs.lemmas.Int.{ints}
use Rattle.word.specs.Word.{kind_of, payload_of, word_of, amount_word}
use Rattle.word.specs.Slot.{Fits, InRange, Matches, slot_kind}
use Rattle.word.specs.Place.{may_stand}
use Rattle.word.specs.declared.kind.Kind.{Kind}
use Rattle.word.specs.declared.kind.Kind.TheVariants as kind
use Rattle.word.specs.declared.place.Place.{Place}
use Rattle.word.specs.declared.place.Place.TheVariants as place
use Rattle.word.specs.declared.slot.Slot.{Slot}
use Rattle.word.specs.declared.slot.Slot.TheVariants as slot
use Rattle.word.proofs.Machines as machine
use Rattle.word.proofs.Words.{kind_word, word_at}
use Rattle.word.proofs.Fillings.{end_known, amount_fits}
use Rattle.case_paper.specs.Case.{FirstWord, amounts_of, power_slot, price_slot, head_amounts, head_slots, rank, sort_kind, sort_of, Record, record_words, end_word, Formed, Sorted, CaseForm}
use Rattle.case_paper.specs.State.{after_sort, state_place, read_more, next, Takes, Good, AtRecord}
use Rattle.case_paper.specs.declared.sort.Sort.{Sort}
use Rattle.case_paper.specs.declared.sort.Sort.TheVariants.{Bus, Stepped, Curved, Branch}
use Rattle.case_paper.specs.declared.state.Open.{Open}
use Rattle.case_paper.specs.declared.state.State.{State}
use Rattle.case_paper.specs.declared.state.State.TheVariants.{Head, Counts, Next, Amounts, Done}
use Rattle.case_paper.proofs.States.{first_kind, first-sort, first-no_end, end_or_not, next-end, next-record, next-count, next-counted, next_more, next_last, after-record, good_next}

abbrev pub Final : State → Type 0
Final s = s ≡ Done

abbrev pub Accepts : State → List ℕ → Type 0
Accepts = machine.Accepts State Takes next Final

-- ---- which records may stand at a place
-- the least rank of a record that may stand there
abbrev pub least_rank : Place → ℕ
least_rank place.Head = 0
least_rank place.BusName = 0
least_rank place.BranchName = 0
least_rank place.Amount = 0
least_rank place.End = 0
least_rank place.Buses = 0
least_rank place.Stepped = 1
least_rank place.Curved = 2
least_rank place.Branches = 3

may_rank : (p : Place) (q : Sort) → AtRecord p → may_stand p (sort_kind q) ≡ true → least_rank p ≤ rank q
may_rank place.Head q a m = absurd a
may_rank place.BusName q a m = absurd a
may_rank place.BranchName q a m = absurd a
may_rank place.Amount q a m = absurd a
may_rank place.End q a m = absurd a
may_rank place.Buses Bus a m = omega arith
may_rank place.Buses (Stepped n) a m = omega arith
may_rank place.Buses Curved a m = omega arith
may_rank place.Buses Branch a m = omega arith
may_rank place.Stepped Bus a m = absurd (both_ways false refl m)
may_rank place.Stepped (Stepped n) a m = omega arith
may_rank place.Stepped Curved a m = omega arith
may_rank place.Stepped Branch a m = omega arith
may_rank place.Curved Bus a m = absurd (both_ways false refl m)
may_rank place.Curved (Stepped n) a m = absurd (both_ways false refl m)
may_rank place.Curved Curved a m = omega arith
may_rank place.Curved Branch a m = omega arith
may_rank place.Branches Bus a m = absurd (both_ways false refl m)
may_rank place.Branches (Stepped n) a m = absurd (both_ways false refl m)
may_rank place.Branches Curved a m = absurd (both_ways false refl m)
may_rank place.Branches Branch a m = omega arith

rank-may : (p : Place) (q : Sort) → AtRecord p → least_rank p ≤ rank q → may_stand p (sort_kind q) ≡ true
rank-may place.Head q a m = absurd a
rank-may place.BusName q a m = absurd a
rank-may place.BranchName q a m = absurd a
rank-may place.Amount q a m = absurd a
rank-may place.End q a m = absurd a
rank-may place.Buses Bus a m = refl
rank-may place.Buses (Stepped n) a m = refl
rank-may place.Buses Curved a m = refl
rank-may place.Buses Branch a m = refl
rank-may place.Stepped Bus a m = absurd (omega arith)
rank-may place.Stepped (Stepped n) a m = refl
rank-may place.Stepped Curved a m = refl
rank-may place.Stepped Branch a m = refl
rank-may place.Curved Bus a m = absurd (omega arith)
rank-may place.Curved (Stepped n) a m = absurd (omega arith)
rank-may place.Curved Curved a m = refl
rank-may place.Curved Branch a m = refl
rank-may place.Branches Bus a m = absurd (omega arith)
rank-may place.Branches (Stepped n) a m = absurd (omega arith)
rank-may place.Branches Curved a m = absurd (omega arith)
rank-may place.Branches Branch a m = refl

may_end : (p : Place) → AtRecord p → may_stand p kind.End ≡ true
may_end place.Head a = absurd a
may_end place.BusName a = absurd a
may_end place.BranchName a = absurd a
may_end place.Amount a = absurd a
may_end place.End a = absurd a
may_end place.Buses a = refl
may_end place.Stepped a = refl
may_end place.Curved a = refl
may_end place.Branches a = refl

rank-after : (q : Sort) → least_rank (after_sort q) ≡ rank q
rank-after Bus = refl
rank-after (Stepped n) = refl
rank-after Curved = refl
rank-after Branch = refl

-- ---- what may still come, at each state
record RestN (p : Place) (w : List ℕ) : Type 0 where
  records : List Record
  words : w ≡ flat_map record_words records ++ end_word
  formed : AllByRecursion Formed records
  sorted : Sorted (least_rank p) records

record RestC (read : ℕ) (w : List ℕ) : Type 0 where
  amounts : List ℕ
  rest : List ℕ
  words : w ≡ amounts ++ rest
  matches : Matches (drop read head_amounts) amounts
  more : RestN place.Buses rest

record RestA (q : Sort) (read : ℕ) (w : List ℕ) : Type 0 where
  amounts : List ℕ
  rest : List ℕ
  words : w ≡ amounts ++ rest
  matches : Matches (drop read (amounts_of q)) amounts
  more : RestN (after_sort q) rest

abbrev Rest : State → List ℕ → Type 0
Rest Head w = CaseForm w
Rest (Counts read) w = RestC read w
Rest (Next p) w = RestN p w
Rest (Amounts o) w = RestA o.sort o.read w
Rest Done w = w ≡ []

-- each amount slot asks for an amount
abbrev AnAmount : Slot → Type 0
AnAmount z = slot_kind z ≡ kind.Amount

amount_slot : (n : ℕ) (s : Slot) → AnAmount s → AllByRecursion AnAmount (replicate n s)
amount_slot zero s e = tt
amount_slot (suc n) s e = (e, amount_slot n s e)

all_amounts : (q : Sort) → AllByRecursion AnAmount (amounts_of q)
all_amounts Bus = (refl, tt)
all_amounts (Stepped n) = All-append AnAmount (replicate (3 + n) power_slot) (replicate (n - 1) price_slot) (amount_slot (3 + n) power_slot refl) (amount_slot (n - 1) price_slot refl)
all_amounts Curved = (refl, (refl, (refl, (refl, (refl, tt)))))
all_amounts Branch = (refl, (refl, (refl, (refl, (refl, (refl, tt))))))

-- the slot that is due, and the rest
pub due_kind : (q : Sort) (read : ℕ) → read < length (amounts_of q) → slot_kind (get_or (amounts_of q) read slot.End) ≡ kind.Amount
due_kind q read h = All-get_or AnAmount (amounts_of q) read slot.End h (all_amounts q)

pub head_kind : (read : ℕ) → read < 5 → slot_kind (get_or head_amounts read slot.End) ≡ kind.Amount
head_kind read h = All-get_or AnAmount head_amounts read slot.End h (refl, (refl, (refl, (refl, (refl, tt)))))

due_rest : (q : Sort) (read : ℕ) → read < length (amounts_of q) → drop read (amounts_of q) ≡ get_or (amounts_of q) read slot.End ∷ drop (read + 1) (amounts_of q)
due_rest q read h = drop_more (amounts_of q) read slot.End h

kind_amount : (x : ℕ) → kind_of x ≡ kind.Amount → may_stand place.Amount (kind_of x) ≡ true
kind_amount x e = subst (λ (k : Kind). may_stand place.Amount k ≡ true) (sym e) refl

at-amount : (k : Kind) → may_stand place.Amount k ≡ true → k ≡ kind.Amount
at-amount kind.Unknown m = absurd (both_ways false refl m)
at-amount kind.Head m = absurd (both_ways false refl m)
at-amount kind.Bus m = absurd (both_ways false refl m)
at-amount kind.Stepped m = absurd (both_ways false refl m)
at-amount kind.Curved m = absurd (both_ways false refl m)
at-amount kind.Branch m = absurd (both_ways false refl m)
at-amount kind.End m = absurd (both_ways false refl m)
at-amount kind.Amount m = refl

at_head : (k : Kind) → may_stand place.Head k ≡ true → k ≡ kind.Head
at_head kind.Unknown m = absurd (both_ways false refl m)
at_head kind.Bus m = absurd (both_ways false refl m)
at_head kind.Stepped m = absurd (both_ways false refl m)
at_head kind.Curved m = absurd (both_ways false refl m)
at_head kind.Branch m = absurd (both_ways false refl m)
at_head kind.Amount m = absurd (both_ways false refl m)
at_head kind.End m = absurd (both_ways false refl m)
at_head kind.Head m = refl

pub stands_amount : (x : ℕ) → may_stand place.Amount (kind_of x) ≡ true → kind_of x ≡ kind.Amount
stands_amount x m = at-amount (kind_of x) m

pub stands_head : (x : ℕ) → may_stand place.Head (kind_of x) ≡ true → kind_of x ≡ kind.Head
stands_head x m = at_head (kind_of x) m

nothing_left : (ss : List Slot) (read : ℕ) (u : List ℕ) → length ss ≤ read → Matches (drop read ss) u → u ≡ []
nothing_left ss read [] h m = refl
nothing_left ss read (x ∷ u) h m = absurd (subst (λ (ts : List Slot). Matches ts (x ∷ u)) (drop_all read ss h) m)

pub ∷-parts : {x y : ℕ} {v w : List ℕ} → (x ∷ v) ≡ (y ∷ w) → (x ≡ y) × (v ≡ w)
∷-parts {x} {y} {v} {w} e = let a : x ≡ y = cc in let b : v ≡ w = cc in (a, b)

next-forth : (p : Place) (x : ℕ) (w : List ℕ) (rs : List Record) → AtRecord p → (x ∷ w) ≡ flat_map record_words rs ++ end_word → AllByRecursion Formed rs → Sorted (least_rank p) rs → Takes (Next p) x × Rest (next (Next p) x) w
next-forth p x w [] a e f b =
    let d = ∷-parts e in
    let k : kind_of x ≡ kind.End = ap kind_of d.0 ∙ kind_word kind.End 0 (omega arith) in
    let z : payload_of x ≡ 0 = ap payload_of d.0 in (
      (subst (λ (n : Kind). may_stand p n ≡ true) (sym k) (may_end p a), ((λ _. z), λ n. absurd (n k))),
      subst (λ (s : State). Rest s w) (sym (next-end p x k)) d.1,
    )
next-forth p x w (r ∷ rs) a e f b =
    let d = ∷-parts e in
    let fw : FirstWord r.sort x = subst (λ (y : ℕ). FirstWord r.sort y) (sym d.0) f.0.0 in
    let k : kind_of x ≡ sort_kind r.sort = first_kind r.sort x fw in
    let n : kind_of x ≡ kind.End → ⊥ = first-no_end r.sort x fw in
    let q : sort_of x ≡ r.sort = first-sort r.sort x fw in (
      (subst (λ (j : Kind). may_stand p j ≡ true) (sym k) (rank-may p r.sort a b.0), ((λ h. absurd (n h)), λ _. subst (λ (z : Sort). FirstWord z x) (sym q) fw)),
      subst (λ (s : State). Rest s w) (sym (next-record p x n))
          (subst (λ (z : Sort). RestA z 0 w) (sym q)
          (record {
            amounts = r.amounts;
            rest = flat_map record_words rs ++ end_word;
            words = d.1 ∙ append_assoc r.amounts (flat_map record_words rs) end_word;
            matches = f.0.1;
            more = record { records = rs; words = refl; formed = f.1; sorted = subst (λ (i : ℕ). Sorted i rs) (sym (rank-after r.sort)) b.1 };
          })),
    )

amounts_forth : (o : Open) (x : ℕ) (w : List ℕ) → o.read < length (amounts_of o.sort) → (u v : List ℕ) → (x ∷ w) ≡ u ++ v → Matches (drop o.read (amounts_of o.sort)) u → RestN (after_sort o.sort) v → Takes (Amounts o) x × Rest (next (Amounts o) x) w
amounts_forth o x w h [] v e m n =
    absurd (subst (λ (ss : List Slot). Matches ss []) (due_rest o.sort o.read h) m)
amounts_forth o x w h (y ∷ u) v e m n =
    let d = ∷-parts e in
    let m' = subst (λ (ss : List Slot). Matches ss (y ∷ u)) (due_rest o.sort o.read h) m in
    let k : kind_of x ≡ kind.Amount = ap kind_of d.0 ∙ m'.0.0 ∙ due_kind o.sort o.read h in
    let i : InRange (get_or (amounts_of o.sort) o.read slot.End) x = subst (λ (z : ℕ). InRange (get_or (amounts_of o.sort) o.read slot.End) z) (sym d.0) m'.0.1 in (
      (kind_amount x k, i),
      elim (cases_lt (o.read + 1) (length (amounts_of o.sort))) [
        | inl l ↦ subst (λ (s : State). Rest s w) (sym (next_more o x l)) (record { amounts = u; rest = v; words = d.1; matches = m'.1; more = n })
        | inr l ↦ let z : u ≡ [] = nothing_left (amounts_of o.sort) (o.read + 1) u l m'.1 in
            subst (λ (s : State). Rest s w) (sym (next_last o x l))
            (subst (λ (t : List ℕ). RestN (after_sort o.sort) t) (sym (d.1 ∙ ap (λ (t : List ℕ). t ++ v) z)) n)
      ],
    )

counts_forth : (read x : ℕ) (w : List ℕ) → read < 5 → (u v : List ℕ) → (x ∷ w) ≡ u ++ v → Matches (drop read head_amounts) u → RestN place.Buses v → Takes (Counts read) x × Rest (next (Counts read) x) w
counts_forth read x w h [] v e m n =
    absurd (subst (λ (ss : List Slot). Matches ss []) (drop_more head_amounts read slot.End h) m)
counts_forth read x w h (y ∷ u) v e m n =
    let d = ∷-parts e in
    let m' = subst (λ (ss : List Slot). Matches ss (y ∷ u)) (drop_more head_amounts read slot.End h) m in
    let k : kind_of x ≡ kind.Amount = ap kind_of d.0 ∙ m'.0.0 ∙ head_kind read h in
    let i : InRange (get_or head_amounts read slot.End) x = subst (λ (z : ℕ). InRange (get_or head_amounts read slot.End) z) (sym d.0) m'.0.1 in (
      (kind_amount x k, i),
      elim (cases_lt (read + 1) 5) [
        | inl l ↦ subst (λ (s : State). Rest s w) (sym (next-count read x l)) (record { amounts = u; rest = v; words = d.1; matches = m'.1; more = n })
        | inr l ↦ let z : u ≡ [] = nothing_left head_amounts (read + 1) u l m'.1 in
            subst (λ (s : State). Rest s w) (sym (next-counted read x l))
            (subst (λ (t : List ℕ). RestN place.Buses t) (sym (d.1 ∙ ap (λ (t : List ℕ). t ++ v) z)) n)
      ],
    )

head_forth : (x : ℕ) (w h v : List ℕ) → (x ∷ w) ≡ h ++ v → Matches head_slots h → RestN place.Buses v → Takes Head x × Rest (next Head x) w
head_forth x w [] v e m n = absurd m
head_forth x w (y ∷ u) v e m n =
    let d = ∷-parts e in
    let k : kind_of x ≡ kind.Head = ap kind_of d.0 ∙ m.0.0 in
    let p : payload_of x ≡ 1 = ap payload_of d.0 ∙ m.0.1 in (
      (subst (λ (j : Kind). may_stand place.Head j ≡ true) (sym k) refl, p),
      record { amounts = u; rest = v; words = d.1; matches = m.1; more = n },
    )

-- a word is taken, and the rest is what may still come
forth : (s : State) (x : ℕ) (w : List ℕ) → Good s → Rest s (x ∷ w) → Takes s x × Rest (next s x) w
forth Head x w g c =
    head_forth x w c.head (flat_map record_words c.records ++ end_word) c.words c.headed
    (record { records = c.records; words = refl; formed = c.formed; sorted = c.sorted })
forth (Counts read) x w g c = counts_forth read x w g c.amounts c.rest c.words c.matches c.more
forth (Next p) x w g c = next-forth p x w c.records g c.words c.formed c.sorted
forth (Amounts o) x w g c = amounts_forth o x w g.1 c.amounts c.rest c.words c.matches c.more
forth Done x w g c = absurd (let z : length (x ∷ w) ≡ 0 = ap length c in omega arith)

back : (s : State) (x : ℕ) (w : List ℕ) → Good s → Takes s x → Rest (next s x) w → Rest s (x ∷ w)
back Head x w g t c =
    record {
      head = x ∷ c.amounts;
      records = c.more.records;
      words = ap (λ (v : List ℕ). x ∷ v) (c.words ∙ ap (λ (v : List ℕ). c.amounts ++ v) c.more.words);
      headed = ((stands_head x t.0, t.1), c.matches);
      formed = c.more.formed;
      sorted = c.more.sorted;
    }
back (Counts read) x w g t c =
    let k : kind_of x ≡ slot_kind (get_or head_amounts read slot.End) = stands_amount x t.0 ∙ sym (head_kind read g) in
    elim (cases_lt (read + 1) 5) [
      | inl l ↦
          let a : RestC (read + 1) w = subst (λ (s : State). Rest s w) (next-count read x l) c in
          record {
            amounts = x ∷ a.amounts;
            rest = a.rest;
            words = ap (λ (v : List ℕ). x ∷ v) a.words;
            matches = subst (λ (ss : List Slot). Matches ss (x ∷ a.amounts)) (sym (drop_more head_amounts read slot.End g)) ((k, t.1), a.matches);
            more = a.more;
          }
      | inr l ↦
          let n : RestN place.Buses w = subst (λ (s : State). Rest s w) (next-counted read x l) c in
          record {
            amounts = x ∷ [];
            rest = w;
            words = refl;
            matches = subst (λ (ss : List Slot). Matches ss (x ∷ [])) (sym (drop_more head_amounts read slot.End g))
                ((k, t.1), subst (λ (ss : List Slot). Matches ss []) (sym (drop_all (read + 1) head_amounts l)) tt);
            more = n;
          }
    ]
back (Next p) x w g t c =
    elim (end_or_not (kind_of x)) [
      | inl e ↦
          let z : w ≡ [] = subst (λ (s : State). Rest s w) (next-end p x e) c in
          let h : x ≡ word_of kind.End 0 = word_at x kind.End 0 e end_known (t.1.0 e) in
          record { records = []; words = λ i. h i ∷ z i; formed = tt; sorted = tt }
      | inr n ↦
          let a : RestA (sort_of x) 0 w = subst (λ (s : State). Rest s w) (next-record p x n) c in
          let fw = t.1.1 n in
          let r : Record = record { sort = sort_of x; first = x; amounts = a.amounts } in
          let m = subst (λ (j : Kind). may_stand p j ≡ true) (first_kind (sort_of x) x fw) t.0 in
          record {
            records = r ∷ a.more.records;
            words = ap (λ (v : List ℕ). x ∷ v) (a.words ∙ ap (λ (v : List ℕ). a.amounts ++ v) a.more.words ∙ sym (append_assoc a.amounts (flat_map record_words a.more.records) end_word));
            formed = ((fw, a.matches), a.more.formed);
            sorted = (may_rank p (sort_of x) g m, subst (λ (i : ℕ). Sorted i a.more.records) (rank-after (sort_of x)) a.more.sorted);
          }
    ]
back (Amounts o) x w g t c =
    let k : kind_of x ≡ slot_kind (get_or (amounts_of o.sort) o.read slot.End) = stands_amount x t.0 ∙ sym (due_kind o.sort o.read g.1) in
    elim (cases_lt (o.read + 1) (length (amounts_of o.sort))) [
      | inl l ↦
          let a : RestA o.sort (o.read + 1) w = subst (λ (s : State). Rest s w) (next_more o x l) c in
          record {
            amounts = x ∷ a.amounts;
            rest = a.rest;
            words = ap (λ (v : List ℕ). x ∷ v) a.words;
            matches = subst (λ (ss : List Slot). Matches ss (x ∷ a.amounts)) (sym (due_rest o.sort o.read g.1)) ((k, t.1), a.matches);
            more = a.more;
          }
      | inr l ↦
          let n : RestN (after_sort o.sort) w = subst (λ (s : State). Rest s w) (next_last o x l) c in
          record {
            amounts = x ∷ [];
            rest = w;
            words = refl;
            matches = subst (λ (ss : List Slot). Matches ss (x ∷ [])) (sym (due_rest o.sort o.read g.1))
                ((k, t.1), subst (λ (ss : List Slot). Matches ss []) (sym (drop_all (o.read + 1) (amounts_of o.sort) l)) tt);
            more = n;
          }
    ]
back Done x w g t c = absurd t.1

next-none : {s : State} (rs : List Record) → [] ≡ flat_map record_words rs ++ end_word → s ≡ Done
next-none [] e = let z : ◌≡◌ {A = ℕ} 0 1 = ap length e in absurd (omega arith)
next-none (r ∷ rs) e = let z : 0 ≡ suc (length ((r.amounts ++ flat_map record_words rs) ++ end_word)) = ap length e in absurd (omega arith)

amounts_none : (ss : List Slot) (read : ℕ) → read < length ss → (u v : List ℕ) → [] ≡ u ++ v → Matches (drop read ss) u → ⊥
amounts_none ss read h [] v e m = subst (λ (ts : List Slot). Matches ts []) (drop_more ss read slot.End h) m
amounts_none ss read h (x ∷ u) v e m = let z : 0 ≡ suc (length (u ++ v)) = ap length e in omega arith

head_none : (h v : List ℕ) → [] ≡ h ++ v → Matches head_slots h → ⊥
head_none [] v e m = m
head_none (x ∷ u) v e m = let z : 0 ≡ suc (length (u ++ v)) = ap length e in omega arith

-- nothing may be left out before the end
rest_none : (s : State) → Good s → Rest s [] → s ≡ Done
rest_none Head g c = absurd (head_none c.head (flat_map record_words c.records ++ end_word) c.words c.headed)
rest_none (Counts read) g c = absurd (amounts_none head_amounts read g c.amounts c.rest c.words c.matches)
rest_none (Next p) g c = next-none c.records c.words
rest_none (Amounts o) g c = absurd (amounts_none (amounts_of o.sort) o.read g.1 c.amounts c.rest c.words c.matches)
rest_none Done g c = refl

accepts : (s : State) (w : List ℕ) → Good s → Rest s w → Accepts s w
accepts s [] g r = rest_none s g r
accepts s (x ∷ w) g r = let f = forth s x w g r in (f.0, accepts (next s x) w (good_next s x g f.0) f.1)

accepted : (s : State) (w : List ℕ) → Good s → Accepts s w → Rest s w
accepted s [] g a = subst (λ (z : State). Rest z []) (sym a) refl
accepted s (x ∷ w) g a = back s x w g a.0 (accepted (next s x) w (good_next s x g a.0) a.1)

pub case_to : (w : List ℕ) → Accepts Head w → CaseForm w
case_to w a = accepted Head w tt a

pub case_from : (w : List ℕ) → CaseForm w → Accepts Head w
case_from w c = accepts Head w tt c

-- ---- from each state the reader can come to the end
Live : State → Type 0
Live s = (w : List ℕ) × Accepts s w

abbrev Sample : Slot → Type 0
Sample z = (x : ℕ) × Fits z x

samples_run : (n : ℕ) (z : Slot) → Sample z → AllByRecursion Sample (replicate n z)
samples_run zero z x = tt
samples_run (suc n) z x = (x, samples_run n z x)

power_sample : Sample power_slot
power_sample = (amount_word (pos 0), amount_fits (negsuc 99999999) (pos 100000000) (pos 0) (omega (arith, ints), omega (arith, ints)) (omega (arith, ints), omega (arith, ints)))

price-sample : Sample price_slot
price-sample = (amount_word (pos 0), amount_fits (negsuc 999999) (pos 1000000) (pos 0) (omega (arith, ints), omega (arith, ints)) (omega (arith, ints), omega (arith, ints)))

one-sample : (most : ℕ) → 1 ≤ most → Sample (slot.Amount (pos 1) (pos most))
one-sample most h = (amount_word (pos 1), amount_fits (pos 1) (pos most) (pos 1) (omega (arith, ints), omega (arith, ints)) (omega (arith, ints), omega (arith, ints)))

zero_sample : (most : ℕ) → Sample (slot.Amount (pos 0) (pos most))
zero_sample most = (amount_word (pos 0), amount_fits (pos 0) (pos most) (pos 0) (omega (arith, ints), omega (arith, ints)) (omega (arith, ints), omega (arith, ints)))

sized_sample : (size : ℕ) → Sample (slot.Amount (negsuc size) (pos (suc size)))
sized_sample size = (amount_word (pos 0), amount_fits (negsuc size) (pos (suc size)) (pos 0) (omega (arith, ints), omega (arith, ints)) (omega (arith, ints), omega (arith, ints)))

samples : (q : Sort) → AllByRecursion Sample (amounts_of q)
samples Bus = (power_sample, tt)
samples (Stepped n) = All-append Sample (replicate (3 + n) power_slot) (replicate (n - 1) price_slot) (samples_run (3 + n) power_slot power_sample) (samples_run (n - 1) price_slot price-sample)
samples Curved = (power_sample, (power_sample, (power_sample, (price-sample, (one-sample 500 (omega arith), tt)))))
samples Branch =
    (one-sample 1000000 (omega arith), (sized_sample 1599999, (zero_sample 100000000, (sized_sample 6399999, (sized_sample 6399999, (zero_sample 1, tt))))))

head_samples : AllByRecursion Sample head_amounts
head_samples = (zero_sample 100000, (one-sample 100 (omega arith), (zero_sample 30, (zero_sample 30, (zero_sample 200, tt)))))

live_next : (p : Place) → AtRecord p → Live (Next p)
unfolding Live
live_next p a =
    let k = kind_word kind.End 0 (omega arith) in (
      end_word,
      ((subst (λ (j : Kind). may_stand p j ≡ true) (sym k) (may_end p a), ((λ _. refl), λ n. absurd (n k))), next-end p (word_of kind.End 0) k),
    )

-- a due amount is taken
take_amount : (o : Open) (x : ℕ) → o.read < length (amounts_of o.sort) → Fits (get_or (amounts_of o.sort) o.read slot.End) x → Takes (Amounts o) x
take_amount o x h f = (kind_amount x (f.0 ∙ due_kind o.sort o.read h), f.1)

take_count : (read x : ℕ) → read < 5 → Fits (get_or head_amounts read slot.End) x → Takes (Counts read) x
take_count read x h f = (kind_amount x (f.0 ∙ head_kind read h), f.1)

live_amounts : (left : ℕ) (o : Open) → o.read + suc left ≡ length (amounts_of o.sort) → Live (Amounts o)
unfolding Live
live_amounts zero o e =
    let x = All-get_or Sample (amounts_of o.sort) o.read slot.End (omega arith) (samples o.sort) in
    let t = take_amount o x.0 (omega arith) x.1 in
    let l = live_next (after_sort o.sort) (after-record o.sort) in
    (x.0 ∷ l.0, (t, subst (λ (s : State). Accepts s l.0) (sym (next_last o x.0 (omega arith))) l.1))
live_amounts (suc left) o e =
    let x = All-get_or Sample (amounts_of o.sort) o.read slot.End (omega arith) (samples o.sort) in
    let t = take_amount o x.0 (omega arith) x.1 in
    let l = live_amounts left (read_more o) (omega arith) in
    (x.0 ∷ l.0, (t, subst (λ (s : State). Accepts s l.0) (sym (next_more o x.0 (omega arith))) l.1))

live_counts : (left read : ℕ) → read + suc left ≡ 5 → Live (Counts read)
unfolding Live
live_counts zero read e =
    let x = All-get_or Sample head_amounts read slot.End (omega arith) head_samples in
    let t = take_count read x.0 (omega arith) x.1 in
    let l = live_next place.Buses tt in
    (x.0 ∷ l.0, (t, subst (λ (s : State). Accepts s l.0) (sym (next-counted read x.0 (omega arith))) l.1))
live_counts (suc left) read e =
    let x = All-get_or Sample head_amounts read slot.End (omega arith) head_samples in
    let t = take_count read x.0 (omega arith) x.1 in
    let l = live_counts left (read + 1) (omega arith) in
    (x.0 ∷ l.0, (t, subst (λ (s : State). Accepts s l.0) (sym (next-count read x.0 (omega arith))) l.1))

takes_head : Takes Head (word_of kind.Head 1)
takes_head = (subst (λ (k : Kind). may_stand place.Head k ≡ true) (sym (kind_word kind.Head 1 (omega arith))) refl, refl)

pub live : (s : State) → Good s → (w : List ℕ) × Accepts s w
unfolding Live
live Head g = let l = live_counts 4 0 refl in (word_of kind.Head 1 ∷ l.0, (takes_head, l.1))
live (Counts read) g = live_counts (5 - (read + 1)) read (omega arith)
live (Next p) g = live_next p g
live (Amounts o) g = live_amounts (length (amounts_of o.sort) - (o.read + 1)) o (omega arith)
live Done g = ([], refl)

-- ---- where a kind may stand, some word of that kind is taken
abbrev Opener : Place → Kind → Type 0
Opener p k = (x : ℕ) × (kind_of x ≡ k) × Takes (Next p) x

open_by : (p : Place) (k : Kind) (q : Sort) (x : ℕ) → may_stand p k ≡ true → kind_of x ≡ k → sort_kind q ≡ k → FirstWord q x → Opener p k
open_by p k q x m e f w = (
  x,
  e,
  (
    subst (λ (j : Kind). may_stand p j ≡ true) (sym e) m,
    ((λ h. absurd (first-no_end q x w h)), λ _. subst (λ (z : Sort). FirstWord z x) (sym (first-sort q x w)) w),
  ),
)

-- the kinds that begin no record and end no case
no_opener : (p : Place) → AtRecord p → (may_stand p kind.Unknown ≡ false) × (may_stand p kind.Head ≡ false) × (may_stand p kind.Amount ≡ false)
no_opener place.Head a = absurd a
no_opener place.BusName a = absurd a
no_opener place.BranchName a = absurd a
no_opener place.Amount a = absurd a
no_opener place.End a = absurd a
no_opener place.Buses a = (refl, refl, refl)
no_opener place.Stepped a = (refl, refl, refl)
no_opener place.Curved a = (refl, refl, refl)
no_opener place.Branches a = (refl, refl, refl)

opener : (p : Place) (k : Kind) → AtRecord p → may_stand p k ≡ true → Opener p k
opener p kind.Bus a m =
    let e = kind_word kind.Bus 1 (omega arith) in open_by p kind.Bus Bus (word_of kind.Bus 1) m e refl (e, (search rules))
opener p kind.Stepped a m =
    let e = kind_word kind.Stepped 513 (omega arith) in open_by p kind.Stepped (Stepped 2) (word_of kind.Stepped 513) m e refl (e, refl, search rules, search rules, search rules)
opener p kind.Curved a m =
    let e = kind_word kind.Curved 1 (omega arith) in open_by p kind.Curved Curved (word_of kind.Curved 1) m e refl (e, (search rules))
opener p kind.Branch a m =
    let e = kind_word kind.Branch 65793 (omega arith) in open_by p kind.Branch Branch (word_of kind.Branch 65793) m e refl (e, search rules, search rules, search rules)
opener p kind.End a m =
    let e = kind_word kind.End 0 (omega arith) in
    (word_of kind.End 0, e, (subst (λ (j : Kind). may_stand p j ≡ true) (sym e) m, ((λ _. refl), λ n. absurd (n e))))
opener p kind.Unknown a m = absurd (both_ways (may_stand p kind.Unknown) (no_opener p a).0 m)
opener p kind.Head a m = absurd (both_ways (may_stand p kind.Head) (no_opener p a).1 m)
opener p kind.Amount a m = absurd (both_ways (may_stand p kind.Amount) (no_opener p a).2 m)

pub stands_word : (s : State) (k : Kind) → Good s → (s ≡ Done → ⊥) → may_stand (state_place s) k ≡ true → (x : ℕ) × (kind_of x ≡ k) × Takes s x
stands_word Head k g n m = (word_of kind.Head 1, kind_word kind.Head 1 (omega arith) ∙ sym (at_head k m), takes_head)
stands_word (Counts read) k g n m =
    let x = All-get_or Sample head_amounts read slot.End g head_samples in
    (x.0, x.1.0 ∙ head_kind read g ∙ sym (at-amount k m), take_count read x.0 g x.1)
stands_word (Next p) k g n m = opener p k g m
stands_word (Amounts o) k g n m =
    let x = All-get_or Sample (amounts_of o.sort) o.read slot.End g.1 (samples o.sort) in
    (x.0, x.1.0 ∙ due_kind o.sort o.read g.1 ∙ sym (at-amount k m), take_amount o x.0 g.1 x.1)
stands_word Done k g n m = absurd (n refl)
