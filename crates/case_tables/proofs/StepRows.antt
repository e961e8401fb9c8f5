-- The row of a machine in steps, and the record that it writes.
use Rattle.std.proofs.Common.{rules, ◌≡◌, ℕ, zero, suc, ◌+◌, ◌-◌, ◌*◌, ◌/◌, ◌%◌, ◌<◌, ◌≤◌, min, Bool, true, ◌&&◌, leb, Decides, List, [], ◌∷◌, ◌++◌, map, length, get_or, take, drop, replicate, ℤ, pos, negsuc, neg_ℤ, ◌≤ℤ◌, ◌<ℤ◌, int_le, int_lt, sym, refl, ap, ◌∙◌, subst, arith}
use Rattle.std.proofs.lemmas.Bool.{and_parts, and_from, leb-true, le-leb}
use Rattle.std.proofs.lemmas.Int.{ints}
use Rattle.std.proofs.lemmas.List.{length-map, length-append, length-replicate, length-take, map-append, take_at, drop_at, get_or_append_left, get_or-append-add}
use Rattle.measure.specs.Range.{Within, between}
use Rattle.measure.proofs.Order.{test_within, within_test}
use Rattle.machine.specs.Limits.{limits_in_range}
use Rattle.word.specs.Word.{payload_of, amount_of, word_of, amount_word}
use Rattle.word.specs.Slot.{Byte, Fits, Matches}
use Rattle.word.specs.declared.kind.Kind.TheVariants as kind
use Rattle.word.specs.declared.slot.Slot.{Slot}
use Rattle.word.proofs.Words.{kind_word, payload_word, word_is, amount_same, amount_back}
use Rattle.word.proofs.Fillings.{amount_fits}
use Rattle.word.proofs.Slots.{matches_join, matches_parts}
use Rattle.stepped.specs.Piecewise.{powers_of, each_between, rising, never_falling}
use Rattle.stepped.specs.declared.stepped.Stepped.{Stepped}
use Rattle.case_paper.specs.Case.{FirstWord, amounts_of, power_slot, price_slot, Record, Formed}
use Rattle.case_paper.specs.Order.{amount_at, InOrder}
use Rattle.case_paper.specs.declared.sort.Sort.TheVariants as sort
use Rattle.case_paper.proofs.Orders.{InTurn, FromOn, part_on, on_part}
use Rattle.case_tables.specs.Rows.{record_of, padded, powered, stepped_row}
use Rattle.case_tables.specs.Told.{points_used, slopes_used, SteppedKept}
use Rattle.case_tables.proofs.Amounts.{Limited, limits_to, limits_from, read_run, written_run, power_short, price_short, powers_back}

-- ---- a test of each number against the next, by the words that say them
module _ (R : ℤ → ℤ → Type 0) (e : ℤ → ℤ → Bool) (F : List ℤ → Bool) (tests : (x y : ℤ) → Decides (e x y) (R x y)) (none : F [] ≡ true) (one : (x : ℤ) → F (x ∷ []) ≡ true) (more : (x y : ℤ) (ys : List ℤ) → F (x ∷ (y ∷ ys)) ≡ (e x y && F (y ∷ ys))) where
  in_turn : (xs : List ℕ) → F (map amount_of xs) ≡ true → InTurn R xs
  in_turn [] t k h = absurd (omega arith)
  in_turn (x ∷ []) t k h = absurd (omega arith)
  in_turn (x ∷ (y ∷ xs)) t zero h =
      (tests (amount_of x) (amount_of y)).0 (and_parts (e (amount_of x) (amount_of y)) (F (map amount_of (y ∷ xs))) (sym (more (amount_of x) (amount_of y) (map amount_of xs)) ∙ t)).0
  in_turn (x ∷ (y ∷ xs)) t (suc k) h =
      let p = and_parts (e (amount_of x) (amount_of y)) (F (map amount_of (y ∷ xs))) (sym (more (amount_of x) (amount_of y) (map amount_of xs)) ∙ t) in
      let j : suc (k + 1) ≡ suc k + 1 = omega arith in
      subst (λ (i : ℕ). R (amount_at (y ∷ xs) k) (amount_at (x ∷ (y ∷ xs)) i)) j (in_turn (y ∷ xs) p.1 k (omega arith))

  all_tested : (xs : List ℕ) → InTurn R xs → F (map amount_of xs) ≡ true
  all_tested [] t = none
  all_tested (x ∷ []) t = one (amount_of x)
  all_tested (x ∷ (y ∷ xs)) t =
      let here = (tests (amount_of x) (amount_of y)).1 (t 0 (omega arith)) in
      let later = all_tested (y ∷ xs) (λ k h. let j : suc k + 1 ≡ suc (k + 1) = omega arith in subst (λ (i : ℕ). R (amount_at (y ∷ xs) k) (amount_at (x ∷ (y ∷ xs)) i)) j (t (suc k) (omega arith))) in
      more (amount_of x) (amount_of y) (map amount_of xs) ∙ and_from (e (amount_of x) (amount_of y)) (F (map amount_of (y ∷ xs))) here later

lt_tests : (x y : ℤ) → Decides (int_lt x y) (x <ℤ y)
lt_tests x y = grind (arith, ints)

le_tests : (x y : ℤ) → Decides (int_le x y) (x ≤ℤ y)
le_tests x y = grind (arith, ints)

rises_in_turn : (xs : List ℕ) → rising (map amount_of xs) ≡ true → InTurn ◌<ℤ◌ xs
rises_in_turn = in_turn ◌<ℤ◌ int_lt rising lt_tests refl (λ x. refl) (λ x y ys. refl)

rises_tested : (xs : List ℕ) → InTurn ◌<ℤ◌ xs → rising (map amount_of xs) ≡ true
rises_tested = all_tested ◌<ℤ◌ int_lt rising lt_tests refl (λ x. refl) (λ x y ys. refl)

keeps_in_turn : (xs : List ℕ) → never_falling (map amount_of xs) ≡ true → InTurn ◌≤ℤ◌ xs
keeps_in_turn = in_turn ◌≤ℤ◌ int_le never_falling le_tests refl (λ x. refl) (λ x y ys. refl)

keeps_tested : (xs : List ℕ) → InTurn ◌≤ℤ◌ xs → never_falling (map amount_of xs) ≡ true
keeps_tested = all_tested ◌≤ℤ◌ int_le never_falling le_tests refl (λ x. refl) (λ x y ys. refl)

-- ---- the words of a record: limits, first cost, points, slopes
module _ (n a b c : ℕ) (points slopes : List ℕ) (many : length points ≡ n) (fewer : length slopes ≡ n - 1) where
  abbrev words : List ℕ
  words = a ∷ (b ∷ (c ∷ (points ++ slopes)))

  point_at : (k : ℕ) → k < length points → get_or points k 0 ≡ get_or words (3 + k) 0
  point_at k h =
      let j : suc (suc (suc k)) ≡ 3 + k = omega arith in
      sym (get_or_append_left points slopes 0 k h) ∙ ap (λ (i : ℕ). get_or words i 0) j

  slope_at : (k : ℕ) → k < length slopes → get_or slopes k 0 ≡ get_or words (3 + n + k) 0
  slope_at k h =
      let j : suc (suc (suc (length points + k))) ≡ 3 + n + k = omega arith in
      sym (get_or-append-add points slopes k 0) ∙ ap (λ (i : ℕ). get_or words i 0) j

  record Ordered : Type 0 where
    limits : amount_of a ≤ℤ amount_of b
    rises : rising (map amount_of points) ≡ true
    keeps : never_falling (map amount_of slopes) ≡ true

  order_to : InOrder (sort.Stepped n) words → Ordered
  order_to (l, r, k) =
      record {
        limits = l;
        rises = rises_tested points (on_part ◌<ℤ◌ words points 3 point_at (subst (FromOn ◌<ℤ◌ words 3) (sym many) r));
        keeps = keeps_tested slopes (on_part ◌≤ℤ◌ words slopes (3 + n) slope_at (subst (FromOn ◌≤ℤ◌ words (3 + n)) (sym fewer) k));
      }

  order_from : Ordered → InOrder (sort.Stepped n) words
  order_from o = (
    o.limits,
    subst (FromOn ◌<ℤ◌ words 3) many (part_on ◌<ℤ◌ words points 3 point_at (rises_in_turn points o.rises)),
    subst (FromOn ◌≤ℤ◌ words (3 + n)) fewer (part_on ◌≤ℤ◌ words slopes (3 + n) slope_at (keeps_in_turn slopes o.keeps)),
  )

-- ---- the row
abbrev row_with : ℕ → ℤ → ℤ → ℤ → ℕ → List ℤ → List ℤ → Stepped
row_with bus lo hi c n ps ss =
    record {
      bus = bus;
      lo = record { 0 = lo };
      hi = record { 0 = hi };
      c = c;
      n = n;
      points = map powered (padded 8 ps);
      slopes = padded 7 ss;
    }

-- the row of these words
row_is : (n first a b c : ℕ) (points slopes : List ℕ) → payload_of first / 256 ≡ n → length points ≡ n → stepped_row (record_of (sort.Stepped n) first (a ∷ (b ∷ (c ∷ (points ++ slopes))))) ≡ row_with (payload_of first % 256) (amount_of a) (amount_of b) (amount_of c) n (map amount_of points) (map amount_of slopes)
row_is n first a b c points slopes said many =
    let p = ap (λ (k : ℕ). take k (points ++ slopes)) said ∙ take_at points slopes n many in
    let j : 3 + payload_of first / 256 ≡ suc (suc (suc n)) = omega arith in
    let s : drop (3 + payload_of first / 256) (a ∷ (b ∷ (c ∷ (points ++ slopes)))) ≡ slopes =
    ap (λ (k : ℕ). drop k (a ∷ (b ∷ (c ∷ (points ++ slopes))))) j ∙ drop_at points slopes n many in
    λ i. record {
      bus = payload_of first % 256;
      lo = record { 0 = amount_of a };
      hi = record { 0 = amount_of b };
      c = amount_of c;
      n = said i;
      points = map powered (padded 8 (map amount_of (p i)));
      slopes = padded 7 (map amount_of (s i));
    }

-- what such a row uses
used_points : (bus : ℕ) (lo hi c : ℤ) (n : ℕ) (ps ss : List ℤ) → length ps ≡ n → points_used (row_with bus lo hi c n ps ss) ≡ ps
used_points bus lo hi c n ps ss e = ap (take n) (powers_back (padded 8 ps)) ∙ take_at ps (replicate (8 - length ps) (pos 0)) n e

used_slopes : (bus : ℕ) (lo hi c : ℤ) (n : ℕ) (ps ss : List ℤ) → length ss ≡ n - 1 → slopes_used (row_with bus lo hi c n ps ss) ≡ ss
used_slopes bus lo hi c n ps ss e = take_at ss (replicate (7 - length ss) (pos 0)) (n - 1) e

-- the row's test, by the points and the slopes that it uses
abbrev tested : ℕ → ℕ → ℤ → ℤ → ℤ → List ℤ → List ℤ → Bool
tested n bus lo hi c ps ss =
    leb 2 n
    && leb n 8
    && limits_in_range bus lo hi
    && between (neg_ℤ (pos 100000000)) (pos 100000000) c
    && each_between (neg_ℤ (pos 100000000)) (pos 100000000) ps
    && rising ps
    && each_between (neg_ℤ (pos 1000000)) (pos 1000000) ss
    && never_falling ss

record Tested (n bus : ℕ) (lo hi c : ℤ) (ps ss : List ℤ) : Type 0 where
  few : 2 ≤ n
  most : n ≤ 8
  limits : Limited bus lo hi
  cost : Within 100000000 c
  points : each_between (negsuc 99999999) (pos 100000000) ps ≡ true
  rises : rising ps ≡ true
  slopes : each_between (negsuc 999999) (pos 1000000) ss ≡ true
  keeps : never_falling ss ≡ true

tested_to : (n bus : ℕ) (lo hi c : ℤ) (ps ss : List ℤ) → tested n bus lo hi c ps ss ≡ true → Tested n bus lo hi c ps ss
tested_to n bus lo hi c ps ss e =
    let a = and_parts _ (never_falling ss) e in
    let b = and_parts _ (each_between (neg_ℤ (pos 1000000)) (pos 1000000) ss) a.0 in
    let d = and_parts _ (rising ps) b.0 in
    let f = and_parts _ (each_between (neg_ℤ (pos 100000000)) (pos 100000000) ps) d.0 in
    let g = and_parts _ (between (neg_ℤ (pos 100000000)) (pos 100000000) c) f.0 in
    let h = and_parts _ (limits_in_range bus lo hi) g.0 in
    let j = and_parts (leb 2 n) (leb n 8) h.0 in
    record {
      few = leb-true 2 n j.0;
      most = leb-true n 8 j.1;
      limits = limits_to bus lo hi h.1;
      cost = test_within 100000000 c g.1;
      points = f.1;
      rises = d.1;
      slopes = b.1;
      keeps = a.1;
    }

tested_from : (n bus : ℕ) (lo hi c : ℤ) (ps ss : List ℤ) → Tested n bus lo hi c ps ss → tested n bus lo hi c ps ss ≡ true
tested_from n bus lo hi c ps ss t =
    and_from _ (never_falling ss)
    (and_from _ (each_between (neg_ℤ (pos 1000000)) (pos 1000000) ss)
    (and_from _ (rising ps)
    (and_from _ (each_between (neg_ℤ (pos 100000000)) (pos 100000000) ps)
    (and_from _ (between (neg_ℤ (pos 100000000)) (pos 100000000) c)
    (and_from _ (limits_in_range bus lo hi)
    (and_from (leb 2 n) (leb n 8) (le-leb 2 n t.few) (le-leb n 8 t.most))
    (limits_from bus lo hi t.limits))
    (within_test 100000000 c t.cost))
    t.points)
    t.rises)
    t.slopes)
    t.keeps

-- ---- from a record to its row and back
abbrev pub step_first : ℕ → ℕ → ℕ
step_first n bus = word_of kind.Stepped (256 * n + bus)

abbrev pub step_record : Stepped → Record
step_record m =
    record_of (sort.Stepped m.n) (step_first m.n m.bus) (map amount_word (m.lo.0 ∷ m.hi.0 ∷ m.c ∷ (points_used m ++ slopes_used m)))

stepped_known : kind.Stepped ≡ kind.Unknown → ⊥
stepped_known e = search rules

-- the slots of a record
step_slots : (n : ℕ) → amounts_of (sort.Stepped n) ≡ power_slot ∷ (power_slot ∷ (power_slot ∷ (replicate n power_slot ++ replicate (n - 1) price_slot)))
step_slots n = let e : 3 + n ≡ suc (suc (suc n)) = omega arith in ap (λ (k : ℕ). replicate k power_slot ++ replicate (n - 1) price_slot) e

-- the row is kept, and writes the record again
abbrev pub Forth : Record → Type 0
Forth r = SteppedKept (stepped_row r) × (step_record (stepped_row r) ≡ r)

module _ (n first a b c : ℕ) (points slopes : List ℕ) where
  step_forth : FirstWord (sort.Stepped n) first → Fits power_slot a → Fits power_slot b → Fits power_slot c → Matches (replicate n power_slot) points → Matches (replicate (n - 1) price_slot) slopes → InOrder (sort.Stepped n) (a ∷ (b ∷ (c ∷ (points ++ slopes)))) → Forth (record_of (sort.Stepped n) first (a ∷ (b ∷ (c ∷ (points ++ slopes)))))
  step_forth f fa fb fc mp ms o =
      let rp = read_run (negsuc 99999999) (pos 100000000) n points mp in
      let rs = read_run (negsuc 999999) (pos 1000000) (n - 1) slopes ms in
      let ps : List ℤ = map amount_of points in
      let ss : List ℤ = map amount_of slopes in
      let lp : length ps ≡ n = length-map points amount_of ∙ rp.long in
      let ls : length ss ≡ n - 1 = length-map slopes amount_of ∙ rs.long in
      let bus : ℕ = payload_of first % 256 in
      let m : Stepped = row_with bus (amount_of a) (amount_of b) (amount_of c) n ps ss in
      let up = used_points bus (amount_of a) (amount_of b) (amount_of c) n ps ss lp in
      let us = used_slopes bus (amount_of a) (amount_of b) (amount_of c) n ps ss ls in
      let w = order_to n a b c points slopes rp.long rs.long o in
      let t : Tested n bus (amount_of a) (amount_of b) (amount_of c) ps ss =
      record {
        few = f.2;
        most = f.3;
        limits = record { bus_named = f.4; low = fa.1; high = fb.1; order = w.limits };
        cost = fc.1;
        points = rp.inside;
        rises = w.rises;
        slopes = rs.inside;
        keeps = w.keeps;
      } in
      let kept : SteppedKept m =
      record {
        ranges = (λ i. tested n bus (amount_of a) (amount_of b) (amount_of c) (up i) (us i)) ∙ tested_from n bus (amount_of a) (amount_of b) (amount_of c) ps ss t;
        points = λ i. map powered (padded 8 (sym up i));
        slopes = λ i. padded 7 (sym us i);
      } in
      let said : payload_of first ≡ 256 * n + bus = omega arith in
      let ef : step_first n bus ≡ first = ap (word_of kind.Stepped) (sym said) ∙ sym (word_is first kind.Stepped f.0 stepped_known) in
      let ea : amount_word (amount_of a) ≡ a = amount_same a fa.0 in
      let eb : amount_word (amount_of b) ≡ b = amount_same b fb.0 in
      let ec : amount_word (amount_of c) ≡ c = amount_same c fc.0 in
      let wp = rp.written in
      let ws = rs.written in
      let rest : map amount_word (points_used m ++ slopes_used m) ≡ points ++ slopes =
      (λ i. map amount_word (up i ++ us i)) ∙ map-append amount_word ps ss ∙ (λ i. wp i ++ ws i) in
      let back : step_record m ≡ record_of (sort.Stepped n) first (a ∷ (b ∷ (c ∷ (points ++ slopes)))) =
      λ i. record { sort = sort.Stepped n; first = ef i; amounts = ea i ∷ (eb i ∷ (ec i ∷ rest i)) } in
      subst (λ (k : Stepped). SteppedKept k × (step_record k ≡ record_of (sort.Stepped n) first (a ∷ (b ∷ (c ∷ (points ++ slopes))))))
      (sym (row_is n first a b c points slopes f.1 rp.long)) (kept, back)

forth_at : (n first : ℕ) (xs : List ℕ) → FirstWord (sort.Stepped n) first → Matches (power_slot ∷ (power_slot ∷ (power_slot ∷ (replicate n power_slot ++ replicate (n - 1) price_slot)))) xs → InOrder (sort.Stepped n) xs → Forth (record_of (sort.Stepped n) first xs)
forth_at n first [] f m o = absurd m
forth_at n first (a ∷ []) f m o = absurd m.1
forth_at n first (a ∷ (b ∷ [])) f m o = absurd m.1.1
forth_at n first (a ∷ (b ∷ (c ∷ xs))) f m o =
    let q = matches_parts (replicate n power_slot) (replicate (n - 1) price_slot) xs m.1.1.1 in
    let e = q.whole in
    subst (λ (ys : List ℕ). Forth (record_of (sort.Stepped n) first (a ∷ (b ∷ (c ∷ ys))))) (sym e)
    (step_forth n first a b c q.left q.right f m.0 m.1.0 m.1.1.0 q.lefts q.rights
    (subst (λ (ys : List ℕ). InOrder (sort.Stepped n) (a ∷ (b ∷ (c ∷ ys)))) e o))

pub stepped_forth : (n first : ℕ) (xs : List ℕ) → Formed (record_of (sort.Stepped n) first xs) → InOrder (sort.Stepped n) xs → Forth (record_of (sort.Stepped n) first xs)
stepped_forth n first xs f o = forth_at n first xs f.0 (subst (λ (ss : List Slot). Matches ss xs) (step_slots n) f.1) o

-- ---- from a row to its record and back
abbrev Again : Stepped → List ℕ → Type 0
Again m xs =
    Formed (record_of (sort.Stepped m.n) (step_first m.n m.bus) xs) × InOrder (sort.Stepped m.n) xs
    × (stepped_row (record_of (sort.Stepped m.n) (step_first m.n m.bus) xs) ≡ m)

-- a row that is kept uses as many points as it says, and a slope less
module _ (m : Stepped) (k : SteppedKept m) (most : m.n ≤ 8) where
  points_long : length (points_used m) ≡ m.n
  points_long =
      let ps : List ℤ = points_used m in
      let a : length m.points ≡ length ps + (8 - length ps) =
      ap length k.points ∙ length-map (padded 8 ps) powered ∙ length-append ps (replicate (8 - length ps) (pos 0)) ∙ ap (λ (j : ℕ). length ps + j) (length-replicate (8 - length ps) (pos 0)) in
      let b : length ps ≡ min m.n (length (powers_of m.points)) = length-take m.n (powers_of m.points) in
      let c : length (powers_of m.points) ≡ length m.points = length-map m.points (λ w. w.0) in
      omega arith

  slopes_long : length (slopes_used m) ≡ m.n - 1
  slopes_long =
      let ss : List ℤ = slopes_used m in
      let a : length m.slopes ≡ length ss + (7 - length ss) =
      ap length k.slopes ∙ length-append ss (replicate (7 - length ss) (pos 0)) ∙ ap (λ (j : ℕ). length ss + j) (length-replicate (7 - length ss) (pos 0)) in
      let b : length ss ≡ min (m.n - 1) (length m.slopes) = length-take (m.n - 1) m.slopes in
      omega arith

-- its record's first word
first_again : (n bus : ℕ) → 2 ≤ n → n ≤ 8 → Byte bus → FirstWord (sort.Stepped n) (step_first n bus) × (payload_of (step_first n bus) % 256 ≡ bus)
first_again n bus few most b =
    let small : 256 * n + bus < 268435456 = omega arith in
    let e : payload_of (step_first n bus) ≡ 256 * n + bus = payload_word kind.Stepped (256 * n + bus) small in
    let en : (256 * n + bus) / 256 ≡ n = omega arith in
    let eb : (256 * n + bus) % 256 ≡ bus = omega arith in
    let gn : payload_of (step_first n bus) / 256 ≡ n = ap (λ (p : ℕ). p / 256) e ∙ en in
    let gb : payload_of (step_first n bus) % 256 ≡ bus = ap (λ (p : ℕ). p % 256) e ∙ eb in
    ((kind_word kind.Stepped (256 * n + bus) small, gn, few, most, subst Byte (sym gb) b), gb)

module _ (m : Stepped) (k : SteppedKept m) where
  again_at : Again m (amount_word m.lo.0 ∷ (amount_word m.hi.0 ∷ (amount_word m.c ∷ (map amount_word (points_used m) ++ map amount_word (slopes_used m)))))
  again_at =
      let n : ℕ = m.n in
      let ps : List ℤ = points_used m in
      let ss : List ℤ = slopes_used m in
      let a : ℕ = amount_word m.lo.0 in
      let b : ℕ = amount_word m.hi.0 in
      let c : ℕ = amount_word m.c in
      let left : List ℕ = map amount_word ps in
      let right : List ℕ = map amount_word ss in
      let t = tested_to n m.bus m.lo.0 m.hi.0 m.c ps ss k.ranges in
      let lp = points_long m k t.most in
      let ls = slopes_long m k t.most in
      let rp = written_run (negsuc 99999999) (pos 100000000) power_short ps t.points in
      let rs = written_run (negsuc 999999) (pos 1000000) price_short ss t.slopes in
      let f = first_again n m.bus t.few t.most t.limits.bus_named in
      let many : length left ≡ n = length-map ps amount_word ∙ lp in
      let fewer : length right ≡ n - 1 = length-map ss amount_word ∙ ls in
      let ea : amount_of a ≡ m.lo.0 = amount_back m.lo.0 (power_short m.lo.0 t.limits.low) in
      let eb : amount_of b ≡ m.hi.0 = amount_back m.hi.0 (power_short m.hi.0 t.limits.high) in
      let ec : amount_of c ≡ m.c = amount_back m.c (power_short m.c t.cost) in
      let ep = rp.said in
      let es = rs.said in
      let fa = amount_fits (negsuc 99999999) (pos 100000000) m.lo.0 (power_short m.lo.0 t.limits.low) t.limits.low in
      let fb = amount_fits (negsuc 99999999) (pos 100000000) m.hi.0 (power_short m.hi.0 t.limits.high) t.limits.high in
      let fc = amount_fits (negsuc 99999999) (pos 100000000) m.c (power_short m.c t.cost) t.cost in
      let ml = subst (λ (j : ℕ). Matches (replicate j power_slot) left) lp rp.fits in
      let mr = subst (λ (j : ℕ). Matches (replicate j price_slot) right) ls rs.fits in
      let all = matches_join (replicate n power_slot) (replicate (n - 1) price_slot) left right ml mr in
      let limits : amount_of a ≤ℤ amount_of b = subst (λ (z : ℤ). z ≤ℤ amount_of b) (sym ea) (subst (λ (z : ℤ). m.lo.0 ≤ℤ z) (sym eb) t.limits.order) in
      let rem = f.1 in
      let kp = k.points in
      let ks = k.slopes in (
        (f.0, subst (λ (sl : List Slot). Matches sl (a ∷ (b ∷ (c ∷ (left ++ right))))) (sym (step_slots n)) (fa, (fb, (fc, all)))),
        order_from n a b c left right many fewer (record { limits = limits; rises = ap rising ep ∙ t.rises; keeps = ap never_falling es ∙ t.keeps }),
        row_is n (step_first n m.bus) a b c left right f.0.1 many
            ∙ (λ i. row_with (rem i) (ea i) (eb i) (ec i) n (ep i) (es i))
            ∙ (λ i. record { bus = m.bus; lo = m.lo; hi = m.hi; c = m.c; n = m.n; points = sym kp i; slopes = sym ks i }),
      )

  pub stepped_again : Formed (step_record m) × InOrder (sort.Stepped m.n) (step_record m).amounts × (stepped_row (step_record m) ≡ m)
  stepped_again =
      let e = sym (map-append amount_word (points_used m) (slopes_used m)) in
      subst (Again m) (λ i. amount_word m.lo.0 ∷ (amount_word m.hi.0 ∷ (amount_word m.c ∷ e i))) again_at
