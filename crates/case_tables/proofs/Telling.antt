-- Lawful cases and the rows that write them.
use Rattle.std.proofs.Common.{◌≡◌, ℕ, zero, suc, ◌%◌, ◌^◌, ◌<◌, ◌≤◌, Bool, true, false, cond, eqb, List, [], ◌∷◌, ◌++◌, map, length, get_or, ℤ, pos, ◌≤ℤ◌, sym, refl, ap, ◌∙◌, subst, arith}
use Rattle.std.specs.List.{flat_map, AllByRecursion}
use Rattle.std.proofs.ByRecursion.{All-append, All-weaker}
use Rattle.std.proofs.lemmas.Bool.{eqb-true}
use Rattle.std.proofs.lemmas.Grind.{flat_map-append}
use Rattle.std.proofs.lemmas.List.{append_assoc, length-map}
use Rattle.std.proofs.lemmas.List.Folds.{flat_map-map}
use Rattle.measure.proofs.Laws.{lin}
use Rattle.word.specs.Word.{payload_of, amount_of, word_of, amount_word}
use Rattle.word.specs.Laws.{Short}
use Rattle.word.specs.Slot.{Matches}
use Rattle.word.specs.declared.kind.Kind.TheVariants as kind
use Rattle.word.specs.declared.slot.Slot.TheVariants.{Amount}
use Rattle.word.proofs.Words.{payload_word, amount_same, amount_back}
use Rattle.word.proofs.Fillings.{head_word, head_fits, amount_fits}
use Rattle.build.specs.Raw.{BusInRange}
use Rattle.case_paper.specs.Case.{head_slots, rank, Record, record_words, end_word, Formed, CaseForm}
use Rattle.case_paper.specs.Order.{InOrder}
use Rattle.case_paper.specs.Rows.{of_rank, tolerance_of}
use Rattle.case_paper.specs.CaseFault.{count_rank, head_count, CountsMet, LawfulCase}
use Rattle.case_paper.specs.declared.sort.Sort.{Sort}
use Rattle.case_paper.specs.declared.sort.Sort.TheVariants as sort
use Rattle.case_paper.proofs.Outcomes.{form_same}
use Rattle.build.specs.declared.tables.LaidCase.{LaidCase}
use Rattle.case_tables.specs.Rows.{record_of, bus_row, stepped_row, curved_row, branch_row, bus_rows, stepped_rows, curved_rows, branch_rows}
use Rattle.case_tables.specs.Read.{Tables, rows_provided, Written, CaseRead}
use Rattle.case_tables.specs.Told.{RawCase, with_amounts, head_numbers, case_words, SteppedKept, CurvedKept, BranchKept, LawfulRows, WrittenBy, RowsRead, ReadTold, CaseTold}
use Rattle.case_tables.proofs.Sizes.{matches_at, amount_positive, rank-length, rows-length, count_most, head_some, most}
use Rattle.case_tables.proofs.StepRows.{step_record, stepped_forth, stepped_again}
use Rattle.case_tables.proofs.OtherRows.{bus_record, bus_forth, bus_again, curved_record, curved_forth, curved_again, branch_record, branch_forth, branch_again}
use Rattle.case_tables.proofs.Sorting.{OfRank, ranked, first_of, second_of, third_of, fourth_of, joined_sorted}

-- the record is in form and in order
abbrev Sound : Record → Type 0
Sound r = Formed r × InOrder r.sort r.amounts

-- ---- a sort of record: its rows are kept and write it, and what is kept is the row of what it writes
record Writes {T : Type 0} (k : ℕ) (row : Record → T) (back : T → Record) (Kept : T → Type 0) : Type 0 where
  forth : (r : Record) → OfRank k r → Sound r → Kept (row r) × (back (row r) ≡ r)
  again : (x : T) → Kept x → OfRank k (back x) × Sound (back x) × (row (back x) ≡ x)

abbrev Forth : {T : Type 0} → (Record → T) → (T → Record) → (T → Type 0) → Record → Type 0
Forth row back Kept r = Kept (row r) × (back (row r) ≡ r)

bus_at : (q : Sort) (first : ℕ) (xs : List ℕ) → rank q ≡ 0 → Sound (record_of q first xs) → Forth bus_row bus_record BusInRange (record_of q first xs)
bus_at sort.Bus first xs e s = bus_forth first xs s.0
bus_at (sort.Stepped n) first xs e s = absurd (omega arith)
bus_at sort.Curved first xs e s = absurd (omega arith)
bus_at sort.Branch first xs e s = absurd (omega arith)

stepped_at : (q : Sort) (first : ℕ) (xs : List ℕ) → rank q ≡ 1 → Sound (record_of q first xs) → Forth stepped_row step_record SteppedKept (record_of q first xs)
stepped_at sort.Bus first xs e s = absurd (omega arith)
stepped_at (sort.Stepped n) first xs e s = stepped_forth n first xs s.0 s.1
stepped_at sort.Curved first xs e s = absurd (omega arith)
stepped_at sort.Branch first xs e s = absurd (omega arith)

curved_at : (q : Sort) (first : ℕ) (xs : List ℕ) → rank q ≡ 2 → Sound (record_of q first xs) → Forth curved_row curved_record CurvedKept (record_of q first xs)
curved_at sort.Bus first xs e s = absurd (omega arith)
curved_at (sort.Stepped n) first xs e s = absurd (omega arith)
curved_at sort.Curved first xs e s = curved_forth first xs s.0 s.1
curved_at sort.Branch first xs e s = absurd (omega arith)

branch_at : (q : Sort) (first : ℕ) (xs : List ℕ) → rank q ≡ 3 → Sound (record_of q first xs) → Forth branch_row branch_record BranchKept (record_of q first xs)
branch_at sort.Bus first xs e s = absurd (omega arith)
branch_at (sort.Stepped n) first xs e s = absurd (omega arith)
branch_at sort.Curved first xs e s = absurd (omega arith)
branch_at sort.Branch first xs e s = branch_forth first xs s.0 s.1

bus_writes : Writes 0 bus_row bus_record BusInRange
bus_writes =
    record {
      forth = λ r e s. bus_at r.sort r.first r.amounts e s;
      again = λ b k. let a = bus_again b k in (refl, (a.0, a.1), a.2);
    }

stepped_writes : Writes 1 stepped_row step_record SteppedKept
stepped_writes =
    record {
      forth = λ r e s. stepped_at r.sort r.first r.amounts e s;
      again = λ m k. let a = stepped_again m k in (refl, (a.0, a.1), a.2);
    }

curved_writes : Writes 2 curved_row curved_record CurvedKept
curved_writes =
    record {
      forth = λ r e s. curved_at r.sort r.first r.amounts e s;
      again = λ m k. let a = curved_again m k in (refl, (a.0, a.1), a.2);
    }

branch_writes : Writes 3 branch_row branch_record BranchKept
branch_writes =
    record {
      forth = λ r e s. branch_at r.sort r.first r.amounts e s;
      again = λ b k. let a = branch_again b k in (refl, (a.0, a.1), a.2);
    }

-- ---- all records of a sort
module _ {T : Type 0} (k : ℕ) (row : Record → T) (back : T → Record) (Kept : T → Type 0) (writes : Writes k row back Kept) where
  abbrev Told : List Record → Type 0
  Told rs = AllByRecursion Kept (map row rs) × (map back (map row rs) ≡ rs)

  told_or : (b : Bool) (r : Record) (rs : List Record) → (b ≡ true → Forth row back Kept r) → Told rs → Told (cond b (r ∷ rs) rs)
  told_or true r rs f t =
      let g = f refl in
      let e = g.1 in
      let d = t.1 in
      ((g.0, t.0), λ i. e i ∷ d i)
  told_or false r rs f t = t

  rows_told : (rs : List Record) → AllByRecursion Sound rs → Told (of_rank k rs)
  rows_told [] a = (tt, refl)
  rows_told (r ∷ rs) a =
      told_or (eqb (rank r.sort) k) r (of_rank k rs) (λ e. writes.forth r (eqb-true (rank r.sort) k e) a.0) (rows_told rs a.1)

  -- the words of the records are those of their rows
  rows_words : (rs : List Record) → AllByRecursion Sound rs → flat_map record_words (of_rank k rs) ≡ flat_map (λ (x : T). record_words (back x)) (map row (of_rank k rs))
  rows_words rs a =
      ap (flat_map record_words) (sym (rows_told rs a).1) ∙ flat_map-map record_words back (map row (of_rank k rs))

  record Given (xs : List T) : Type 0 where
    ranks : AllByRecursion (OfRank k) (map back xs)
    sound : AllByRecursion Sound (map back xs)
    rows : map row (map back xs) ≡ xs

  records_given : (xs : List T) → AllByRecursion Kept xs → Given xs
  records_given [] a = record { ranks = tt; sound = tt; rows = refl }
  records_given (x ∷ xs) a =
      let g = writes.again x a.0 in
      let t = records_given xs a.1 in
      let e = g.2 in
      let d = t.rows in
      record {
        ranks = (g.0, t.ranks);
        sound = (g.1, t.sound);
        rows = λ i. e i ∷ d i;
      }

-- ---- the head
tolerance_short : (z : ℤ) → (pos 0 ≤ℤ z) × (z ≤ℤ pos 100000) → Short z
tolerance_short z h = (omega (arith, lin), omega (arith, lin))

count_back : (x n least : ℕ) (most : ℤ) → Matches (Amount (pos least) most ∷ []) (x ∷ []) → payload_of x ≡ n → x ≡ amount_word (pos n)
count_back x n least most m e =
    sym (amount_same x m.0.0) ∙ ap amount_word (amount_positive x (omega (arith, lin, m.0.1.0)) ∙ ap pos e)

count_fits : (n least most : ℕ) → least ≤ n → n ≤ most → most ≤ 1000 → Matches (Amount (pos least) (pos most) ∷ []) (amount_word (pos n) ∷ []) × (payload_of (amount_word (pos n)) ≡ n)
unfolding amount_word
count_fits n least most low high small =
    let p : n % 2 ^ 28 ≡ n = omega arith in
    let e : payload_of (word_of kind.Amount (n % 2 ^ 28)) ≡ n % 2 ^ 28 = payload_word kind.Amount (n % 2 ^ 28) (omega arith) in
    ((amount_fits (pos least) (pos most) (pos n) (omega (arith, lin), omega (arith, lin)) (omega (arith, lin), omega (arith, lin)), tt), e ∙ p)

-- the words of a head, by its tolerance and its counts
abbrev head_of : ℤ → ℕ → ℕ → ℕ → ℕ → List ℕ
head_of z nb ns nc nl = with_amounts (word_of kind.Head 1) (z ∷ pos nb ∷ pos ns ∷ pos nc ∷ pos nl ∷ [])

head_is : (head : List ℕ) (nb ns nc nl : ℕ) → Matches head_slots head → nb ≡ head_count head 0 → ns ≡ head_count head 1 → nc ≡ head_count head 2 → nl ≡ head_count head 3 → head ≡ head_of (amount_of (get_or head 1 0)) nb ns nc nl
head_is [] nb ns nc nl m e f g h = absurd m
head_is (t ∷ []) nb ns nc nl m e f g h = absurd m.1
head_is (t ∷ (u ∷ [])) nb ns nc nl m e f g h = absurd m.1.1
head_is (t ∷ (u ∷ (v ∷ []))) nb ns nc nl m e f g h = absurd m.1.1.1
head_is (t ∷ (u ∷ (v ∷ (w ∷ [])))) nb ns nc nl m e f g h = absurd m.1.1.1.1
head_is (t ∷ (u ∷ (v ∷ (w ∷ (x ∷ []))))) nb ns nc nl m e f g h = absurd m.1.1.1.1.1
head_is (t ∷ (u ∷ (v ∷ (w ∷ (x ∷ (y ∷ [])))))) nb ns nc nl m e f g h =
    let a = head_word 1 t m.0 in
    let b : u ≡ amount_word (amount_of u) = sym (amount_same u m.1.0.0) in
    let c = count_back v nb 1 (pos 100) (m.1.1.0, tt) (sym e) in
    let d = count_back w ns 0 (pos 30) (m.1.1.1.0, tt) (sym f) in
    let i = count_back x nc 0 (pos 30) (m.1.1.1.1.0, tt) (sym g) in
    let j = count_back y nl 0 (pos 200) (m.1.1.1.1.1.0, tt) (sym h) in
    λ k. a k ∷ (b k ∷ (c k ∷ (d k ∷ (i k ∷ (j k ∷ [])))))
head_is (t ∷ (u ∷ (v ∷ (w ∷ (x ∷ (y ∷ (z ∷ head))))))) nb ns nc nl m e f g h = absurd m.1.1.1.1.1.1

-- ---- from a lawful case to its rows
abbrev case_rows : {w : List ℕ} → CaseForm w → RawCase
case_rows c =
    record {
      tolerance = tolerance_of c;
      buses = bus_rows c.records;
      stepped = stepped_rows c.records;
      curved = curved_rows c.records;
      branches = branch_rows c.records;
    }

all_sound : (rs : List Record) → AllByRecursion Formed rs → AllByRecursion (λ r. InOrder r.sort r.amounts) rs → AllByRecursion Sound rs
all_sound [] f o = tt
all_sound (r ∷ rs) f o = ((f.0, o.0), all_sound rs f.1 o.1)

four_words : (bs ss cs ls : List Record) (rest : List ℕ) → flat_map record_words (bs ++ (ss ++ (cs ++ ls))) ++ rest ≡ flat_map record_words bs ++ (flat_map record_words ss ++ (flat_map record_words cs ++ (flat_map record_words ls ++ rest)))
four_words bs ss cs ls rest = simp (flat_map-append, append_assoc)

module _ (room w : List ℕ) (l : LawfulCase room w) where
  sound : AllByRecursion Sound l.form.records
  sound = all_sound l.form.records l.form.formed l.ordered

  case_lawful : LawfulRows room (case_rows l.form)
  case_lawful =
      let rs = l.form.records in
      let h = l.form.head in
      let m = l.form.headed in
      let nb = rows-length bus_row 0 rs in
      let ns = rows-length stepped_row 1 rs in
      let nc = rows-length curved_row 2 rs in
      let nl = rows-length branch_row 3 rs in
      let some = head_some h m in
      let met = l.met 0 (omega arith) in
      let b = count_most h rs sort.Bus m l.met in
      let s = count_most h rs (sort.Stepped 0) m l.met in
      let c = count_most h rs sort.Curved m l.met in
      let r = count_most h rs sort.Branch m l.met in
      let bf = l.fitting 0 (omega arith) in
      let sf = l.fitting 1 (omega arith) in
      let cf = l.fitting 2 (omega arith) in
      let rf = l.fitting 3 (omega arith) in
      record {
        tolerance = (matches_at head_slots h 1 m (omega arith)).1;
        bus_count = (omega arith, omega arith);
        stepped_count = omega arith;
        curved_count = omega arith;
        branch_count = omega arith;
        bus_room = omega arith;
        stepped_room = omega arith;
        curved_room = omega arith;
        branch_room = omega arith;
        buses = (rows_told 0 bus_row bus_record BusInRange bus_writes rs sound).0;
        stepped = (rows_told 1 stepped_row step_record SteppedKept stepped_writes rs sound).0;
        curved = (rows_told 2 curved_row curved_record CurvedKept curved_writes rs sound).0;
        branches = (rows_told 3 branch_row branch_record BranchKept branch_writes rs sound).0;
      }

  case_written : w ≡ case_words (case_rows l.form)
  case_written =
      let rs = l.form.records in
      let nb = rows-length bus_row 0 rs ∙ l.met 0 (omega arith) in
      let ns = rows-length stepped_row 1 rs ∙ l.met 1 (omega arith) in
      let nc = rows-length curved_row 2 rs ∙ l.met 2 (omega arith) in
      let nl = rows-length branch_row 3 rs ∙ l.met 3 (omega arith) in
      let e = head_is l.form.head (length (bus_rows rs)) (length (stepped_rows rs)) (length (curved_rows rs)) (length (branch_rows rs)) l.form.headed nb ns nc nl in
      let b = rows_words 0 bus_row bus_record BusInRange bus_writes rs sound in
      let s = rows_words 1 stepped_row step_record SteppedKept stepped_writes rs sound in
      let c = rows_words 2 curved_row curved_record CurvedKept curved_writes rs sound in
      let r = rows_words 3 branch_row branch_record BranchKept branch_writes rs sound in
      l.form.words
      ∙ ap (λ (ts : List Record). l.form.head ++ (flat_map record_words ts ++ end_word)) (ranked 0 rs l.form.sorted)
      ∙ ap (λ (v : List ℕ). l.form.head ++ v) (four_words (of_rank 0 rs) (of_rank 1 rs) (of_rank 2 rs) (of_rank 3 rs) end_word)
      ∙ (λ i. e i ++ (b i ++ (s i ++ (c i ++ (r i ++ end_word)))))

-- ---- from lawful rows to a lawful case
module _ (room : List ℕ) (c : RawCase) (l : LawfulRows room c) where
  given_buses : Given 0 bus_row bus_record BusInRange bus_writes c.buses
  given_buses = records_given 0 bus_row bus_record BusInRange bus_writes c.buses l.buses

  given_stepped : Given 1 stepped_row step_record SteppedKept stepped_writes c.stepped
  given_stepped = records_given 1 stepped_row step_record SteppedKept stepped_writes c.stepped l.stepped

  given_curved : Given 2 curved_row curved_record CurvedKept curved_writes c.curved
  given_curved = records_given 2 curved_row curved_record CurvedKept curved_writes c.curved l.curved

  given_branches : Given 3 branch_row branch_record BranchKept branch_writes c.branches
  given_branches = records_given 3 branch_row branch_record BranchKept branch_writes c.branches l.branches

  abbrev bs : List Record
  bs = map bus_record c.buses

  abbrev ss : List Record
  ss = map step_record c.stepped

  abbrev cs : List Record
  cs = map curved_record c.curved

  abbrev ls : List Record
  ls = map branch_record c.branches

  abbrev all : List Record
  all = bs ++ (ss ++ (cs ++ ls))

  -- the records of each sort
  sort_buses : of_rank 0 all ≡ bs
  sort_buses = first_of bs ss cs ls given_buses.ranks given_stepped.ranks given_curved.ranks given_branches.ranks

  sort_stepped : of_rank 1 all ≡ ss
  sort_stepped = second_of bs ss cs ls given_buses.ranks given_stepped.ranks given_curved.ranks given_branches.ranks

  sort_curved : of_rank 2 all ≡ cs
  sort_curved = third_of bs ss cs ls given_buses.ranks given_stepped.ranks given_curved.ranks given_branches.ranks

  sort_branches : of_rank 3 all ≡ ls
  sort_branches = fourth_of bs ss cs ls given_buses.ranks given_stepped.ranks given_curved.ranks given_branches.ranks

  -- how many they are
  many_buses : count_rank 0 all ≡ length c.buses
  many_buses = sym (rank-length 0 all) ∙ ap length sort_buses ∙ length-map c.buses bus_record

  many_stepped : count_rank 1 all ≡ length c.stepped
  many_stepped = sym (rank-length 1 all) ∙ ap length sort_stepped ∙ length-map c.stepped step_record

  many_curved : count_rank 2 all ≡ length c.curved
  many_curved = sym (rank-length 2 all) ∙ ap length sort_curved ∙ length-map c.curved curved_record

  many_branches : count_rank 3 all ≡ length c.branches
  many_branches = sym (rank-length 3 all) ∙ ap length sort_branches ∙ length-map c.branches branch_record

  abbrev head : List ℕ
  head = with_amounts (word_of kind.Head 1) (head_numbers c)

  all_right : AllByRecursion Sound all
  all_right =
      All-append Sound bs (ss ++ (cs ++ ls)) given_buses.sound
      (All-append Sound ss (cs ++ ls) given_stepped.sound
      (All-append Sound cs ls given_curved.sound given_branches.sound))

  said_buses : Matches (Amount (pos 1) (pos 100) ∷ []) (amount_word (pos (length c.buses)) ∷ []) × (payload_of (amount_word (pos (length c.buses))) ≡ length c.buses)
  said_buses = count_fits (length c.buses) 1 100 l.bus_count.0 l.bus_count.1 (omega arith)

  said_stepped : Matches (Amount (pos 0) (pos 30) ∷ []) (amount_word (pos (length c.stepped)) ∷ []) × (payload_of (amount_word (pos (length c.stepped))) ≡ length c.stepped)
  said_stepped = count_fits (length c.stepped) 0 30 (omega arith) l.stepped_count (omega arith)

  said_curved : Matches (Amount (pos 0) (pos 30) ∷ []) (amount_word (pos (length c.curved)) ∷ []) × (payload_of (amount_word (pos (length c.curved))) ≡ length c.curved)
  said_curved = count_fits (length c.curved) 0 30 (omega arith) l.curved_count (omega arith)

  said_branches : Matches (Amount (pos 0) (pos 200) ∷ []) (amount_word (pos (length c.branches)) ∷ []) × (payload_of (amount_word (pos (length c.branches))) ≡ length c.branches)
  said_branches = count_fits (length c.branches) 0 200 (omega arith) l.branch_count (omega arith)

  rows_form : CaseForm (case_words c)
  rows_form =
      let b = flat_map-map record_words bus_record c.buses in
      let s = flat_map-map record_words step_record c.stepped in
      let v = flat_map-map record_words curved_record c.curved in
      let r = flat_map-map record_words branch_record c.branches in
      record {
        head = head;
        records = all;
        words =
            (λ i. head ++ (sym b i ++ (sym s i ++ (sym v i ++ (sym r i ++ end_word)))))
            ∙ ap (λ (t : List ℕ). head ++ t) (sym (four_words bs ss cs ls end_word));
        headed = (
          head_fits 1 (omega arith),
          (
            amount_fits (pos 0) (pos 100000) c.tolerance (tolerance_short c.tolerance l.tolerance) l.tolerance,
            (said_buses.0.0, (said_stepped.0.0, (said_curved.0.0, (said_branches.0.0, tt)))),
          ),
        );
        formed = All-weaker Sound Formed (λ r s. s.0) all all_right;
        sorted = joined_sorted bs ss cs ls given_buses.ranks given_stepped.ranks given_curved.ranks given_branches.ranks;
      }

  rows_met : CountsMet head all
  rows_met zero h = many_buses ∙ sym said_buses.1
  rows_met (suc zero) h = many_stepped ∙ sym said_stepped.1
  rows_met (suc (suc zero)) h = many_curved ∙ sym said_curved.1
  rows_met (suc (suc (suc zero))) h = many_branches ∙ sym said_branches.1
  rows_met (suc (suc (suc (suc k)))) h = absurd (omega arith)

  rows_fit : (k : ℕ) → k < 4 → count_rank k all ≤ get_or room k 0
  rows_fit zero h = let n = many_buses in let f = l.bus_room in omega arith
  rows_fit (suc zero) h = let n = many_stepped in let f = l.stepped_room in omega arith
  rows_fit (suc (suc zero)) h = let n = many_curved in let f = l.curved_room in omega arith
  rows_fit (suc (suc (suc zero))) h = let n = many_branches in let f = l.branch_room in omega arith
  rows_fit (suc (suc (suc (suc k)))) h = absurd (omega arith)

  rows_lawful : LawfulCase room (case_words c)
  unfolding rows_form
  rows_lawful =
      record {
        form = rows_form;
        met = rows_met;
        ordered = All-weaker Sound (λ r. InOrder r.sort r.amounts) (λ r s. s.1) all all_right;
        fitting = rows_fit;
      }

  -- which is the case of these rows again
  rows_same : case_rows rows_form ≡ c
  unfolding rows_form
  rows_same =
      let t : amount_of (amount_word c.tolerance) ≡ c.tolerance = amount_back c.tolerance (tolerance_short c.tolerance l.tolerance) in
      let b = ap (map bus_row) sort_buses ∙ given_buses.rows in
      let s = ap (map stepped_row) sort_stepped ∙ given_stepped.rows in
      let v = ap (map curved_row) sort_curved ∙ given_curved.rows in
      let r = ap (map branch_row) sort_branches ∙ given_branches.rows in
      λ i. record { tolerance = t i; buses = b i; stepped = s i; curved = v i; branches = r i }

-- ---- the rows of a case are one case's
form_rows : (w : List ℕ) (c d : CaseForm w) → case_rows c ≡ case_rows d
form_rows w c d =
    let s = form_same w c d in
    let h = s.0 in
    let r = s.1 in
    λ i. record {
      tolerance = amount_of (get_or (h i) 1 0);
      buses = bus_rows (r i);
      stepped = stepped_rows (r i);
      curved = curved_rows (r i);
      branches = branch_rows (r i);
    }

-- of any two forms of one list of words
moved_rows : (v w : List ℕ) (e : v ≡ w) (c : CaseForm v) (d : CaseForm w) → case_rows c ≡ case_rows d
moved_rows v w e c d = subst (λ (x : List ℕ). (d : CaseForm x) → case_rows c ≡ case_rows d) e (λ d. form_rows v c d) d

rows_of : (room w : List ℕ) (f : CaseForm w) (c : RawCase) → WrittenBy room w c → case_rows f ≡ c
rows_of room w f c k = moved_rows w (case_words c) k.words f (rows_form room c k.lawful) ∙ rows_same room c k.lawful

one : (room other : List ℕ) (c d : RawCase) → LawfulRows room c → LawfulRows other d → case_words c ≡ case_words d → c ≡ d
one room other c d l m e = sym (rows_same room c l) ∙ rows_of other (case_words c) (rows_form room c l) d (record { lawful = m; words = e })

told : (room w : List ℕ) → LawfulCase room w → (c : RawCase) × WrittenBy room w c
told room w l = (case_rows l.form, record { lawful = case_lawful room w l; words = case_written room w l })

read : (w : List ℕ) (before after : Tables) (v : LaidCase) (r : CaseRead w before after v) (room : List ℕ) (c : RawCase) → WrittenBy room w c → RowsRead c r.offer before after
read w before after v r room c k =
    let e = rows_of room w r.lawful.form c k in
    record {
      tolerance = r.offered.allows ∙ ap (λ (x : RawCase). x.tolerance) e;
      buses = r.offered.buses ∙ ap (λ (x : RawCase). x.buses) e;
      first = r.offered.first ∙ ap (λ (x : RawCase). x.stepped) e;
      second = r.offered.second ∙ ap (λ (x : RawCase). x.curved) e;
      branches = r.offered.branches ∙ ap (λ (x : RawCase). x.branches) e;
      stepped = subst (λ (x : RawCase). Written x.stepped before.stepped after.stepped) e r.stepped;
      curved = subst (λ (x : RawCase). Written x.curved before.curved after.curved) e r.curved;
    }

pub read_told : (w : List ℕ) (before after : Tables) (v : LaidCase) → CaseRead w before after v → ReadTold w before after v
read_told w before after v r =
    let t = told (rows_provided before) w r.lawful in
    record { read = r; rows = t.0; written = t.1; laid = read w before after v r (rows_provided before) t.0 t.1 }

pub case_told : CaseTold
case_told = record { told = told; lawful = rows_lawful; one = one; read = read }
