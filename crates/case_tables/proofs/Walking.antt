-- The walk over the records of a case.
use Rattle.std.proofs.Common.{◌≡◌, ℕ, ◌-◌, ◌<◌, ◌≤◌, List, [], ◌∷◌, ◌++◌, length, get_or, take, drop, sym, ap, ◌∙◌, subst, arith}
use Rattle.std.specs.List.{flat_map, AllByRecursion}
use Rattle.std.proofs.lemmas.List.{append_assoc, append-nil, length-append, drop_at, take_at, take_rest}
use Rattle.word.proofs.Slots.{matches_length}
use Rattle.case_paper.specs.Case.{rank, amounts_of, sort_of, Record, record_words, Formed, CaseForm}
use Rattle.case_paper.specs.CaseFault.{count_rank}
use Rattle.case_paper.specs.declared.sort.Sort.{Sort}
use Rattle.case_paper.specs.declared.sort.Sort.TheVariants as sort
use Rattle.case_paper.proofs.States.{first-sort, amounts_short}
use Rattle.case_tables.specs.declared.rows.CaseRows.{CaseRows}
use Rattle.case_tables.specs.Rows.{record_of, bus_row, stepped_row, curved_row, branch_row}
use Rattle.case_tables.specs.Held.{Holds, HasPlace, CountedCase}
use Rattle.case_tables.proofs.Sizes.{rows-length, count_before, most}

-- the rows of the records that are done are kept, and these are the words of the others
pub record Walked (w : List ℕ) (c : CaseForm w) (left : List ℕ) (t : CaseRows) : Type 0 where
  pub done : List Record
  pub rest : List Record
  pub split : c.records ≡ done ++ rest
  pub words : left ≡ flat_map record_words rest
  pub holds : Holds t done

none_left : (done rest : List Record) (t : CaseRows) → length (flat_map record_words rest) < 1 → Holds t done → Holds t (done ++ rest)
none_left done [] t e h = subst (Holds t) (sym (append-nil done)) h
none_left done (r ∷ rs) t e h = absurd (omega arith)

module _ (w : List ℕ) (c : CaseForm w) where
  -- where no word is left all records are done
  pub walked_all : (left : List ℕ) (t : CaseRows) → length left < 1 → Walked w c left t → Holds t c.records
  walked_all left t none v =
      let e : length left ≡ length (flat_map record_words v.rest) = ap length v.words in
      subst (Holds t) (sym v.split) (none_left v.done v.rest t (omega arith) v.holds)

-- the record whose words come first
pub record Standing (w : List ℕ) (c : CaseForm w) (left : List ℕ) (t : CaseRows) : Type 0 where
  pub done : List Record
  pub this : Record
  pub rest : List Record
  pub split : c.records ≡ done ++ (this ∷ rest)
  pub begins : get_or left 0 0 ≡ this.first
  pub words : take (length left - 1) (drop 1 left) ≡ this.amounts ++ flat_map record_words rest
  pub holds : Holds t done
  pub formed : Formed this

all_at : (done rest : List Record) (r : Record) → AllByRecursion Formed (done ++ (r ∷ rest)) → Formed r
all_at [] rest r a = a.0
all_at (d ∷ done) rest r a = all_at done rest r a.1

standing_at : (w : List ℕ) (c : CaseForm w) (left : List ℕ) (t : CaseRows) (done rest : List Record) → 1 ≤ length left → c.records ≡ done ++ rest → left ≡ flat_map record_words rest → Holds t done → Standing w c left t
standing_at w c left t done [] some s e h = let a : length left ≡ 0 = ap length e in absurd (omega arith)
standing_at w c left t done (r ∷ rs) some s e h =
    record {
      done = done;
      this = r;
      rest = rs;
      split = s;
      begins = ap (λ (l : List ℕ). get_or l 0 0) e;
      words = take_rest left 1 ∙ ap (drop 1) e;
      holds = h;
      formed = all_at done rs r (subst (AllByRecursion Formed) s c.formed);
    }

place_of : (t : CaseRows) (done : List Record) (q : Sort) → Holds t done → count_rank (rank q) done < most q → HasPlace t q
place_of t done sort.Bus h l = let a = rows-length bus_row 0 done in let b = ap length h.buses in omega arith
place_of t done (sort.Stepped n) h l = let a = rows-length stepped_row 1 done in let b = ap length h.stepped in omega arith
place_of t done sort.Curved h l = let a = rows-length curved_row 2 done in let b = ap length h.curved in omega arith
place_of t done sort.Branch h l = let a = rows-length branch_row 3 done in let b = ap length h.branches in omega arith

-- ---- the record that the code takes: its sort, how many amounts it has, and its words
module _ (w : List ℕ) (f : CountedCase w) (left : List ℕ) (t : CaseRows) (go : (c : CaseForm w) → Walked w c left t) (some : 1 ≤ length left) (q : Sort) (is : q ≡ sort_of (get_or left 0 0)) where
  at : (c : CaseForm w) → Standing w c left t
  at c = standing_at w c left t (go c).done (go c).rest some (go c).split (go c).words (go c).holds

  sorted : (c : CaseForm w) → q ≡ (at c).this.sort
  unfolding at
  sorted c = is ∙ ap sort_of (at c).begins ∙ first-sort (at c).this.sort (at c).this.first (at c).formed.0

  long : (c : CaseForm w) → length (at c).this.amounts ≡ length (amounts_of q)
  unfolding at
  long c =
      matches_length (amounts_of (at c).this.sort) (at c).this.amounts (at c).formed.1
      ∙ ap (λ (z : Sort). length (amounts_of z)) (sym (sorted c))

  pub taken_small : length (amounts_of q) ≤ 18
  unfolding at
  taken_small = subst (λ (z : Sort). length (amounts_of z) ≤ 18) (sym (sorted f.form)) (amounts_short (at f.form).this.sort (at f.form).this.first (at f.form).formed.0)

  module _ (n : ℕ) (d : n ≡ length (amounts_of q)) where
    pub taken_inside : n ≤ length (take (length left - 1) (drop 1 left))
    unfolding at
    taken_inside =
        let a : length (take (length left - 1) (drop 1 left)) ≡ length ((at f.form).this.amounts ++ flat_map record_words (at f.form).rest) = ap length (at f.form).words in
        let b = length-append (at f.form).this.amounts (flat_map record_words (at f.form).rest) in
        let l = long f.form in
        omega arith

    module _ (xs ys : List ℕ) (front : xs ≡ take n (take (length left - 1) (drop 1 left))) (back : ys ≡ drop n (take (length left - 1) (drop 1 left))) where
      taken_is : (c : CaseForm w) → record_of q (get_or left 0 0) xs ≡ (at c).this
      unfolding at
      taken_is c =
          let s = at c in
          let b = sorted c in
          let a = front ∙ ap (take n) s.words ∙ take_at s.this.amounts (flat_map record_words s.rest) n (long c ∙ sym d) in
          λ i. record { sort = b i; first = s.begins i; amounts = a i }

      pub taken_formed : Formed (record_of q (get_or left 0 0) xs)
      unfolding at
      taken_formed = subst Formed (sym (taken_is f.form)) (at f.form).formed

      pub taken_place : HasPlace t q
      unfolding at
      taken_place =
          let s = at f.form in
          subst (HasPlace t) (sym (sorted f.form))
          (place_of t s.done s.this.sort s.holds (count_before f.form.head f.form.records s.done s.rest s.this f.form.headed f.met s.split))

      pub taken_more : (u : CaseRows) → ((rs : List Record) → Holds t rs → Holds u (rs ++ (record_of q (get_or left 0 0) xs ∷ []))) → (c : CaseForm w) → Walked w c ys u
      unfolding at
      taken_more u grows c =
          let s = at c in
          record {
            done = s.done ++ (s.this ∷ []);
            rest = s.rest;
            split = s.split ∙ sym (append_assoc s.done (s.this ∷ []) s.rest);
            words = back ∙ ap (drop n) s.words ∙ drop_at s.this.amounts (flat_map record_words s.rest) n (long c ∙ sym d);
            holds = subst (λ (r : Record). Holds u (s.done ++ (r ∷ []))) (taken_is c) (grows s.done s.holds);
          }
