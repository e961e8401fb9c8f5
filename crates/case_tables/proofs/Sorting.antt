-- Sorted records, sort by sort.
use Rattle.std.proofs.Common.{◌≡◌, ℕ, ◌<◌, ◌≤◌, Bool, true, false, cond, eqb, List, [], ◌∷◌, ◌++◌, sym, refl, ap, ◌∙◌, subst, arith}
use Rattle.std.specs.List.{AllByRecursion}
use Rattle.std.proofs.lemmas.Bool.{eq-eqb, ne_eqb, cond-true, cond-false}
use Rattle.std.proofs.lemmas.List.{append-nil}
use Rattle.case_paper.specs.Case.{rank, Record, Sorted}
use Rattle.case_paper.specs.Rows.{of_rank}
use Rattle.case_paper.specs.declared.sort.Sort.{Sort}
use Rattle.case_paper.specs.declared.sort.Sort.TheVariants as sort
use Rattle.case_tables.specs.Rows.{record_of}

abbrev pub OfRank : ℕ → Record → Type 0
OfRank k r = rank r.sort ≡ k

-- ---- the four sorts of sorted records, one after another, are all of them
abbrev pub by_rank : List Record → List Record
by_rank rs = of_rank 0 rs ++ (of_rank 1 rs ++ (of_rank 2 rs ++ of_rank 3 rs))

none_below : (k least : ℕ) (rs : List Record) → k < least → Sorted least rs → of_rank k rs ≡ []
none_below k least [] h s = refl
none_below k least (r ∷ rs) h s =
    let l : least ≤ rank r.sort = s.0 in
    let n : k < rank r.sort = omega arith in
    cond-false (eqb (rank r.sort) k) (r ∷ of_rank k rs) (of_rank k rs) (ne_eqb (rank r.sort) k (λ e. omega arith)) ∙ none_below k (rank r.sort) rs n s.1

-- with one record more in front
ranked_more : (q : Sort) (first : ℕ) (xs : List ℕ) (rs : List Record) → Sorted (rank q) rs → rs ≡ by_rank rs → (record_of q first xs ∷ rs) ≡ by_rank (record_of q first xs ∷ rs)
ranked_more sort.Bus first xs rs s e = ap (λ (l : List Record). record_of sort.Bus first xs ∷ l) e
ranked_more (sort.Stepped n) first xs rs s e =
    let r : Record = record_of (sort.Stepped n) first xs in
    let a : of_rank 0 rs ≡ [] = none_below 0 1 rs (omega arith) s in
    let t : List Record = of_rank 1 rs ++ (of_rank 2 rs ++ of_rank 3 rs) in
    ap (λ (l : List Record). r ∷ l) (e ∙ ap (λ (l : List Record). l ++ t) a) ∙ ap (λ (l : List Record). l ++ (r ∷ t)) (sym a)
ranked_more sort.Curved first xs rs s e =
    let r : Record = record_of sort.Curved first xs in
    let a : of_rank 0 rs ≡ [] = none_below 0 2 rs (omega arith) s in
    let b : of_rank 1 rs ≡ [] = none_below 1 2 rs (omega arith) s in
    let t : List Record = of_rank 2 rs ++ of_rank 3 rs in
    ap (λ (l : List Record). r ∷ l) (e ∙ (λ i. a i ++ (b i ++ t))) ∙ (λ i. sym a i ++ (sym b i ++ (r ∷ t)))
ranked_more sort.Branch first xs rs s e =
    let r : Record = record_of sort.Branch first xs in
    let a : of_rank 0 rs ≡ [] = none_below 0 3 rs (omega arith) s in
    let b : of_rank 1 rs ≡ [] = none_below 1 3 rs (omega arith) s in
    let c : of_rank 2 rs ≡ [] = none_below 2 3 rs (omega arith) s in
    let t : List Record = of_rank 3 rs in
    ap (λ (l : List Record). r ∷ l) (e ∙ (λ i. a i ++ (b i ++ (c i ++ t)))) ∙ (λ i. sym a i ++ (sym b i ++ (sym c i ++ (r ∷ t))))

pub ranked : (least : ℕ) (rs : List Record) → Sorted least rs → rs ≡ by_rank rs
ranked least [] s = refl
ranked least (r ∷ rs) s = ranked_more r.sort r.first r.amounts rs s.1 (ranked (rank r.sort) rs s.1)

-- ---- records of four sorts put one after another
append_or : (b : Bool) (r : Record) (xs ys zs : List Record) → zs ≡ xs ++ ys → cond b (r ∷ zs) zs ≡ cond b (r ∷ xs) xs ++ ys
append_or true r xs ys zs e = ap (λ (l : List Record). r ∷ l) e
append_or false r xs ys zs e = e

of_rank-append : (k : ℕ) (rs ts : List Record) → of_rank k (rs ++ ts) ≡ of_rank k rs ++ of_rank k ts
of_rank-append k [] ts = refl
of_rank-append k (r ∷ rs) ts = append_or (eqb (rank r.sort) k) r (of_rank k rs) (of_rank k ts) (of_rank k (rs ++ ts)) (of_rank-append k rs ts)

all_same : (k : ℕ) (rs : List Record) → AllByRecursion (OfRank k) rs → of_rank k rs ≡ rs
all_same k [] a = refl
all_same k (r ∷ rs) a =
    cond-true (eqb (rank r.sort) k) (r ∷ of_rank k rs) (of_rank k rs) (eq-eqb (rank r.sort) k a.0) ∙ ap (λ (l : List Record). r ∷ l) (all_same k rs a.1)

none_same : (k j : ℕ) (rs : List Record) → (j ≡ k → ⊥) → AllByRecursion (OfRank j) rs → of_rank k rs ≡ []
none_same k j [] n a = refl
none_same k j (r ∷ rs) n a =
    let e = a.0 in
    cond-false (eqb (rank r.sort) k) (r ∷ of_rank k rs) (of_rank k rs) (ne_eqb (rank r.sort) k (λ h. n (sym e ∙ h))) ∙ none_same k j rs n a.1

sorted_weaker : (least less : ℕ) (rs : List Record) → less ≤ least → Sorted least rs → Sorted less rs
sorted_weaker least less [] h s = tt
sorted_weaker least less (r ∷ rs) h s = let l : least ≤ rank r.sort = s.0 in (omega arith, s.1)

sorted_front : (k least : ℕ) (rs rest : List Record) → least ≤ k → AllByRecursion (OfRank k) rs → Sorted k rest → Sorted least (rs ++ rest)
sorted_front k least [] rest h a s = sorted_weaker k least rest h s
sorted_front k least (r ∷ rs) rest h a s =
    let e : rank r.sort ≡ k = a.0 in
    (omega arith, sorted_front k (rank r.sort) rs rest (omega arith) a.1 s)

module _ (bs ss cs ls : List Record) (b : AllByRecursion (OfRank 0) bs) (s : AllByRecursion (OfRank 1) ss) (c : AllByRecursion (OfRank 2) cs) (l : AllByRecursion (OfRank 3) ls) where
  abbrev pub joined : List Record
  joined = bs ++ (ss ++ (cs ++ ls))

  split : (k : ℕ) → of_rank k joined ≡ of_rank k bs ++ (of_rank k ss ++ (of_rank k cs ++ of_rank k ls))
  split k =
      of_rank-append k bs (ss ++ (cs ++ ls))
      ∙ ap (λ (t : List Record). of_rank k bs ++ t) (of_rank-append k ss (cs ++ ls) ∙ ap (λ (t : List Record). of_rank k ss ++ t) (of_rank-append k cs ls))

  pub first_of : of_rank 0 joined ≡ bs
  first_of =
      let eb = all_same 0 bs b in
      let es = none_same 0 1 ss (λ e. omega arith) s in
      let ec = none_same 0 2 cs (λ e. omega arith) c in
      let el = none_same 0 3 ls (λ e. omega arith) l in
      split 0 ∙ (λ i. eb i ++ (es i ++ (ec i ++ el i))) ∙ append-nil bs

  pub second_of : of_rank 1 joined ≡ ss
  second_of =
      let eb = none_same 1 0 bs (λ e. omega arith) b in
      let es = all_same 1 ss s in
      let ec = none_same 1 2 cs (λ e. omega arith) c in
      let el = none_same 1 3 ls (λ e. omega arith) l in
      split 1 ∙ (λ i. eb i ++ (es i ++ (ec i ++ el i))) ∙ append-nil ss

  pub third_of : of_rank 2 joined ≡ cs
  third_of =
      let eb = none_same 2 0 bs (λ e. omega arith) b in
      let es = none_same 2 1 ss (λ e. omega arith) s in
      let ec = all_same 2 cs c in
      let el = none_same 2 3 ls (λ e. omega arith) l in
      split 2 ∙ (λ i. eb i ++ (es i ++ (ec i ++ el i))) ∙ append-nil cs

  pub fourth_of : of_rank 3 joined ≡ ls
  fourth_of =
      let eb = none_same 3 0 bs (λ e. omega arith) b in
      let es = none_same 3 1 ss (λ e. omega arith) s in
      let ec = none_same 3 2 cs (λ e. omega arith) c in
      let el = all_same 3 ls l in
      split 3 ∙ (λ i. eb i ++ (es i ++ (ec i ++ el i)))

  pub joined_sorted : Sorted 0 joined
  joined_sorted =
      sorted_front 0 0 bs (ss ++ (cs ++ ls)) (omega arith) b
      (sorted_front 1 0 ss (cs ++ ls) (omega arith) s
      (sorted_front 2 1 cs ls (omega arith) c
      (subst (Sorted 2) (append-nil ls) (sorted_front 3 2 ls [] (omega arith) l tt))))
