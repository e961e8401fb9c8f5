-- How many rows of each sort a case has.
use Rattle.std.proofs.Common.{◌≡◌, ℕ, zero, suc, ◌+◌, ◌-◌, ◌^◌, ◌<◌, ◌≤◌, Bool, true, false, cond, eqb, ltb, List, [], ◌∷◌, ◌++◌, map, length, get_or, ℤ, pos, negsuc, ◌≤ℤ◌, refl, ap, ◌∙◌, subst, inl, inr, arith}
use Rattle.std.proofs.lemmas.List.{length-map}
use Rattle.std.proofs.lemmas.Int.{ints}
use Rattle.std.proofs.lemmas.Bool.{cond-true, cond-false, lt-ltb, le-ltb, cases_lt}
use Rattle.word.specs.Word.{payload_of, signed_of, amount_of}
use Rattle.word.specs.Slot.{Fits, Matches}
use Rattle.word.specs.declared.slot.Slot.{Slot}
use Rattle.word.specs.declared.slot.Slot.TheVariants as slot
use Rattle.case_paper.specs.Case.{head_slots, rank, Record}
use Rattle.case_paper.specs.CaseFault.{count_rank, head_count, CountsMet}
use Rattle.case_paper.specs.Rows.{of_rank}
use Rattle.case_paper.specs.declared.sort.Sort.{Sort}
use Rattle.case_paper.specs.declared.sort.Sort.TheVariants as sort
use Rattle.case_paper.proofs.Outcomes.{count_append, count_one, rank-small}

-- what a word keeps in a list that matches slots
pub matches_at : (ss : List Slot) (w : List ℕ) (i : ℕ) → Matches ss w → i < length ss → Fits (get_or ss i slot.End) (get_or w i 0)
matches_at [] w i m h = absurd (omega arith)
matches_at (s ∷ ss) [] i m h = absurd m
matches_at (s ∷ ss) (x ∷ w) zero m h = m.0
matches_at (s ∷ ss) (x ∷ w) (suc i) m h = matches_at ss w i m.1 (omega arith)

signed_positive : (p : ℕ) → pos 0 ≤ℤ signed_of p → signed_of p ≡ pos p
signed_positive p low =
    elim (cases_lt p (2 ^ 27)) [
      | inl h ↦ cond-true (ltb p (2 ^ 27)) (pos p) (negsuc (2 ^ 28 - suc p)) (lt-ltb p (2 ^ 27) h)
      | inr h ↦ let e = cond-false (ltb p (2 ^ 27)) (pos p) (negsuc (2 ^ 28 - suc p)) (le-ltb p (2 ^ 27) h) in
          let down : pos 0 ≤ℤ negsuc (2 ^ 28 - suc p) = subst (λ (z : ℤ). pos 0 ≤ℤ z) e low in absurd (omega (arith, ints))
    ]

-- an amount from 0 on is its payload
pub amount_positive : (x : ℕ) → pos 0 ≤ℤ amount_of x → amount_of x ≡ pos (payload_of x)
unfolding amount_of
amount_positive x low = signed_positive (payload_of x) low

pub payload_between : (x least most : ℕ) → pos least ≤ℤ amount_of x → amount_of x ≤ℤ pos most → (least ≤ payload_of x) × (payload_of x ≤ most)
payload_between x least most low high =
    let e = amount_positive x (omega (arith, ints)) in
    let up : pos (payload_of x) ≤ℤ pos most = subst (λ (z : ℤ). z ≤ℤ pos most) e high in
    let down : pos least ≤ℤ pos (payload_of x) = subst (λ (z : ℤ). pos least ≤ℤ z) e low in
    (omega (arith, ints), omega (arith, ints))

-- the most records of the sort of a rank
abbrev pub most : Sort → ℕ
most sort.Bus = 100
most (sort.Stepped n) = 30
most sort.Curved = 30
most sort.Branch = 200

-- the head's counts keep their limits
pub head_small : (head : List ℕ) → Matches head_slots head → (q : Sort) → head_count head (rank q) ≤ most q
head_small head m sort.Bus = let r = (matches_at head_slots head 2 m (omega arith)).1 in (payload_between (get_or head 2 0) 1 100 r.0 r.1).1
head_small head m (sort.Stepped n) = let r = (matches_at head_slots head 3 m (omega arith)).1 in (payload_between (get_or head 3 0) 0 30 r.0 r.1).1
head_small head m sort.Curved = let r = (matches_at head_slots head 4 m (omega arith)).1 in (payload_between (get_or head 4 0) 0 30 r.0 r.1).1
head_small head m sort.Branch = let r = (matches_at head_slots head 5 m (omega arith)).1 in (payload_between (get_or head 5 0) 0 200 r.0 r.1).1

-- the head says at least one bus
pub head_some : (head : List ℕ) → Matches head_slots head → 1 ≤ head_count head 0
head_some head m = let r = (matches_at head_slots head 2 m (omega arith)).1 in (payload_between (get_or head 2 0) 1 100 r.0 r.1).0

-- the records of a sort are as many as are counted
count_more : (b : Bool) (r : Record) (xs : List Record) (n : ℕ) → length xs ≡ n → length (cond b (r ∷ xs) xs) ≡ cond b 1 0 + n
count_more true r xs n e = omega arith
count_more false r xs n e = omega arith

pub rank-length : (k : ℕ) (rs : List Record) → length (of_rank k rs) ≡ count_rank k rs
rank-length k [] = refl
rank-length k (r ∷ rs) = count_more (eqb (rank r.sort) k) r (of_rank k rs) (count_rank k rs) (rank-length k rs)

pub rows-length : {T : Type 0} (row : Record → T) (k : ℕ) (rs : List Record) → length (map row (of_rank k rs)) ≡ count_rank k rs
rows-length row k rs = length-map (of_rank k rs) row ∙ rank-length k rs

-- before one of its records a case has fewer than the most of that sort
pub count_before : (head : List ℕ) (rs done rest : List Record) (r : Record) → Matches head_slots head → CountsMet head rs → rs ≡ done ++ (r ∷ rest) → count_rank (rank r.sort) done < most r.sort
count_before head rs done rest r h met e =
    let k : ℕ = rank r.sort in
    let m = met k (rank-small r.sort) in
    let a : count_rank k rs ≡ count_rank k done + count_rank k (r ∷ rest) = ap (count_rank k) e ∙ count_append k done (r ∷ rest) in
    let b : count_rank k (r ∷ rest) ≡ count_rank k (r ∷ []) + count_rank k rest = count_append k (r ∷ []) rest in
    let o = count_one r in
    let s = head_small head h r.sort in
    omega arith

-- a case has at most so many records of a sort
pub count_most : (head : List ℕ) (rs : List Record) (q : Sort) → Matches head_slots head → CountsMet head rs → count_rank (rank q) rs ≤ most q
count_most head rs q h met = let a = met (rank q) (rank-small q) in let b = head_small head h q in omega arith
