-- Rows kept one after another.
use Rattle.std.proofs.Common.{◌≡◌, ℕ, zero, suc, ◌-◌, ◌<◌, Bool, true, false, cond, eqb, List, [], ◌∷◌, ◌++◌, map, length, set, replicate, ℤ, pos, sym, refl, ap, ◌∙◌, arith}
use Rattle.std.proofs.lemmas.List.{append_assoc, length_push, map_push, set-append_right}
use Rattle.case_paper.specs.Case.{rank, Record}
use Rattle.case_paper.specs.Rows.{of_rank}
use Rattle.case_tables.specs.Rows.{padded}

zeros_front : (m : ℕ) (z : ℤ) → 0 < m → set (replicate m (pos 0)) 0 z ≡ z ∷ replicate (m - 1) (pos 0)
zeros_front zero z h = absurd (omega arith)
zeros_front (suc m) z h = let e : m ≡ suc m - 1 = omega arith in ap (λ (k : ℕ). z ∷ replicate k (pos 0)) e

-- one number more before the zeros
pub padded-more : (n : ℕ) (xs : List ℤ) (z : ℤ) → length xs < n → set (padded n xs) (length xs) z ≡ padded n (xs ++ (z ∷ []))
padded-more n xs z h =
    let l = length_push xs z in
    let d : length xs - length xs ≡ 0 = omega arith in
    let m : n - length xs - 1 ≡ n - length (xs ++ (z ∷ [])) = omega arith in
    set-append_right xs (replicate (n - length xs) (pos 0)) (length xs) (length xs) z refl (omega arith)
    ∙ ap (λ (k : ℕ). xs ++ set (replicate (n - length xs) (pos 0)) k z) d
    ∙ ap (λ (ys : List ℤ). xs ++ ys) (zeros_front (n - length xs) z (omega arith))
    ∙ ap (λ (k : ℕ). xs ++ (z ∷ replicate k (pos 0))) m
    ∙ sym (append_assoc xs (z ∷ []) (replicate (n - length (xs ++ (z ∷ []))) (pos 0)))

-- ---- the records of one sort, with one record more
sorted_same : (b : Bool) (t r : Record) (xs ys : List Record) → ys ≡ xs ++ (r ∷ []) → cond b (t ∷ ys) ys ≡ cond b (t ∷ xs) xs ++ (r ∷ [])
sorted_same true t r xs ys e = ap (λ (zs : List Record). t ∷ zs) e
sorted_same false t r xs ys e = e

last_same : (b : Bool) (r : Record) → b ≡ true → cond b (r ∷ []) [] ≡ r ∷ []
last_same true r e = refl
last_same false r e = ap (λ (v : Bool). cond v (r ∷ []) []) e

pub of_rank_same : (k : ℕ) (rs : List Record) (r : Record) → eqb (rank r.sort) k ≡ true → of_rank k (rs ++ (r ∷ [])) ≡ of_rank k rs ++ (r ∷ [])
of_rank_same k [] r e = last_same (eqb (rank r.sort) k) r e
of_rank_same k (t ∷ rs) r e = sorted_same (eqb (rank t.sort) k) t r (of_rank k rs) (of_rank k (rs ++ (r ∷ []))) (of_rank_same k rs r e)

pub of_rank_other : (k : ℕ) (rs : List Record) (r : Record) → eqb (rank r.sort) k ≡ false → of_rank k (rs ++ (r ∷ [])) ≡ of_rank k rs
of_rank_other k [] r e = ap (λ (b : Bool). cond b (r ∷ []) []) e
of_rank_other k (t ∷ rs) r e = ap (λ (ys : List Record). cond (eqb (rank t.sort) k) (t ∷ ys) ys) (of_rank_other k rs r e)

module _ {T : Type 0} (row : Record → T) (k : ℕ) (rs : List Record) (r : Record) (items : List T) (h : items ≡ map row (of_rank k rs)) where
  -- the record is of the sort, and its row comes last
  pub rows_same : eqb (rank r.sort) k ≡ true → (items' : List T) → items' ≡ items ++ (row r ∷ []) → items' ≡ map row (of_rank k (rs ++ (r ∷ [])))
  rows_same e items' g =
      g ∙ ap (λ (xs : List T). xs ++ (row r ∷ [])) h
      ∙ sym (ap (map row) (of_rank_same k rs r e) ∙ map_push row (of_rank k rs) r)

  -- the record is of another sort
  pub rows_other : eqb (rank r.sort) k ≡ false → items ≡ map row (of_rank k (rs ++ (r ∷ [])))
  rows_other e = h ∙ sym (ap (map row) (of_rank_other k rs r e))
