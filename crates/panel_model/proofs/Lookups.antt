-- The row that a name finds, and the table with one row in another state.
use Rattle.std.proofs.Common.{◌≡◌, ℕ, zero, suc, ◌<◌, Bool, true, false, ◌&&◌, ◌==◌, inl, inr, ℤ, ◌≤ℤ◌, List, [], ◌∷◌, length, get_or, take, set, Some, None, Option, sym, refl, ap, ◌∙◌, subst, arith}
use Rattle.std.specs.Option.{option_map}
use Rattle.std.proofs.lemmas.Bool.{false≢true, eq-eqb, eqb-true, and_from, and_parts, cases_Bool, cond-true, cond-false}
use Rattle.std.proofs.lemmas.List.{length-take}
use native.Mathlib.Bridge.{le_prop}
use denote.Struct.Props.{props}
use Rattle.measure.specs.Range.{Within}
use Rattle.measure.specs.Rows.{Row, HoldsAt, Stands, Lowest}
use Rattle.measure.proofs.Sums.{holds_below}
use Rattle.measure.specs.declared.Watts.{Watts}
use Rattle.names.specs.Names.{HasName}
use Rattle.names.specs.declared.branch.BranchName.{BranchName}
use Rattle.network.specs.Ranges.{NameRange}
use Rattle.network.specs.declared.bus.Bus.{Bus}
use Rattle.network.specs.declared.branch.Branch.{Branch}
use Rattle.panel_model.specs.Change.{row_where, is_bus, is_branch, with_row, demanding}

-- ---- the row that is found
module _ {X : Type 0} (P : X → Type 0) (test : X → Bool) (yes : (x : X) → P x → test x ≡ true) (no : (x : X) → test x ≡ true → P x) where
  later_holds : (x : X) (xs : List X) (i : ℕ) → HoldsAt (λ r. P r.item) xs i → HoldsAt (λ r. P r.item) (x ∷ xs) (suc i)
  unfolding Stands
  later_holds x xs i h = record { item = h.item; stands = h.stands; holds = h.holds }

  earlier_holds : (x : X) (xs : List X) (i : ℕ) → HoldsAt (λ r. P r.item) (x ∷ xs) (suc i) → HoldsAt (λ r. P r.item) xs i
  unfolding Stands
  earlier_holds x xs i h = record { item = h.item; stands = h.stands; holds = h.holds }

  head_holds : (x : X) (xs : List X) → P x → HoldsAt (λ r. P r.item) (x ∷ xs) 0
  unfolding Stands
  head_holds x xs p = record { item = x; stands = refl; holds = p }

  head_held : (x : X) (xs : List X) → HoldsAt (λ r. P r.item) (x ∷ xs) 0 → P x
  unfolding Stands
  head_held x xs h = subst P h.stands h.holds

  none_held : (i : ℕ) → HoldsAt (λ r. P r.item) [] i → ⊥
  unfolding Stands
  none_held i h = h.stands

  -- the first row passes the test
  found_first : (x : X) (xs : List X) (o : Option ℕ) → P x → Lowest (HoldsAt (λ r. P r.item) (x ∷ xs)) o → Some 0 ≡ o
  found_first x xs None p l = absurd (l 0 (head_holds x xs p))
  found_first x xs (Some zero) p l = refl
  found_first x xs (Some (suc i)) p l = absurd (l.1 0 (omega arith) (head_holds x xs p))

  -- it does not, and the rest is known
  found_later : (x : X) (xs : List X) (o : Option ℕ) → test x ≡ false → Lowest (HoldsAt (λ r. P r.item) (x ∷ xs)) o → ((o : Option ℕ) → Lowest (HoldsAt (λ r. P r.item) xs) o → row_where test xs ≡ o) → option_map suc (row_where test xs) ≡ o
  found_later x xs None f l rest = ap (option_map suc) (rest None (λ i h. l (suc i) (later_holds x xs i h)))
  found_later x xs (Some zero) f l rest = absurd (false≢true (sym f ∙ yes x (head_held x xs l.0)))
  found_later x xs (Some (suc i)) f l rest = ap (option_map suc) (rest (Some i) (earlier_holds x xs i l.0, λ j h k. l.1 (suc j) (omega arith) (later_holds x xs j k)))

  pub row_where_is : (xs : List X) (o : Option ℕ) → Lowest (HoldsAt (λ r. P r.item) xs) o → row_where test xs ≡ o
  unfolding row_where
  row_where_is [] None l = refl
  row_where_is [] (Some i) l = absurd (none_held i l.0)
  row_where_is (x ∷ xs) o l =
      elim (cases_Bool (test x)) [
        | inl e ↦ cond-true (test x) (Some 0) (option_map suc (row_where test xs)) e ∙ found_first x xs o (no x e) l
        | inr e ↦ cond-false (test x) (Some 0) (option_map suc (row_where test xs)) e ∙ found_later x xs o e l (row_where_is xs)
      ]

  -- the row that is looked up is the lowest that passes
  none_passes : (x : X) (xs : List X) → test x ≡ false → ((i : ℕ) → HoldsAt (λ r. P r.item) xs i → ⊥) → (i : ℕ) → HoldsAt (λ r. P r.item) (x ∷ xs) i → ⊥
  none_passes x xs f n zero h = false≢true (sym f ∙ yes x (head_held x xs h))
  none_passes x xs f n (suc i) h = n i (earlier_holds x xs i h)

  none_lower : (x : X) (xs : List X) (i : ℕ) → test x ≡ false → ((j : ℕ) → j < i → HoldsAt (λ r. P r.item) xs j → ⊥) → (j : ℕ) → j < suc i → HoldsAt (λ r. P r.item) (x ∷ xs) j → ⊥
  none_lower x xs i f n zero l h = false≢true (sym f ∙ yes x (head_held x xs h))
  none_lower x xs i f n (suc j) l h = n j (omega arith) (earlier_holds x xs j h)

  lowest_later : (x : X) (xs : List X) (o : Option ℕ) → test x ≡ false → Lowest (HoldsAt (λ r. P r.item) xs) o → Lowest (HoldsAt (λ r. P r.item) (x ∷ xs)) (option_map suc o)
  lowest_later x xs None f l = none_passes x xs f l
  lowest_later x xs (Some i) f l = (later_holds x xs i l.0, none_lower x xs i f l.1)

  pub row_where-lowest : (xs : List X) → Lowest (HoldsAt (λ r. P r.item) xs) (row_where test xs)
  unfolding row_where
  row_where-lowest [] = none_held
  row_where-lowest (x ∷ xs) =
      elim (cases_Bool (test x)) [
        | inl e ↦ subst (Lowest (HoldsAt (λ r. P r.item) (x ∷ xs))) (sym (cond-true (test x) (Some 0) (option_map suc (row_where test xs)) e)) (head_holds x xs (no x e), λ j l h. absurd (omega arith))
        | inr e ↦ subst (Lowest (HoldsAt (λ r. P r.item) (x ∷ xs))) (sym (cond-false (test x) (Some 0) (option_map suc (row_where test xs)) e)) (lowest_later x xs (row_where test xs) e (row_where-lowest xs))
      ]

pub bus_row_is : (name : ℕ) (buses : List Bus) (o : Option ℕ) → Lowest (HoldsAt (HasName ◌≡◌ (λ (b : Bus). b.name) name) buses) o → row_where (is_bus name) buses ≡ o
bus_row_is name = row_where_is (λ (b : Bus). b.name ≡ name) (is_bus name) (λ b e. eq-eqb b.name name e) (λ b e. eqb-true b.name name e)

same_branch : (a b : BranchName) → a ≡ b → (a.circuit == b.circuit && a.from == b.from && a.to == b.to) ≡ true
same_branch a b e =
    and_from (a.circuit == b.circuit && a.from == b.from) (a.to == b.to)
    (and_from (a.circuit == b.circuit) (a.from == b.from) (eq-eqb a.circuit b.circuit (ap (λ (n : BranchName). n.circuit) e)) (eq-eqb a.from b.from (ap (λ (n : BranchName). n.from) e)))
    (eq-eqb a.to b.to (ap (λ (n : BranchName). n.to) e))

branch_same : (a b : BranchName) → (a.circuit == b.circuit && a.from == b.from && a.to == b.to) ≡ true → a ≡ b
branch_same a b e =
    let p = and_parts (a.circuit == b.circuit && a.from == b.from) (a.to == b.to) e in
    let q = and_parts (a.circuit == b.circuit) (a.from == b.from) p.0 in
    let circuit = eqb-true a.circuit b.circuit q.0 in
    let from = eqb-true a.from b.from q.1 in
    let to = eqb-true a.to b.to p.1 in
    λ i. record { circuit = circuit i; from = from i; to = to i }

pub branch_row_is : (name : BranchName) (branches : List Branch) (o : Option ℕ) → Lowest (HoldsAt (HasName ◌≡◌ (λ (b : Branch). b.name) name) branches) o → row_where (is_branch name) branches ≡ o
branch_row_is name = row_where_is (λ (b : Branch). b.name ≡ name) (is_branch name) (λ b e. same_branch b.name name e) (λ b e. branch_same b.name name e)

pub bus_lowest : (name : ℕ) (buses : List Bus) → Lowest (HoldsAt (HasName ◌≡◌ (λ (b : Bus). b.name) name) buses) (row_where (is_bus name) buses)
bus_lowest name = row_where-lowest (λ (b : Bus). b.name ≡ name) (is_bus name) (λ b e. eq-eqb b.name name e) (λ b e. eqb-true b.name name e)

pub branch_lowest : (name : BranchName) (branches : List Branch) → Lowest (HoldsAt (HasName ◌≡◌ (λ (b : Branch). b.name) name) branches) (row_where (is_branch name) branches)
branch_lowest name = row_where-lowest (λ (b : Branch). b.name ≡ name) (is_branch name) (λ b e. same_branch b.name name e) (λ b e. branch_same b.name name e)

-- ---- the row that is changed

module _ {X : Type 0} (f : X → X) where
  pub row_set : (xs : List X) (i : ℕ) (d x : X) → x ≡ f (get_or xs i d) → i < length xs → set xs i x ≡ with_row f xs i
  unfolding with_row
  row_set [] i d x e h = absurd (omega arith)
  row_set (y ∷ ys) zero d x e h = ap (λ z. z ∷ ys) e
  row_set (y ∷ ys) (suc i) d x e h = ap (λ xs. y ∷ xs) (row_set ys i d x e (omega arith))

  -- the first rows of the table
  pub take_with_row : (n : ℕ) (xs : List X) (i : ℕ) → take n (with_row f xs i) ≡ with_row f (take n xs) i
  unfolding with_row
  take_with_row zero xs i = refl
  take_with_row (suc n) [] i = refl
  take_with_row (suc n) (x ∷ xs) zero = refl
  take_with_row (suc n) (x ∷ xs) (suc i) = ap (λ ys. x ∷ ys) (take_with_row n xs i)

  -- the first rows of a table in which that row is set
  pub take_row_set : (n : ℕ) (xs : List X) (i : ℕ) (d x : X) → x ≡ f (get_or xs i d) → i < length xs → take n (set xs i x) ≡ with_row f (take n xs) i
  take_row_set n xs i d x e h = ap (take n) (row_set xs i d x e h) ∙ take_with_row n xs i

-- a bus with another demand, whatever the proofs of its ranges
ranges_same : {n : ℕ} (x y : NameRange n) → x ≡ y
ranges_same x y = λ i. (le_prop x.0 y.0 i, le_prop x.1 y.1 i)

at_most_prop : {a b : ℤ} → IsProp (a ≤ℤ b)
at_most_prop = hlevel props

within_same : {m : ℕ} {z : ℤ} (x y : Within m z) → x ≡ y
within_same x y = λ i. (at_most_prop x.0 y.0 i, at_most_prop x.1 y.1 i)

pub demanding_as : (watts : Watts) (ok : Within 100000000 watts.0) (b : Bus) (r : NameRange b.name × Within 100000000 watts.0) → ◌≡◌ {A = Bus} (record { name = b.name; demand = watts; ok = r }) (demanding watts ok b)
demanding_as watts ok b r = λ i. record { name = b.name; demand = watts; ok = (ranges_same r.0 b.ok.0 i, within_same r.1 ok i) }

-- a row that is found among the first n is in the table
pub found_within : {X : Type 0} (P : Row X → Type 0) (n : ℕ) (xs : List X) (i : ℕ) → HoldsAt P (take n xs) i → i < length xs
found_within P n xs i h =
    let l = holds_below P (take n xs) i h in
    let t = length-take n xs in
    omega arith
