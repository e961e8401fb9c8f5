-- The first row of a table that passes a test is the lowest of which holds what the test decides.
use Rattle.std.proofs.Common.{◌≡◌, ℕ, ◌+◌, ◌<◌, ◌≤◌, List, length, Some, None, Option, get_or, sym, ap, ◌∙◌, subst, zero-add, arith}
use Rattle.std.specs.Option.{MatchOption}
use Rattle.std.specs.List.{AllWithin, enumerate_from, HoldsAt as ItemAt}
use Rattle.std.proofs.lemmas.List.FromFn.{length-enumerate_from, get_or-enumerate_from}
use Rattle.measure.specs.Rows.{HoldsAt, Stands, Lowest}
use Rattle.measure.proofs.Sums.{holds_below, item_at, stands_below, stands-get_or}

module _ {X : Type 0} (P : X → Type 0) (xs : List X) where
  none_below : (n : ℕ) → AllWithin (λ x. P x → ⊥) xs 0 n → (i : ℕ) → i < n → HoldsAt (λ r. P r.item) xs i → ⊥
  none_below n all i l h = all i h.item (omega arith) l (subst P (stands-get_or xs i h.item h.item h.stands) h.holds)

  pub lowest_first : (r : Option ℕ) → MatchOption r (AllWithin (λ x. P x → ⊥) xs 0 (length xs)) (λ i. (i < length xs) × ItemAt P xs i × AllWithin (λ x. P x → ⊥) xs 0 i) → Lowest (HoldsAt (λ r. P r.item) xs) r
  lowest_first None all = λ i h. none_below (length xs) all i (holds_below _ xs i h) h
  lowest_first (Some i) first =
      let x = item_at xs i first.0 in
      (record { item = x.0; stands = x.1; holds = subst P (sym (stands-get_or xs i x.0 x.0 x.1)) (first.1 x.0) }, none_below i first.2)

-- the same where the test asks the row's number too: Yes and No are what it decides of a row, and Q is said of the number
module _ {X : Type 0} (xs : List X) (Yes No : ℕ × X → Type 0) (Q : ℕ → Type 0) (yes : (i : ℕ) (x : X) → Stands xs i x → Yes (i, x) → Q i) (no : (i : ℕ) (x : X) → Stands xs i x → No (i, x) → Q i → ⊥) (inside : (i : ℕ) → Q i → i < length xs) where
  abbrev counted : List (ℕ × X)
  counted = enumerate_from 0 xs

  item_is : (i : ℕ) (x : X) → Stands xs i x → get_or counted i (i, x) ≡ (i, x)
  item_is i x s =
      get_or-enumerate_from 0 xs i (i, x) (stands_below xs i x s)
      ∙ ap (λ (y : X). (0 + i, y)) (sym (stands-get_or xs i x x s))
      ∙ ap (λ (n : ℕ). (n, x)) (zero-add i)

  not_below : (n : ℕ) → n ≤ length xs → AllWithin No counted 0 n → (i : ℕ) → i < n → Q i → ⊥
  not_below n within all i l q =
      let x = item_at xs i (inside i q) in
      no i x.0 x.1 (subst No (item_is i x.0 x.1) (all i (i, x.0) (omega arith) l)) q

  pub lowest_numbered : (r : Option ℕ) → MatchOption r (AllWithin No counted 0 (length counted)) (λ i. (i < length counted) × ItemAt Yes counted i × AllWithin No counted 0 i) → Lowest Q r
  lowest_numbered None all = λ i q. not_below (length counted) (rw length-enumerate_from (omega arith)) all i (rw length-enumerate_from (inside i q)) q
  lowest_numbered (Some i) first =
      let l : i < length xs = subst (λ n. i < n) (length-enumerate_from 0 xs) first.0 in
      let x = item_at xs i l in
      (yes i x.0 x.1 (subst Yes (item_is i x.0 x.1) (first.1 (i, x.0))), not_below i (omega arith) first.2)
