-- Sums over a group of machines: how large they are, the true cost against the counted, and the steps of a loop over the rows.
use Rattle.std.proofs.Common.{◌≡◌, ℕ, ◌+◌, ◌*◌, ◌<◌, ◌≤◌, List, ◌∷◌, length, get_or, drop, ℤ, pos, ◌+ℤ◌, sym, ap, ◌∙◌, subst, add-one, arith}
use Rattle.std.proofs.lemmas.List.{drop_more, drop_all}
use Rattle.measure.specs.Range.{Within}
use Rattle.measure.specs.Fraction.{whole, ◌≤ᶠ◌}
use Rattle.measure.specs.Rows.{Row, numbered, rows, total, All}
use Rattle.measure.proofs.Fractions.{total-most}
use Rattle.measure.proofs.Sums.{In, look, row_stands, table_within}
use Rattle.machine.specs.Meaning.{Meaning, Keeps}
use Rattle.machine.specs.Group.{AllowedAll, counted_cost, true_cost_of, total_margins, Priced}

-- ---- how large a sum is, and the true cost against the counted
module _ {M : Type 0} (𝓜 : Meaning M) (keeps : Keeps 𝓜) (ms : List M) where
  allowed_at : (p : ℕ → ℤ) → AllowedAll 𝓜 ms p → (r : Row M) → In r (rows ms) → 𝓜.Allowed r.item (whole (p r.row))
  allowed_at p a r i = look (λ (r : Row M). 𝓜.Allowed r.item (whole (p r.row))) r (rows ms) a i

  price_at : (q : ℕ → ℤ) → Priced ms q → (r : Row M) → In r (rows ms) → Within 1000000 (q r.row)
  price_at q h r i =
      let s = row_stands 0 ms r i in
      let e = s.1 in
      let l = s.2 in
      h r.row (omega arith)

  -- a group's true cost is at most its counted cost
  pub true_below_counted : (p : ℕ → ℤ) → AllowedAll 𝓜 ms p → true_cost_of 𝓜 ms (λ i. whole (p i)) ≤ᶠ whole (counted_cost 𝓜 ms p)
  true_below_counted p a = total-most _ _ (rows ms) (λ r i. ((keeps r.item).answer_is (p r.row) (allowed_at p a r i)).above)

  pub counted_cost_within : (n : ℕ) → length ms ≤ n → (p : ℕ → ℤ) → AllowedAll 𝓜 ms p → Within (n * 1000000000000000) (counted_cost 𝓜 ms p)
  counted_cost_within n few p a = table_within 1000000000000000 _ ms n few (λ r i. (keeps r.item).answer_range (p r.row) (allowed_at p a r i))

  pub total_margins_within : (n : ℕ) → length ms ≤ n → (q : ℕ → ℤ) → Priced ms q → Within (n * 1000000000000000) (total_margins 𝓜 ms q)
  total_margins_within n few q h = table_within 1000000000000000 _ ms n few (λ r i. (keeps r.item).margin_range (q r.row) (price_at q h r i))

-- ---- a loop over the rows
-- the rows left from row i on, at an element that was read
pub rows-read : {X : Type 0} (xs : List X) (i : ℕ) (x : X) → i < length xs → x ≡ get_or xs i x → numbered i (drop i xs) ≡ record { item = x; row = i } ∷ numbered (i + 1) (drop (i + 1) xs)
unfolding numbered
rows-read xs i x h e = ap (numbered i) (drop_more xs i x h ∙ ap (λ y. y ∷ drop (i + 1) xs) (sym e)) ∙ ap (λ n. record { item = x; row = i } ∷ numbered n (drop (i + 1) xs)) (sym (add-one i))

module _ {X : Type 0} (xs : List X) (i : ℕ) (x : X) (h : i < length xs) (e : x ≡ get_or xs i x) where
  pub total_more : (f : Row X → ℤ) → total f (numbered i (drop i xs)) ≡ f (record { item = x; row = i }) +ℤ total f (numbered (i + 1) (drop (i + 1) xs))
  unfolding total
  total_more f = ap (total f) (rows-read xs i x h e)

  pub all_more : (P : Row X → Type 0) → P (record { item = x; row = i }) → All P (numbered (i + 1) (drop (i + 1) xs)) → All P (numbered i (drop i xs))
  unfolding All
  all_more P p rest = subst (All P) (sym (rows-read xs i x h e)) (p, rest)

module _ {X : Type 0} (xs : List X) (i : ℕ) (h : length xs ≤ i) where
  pub total_none : (f : Row X → ℤ) → total f (numbered i (drop i xs)) ≡ pos 0
  unfolding total numbered
  total_none f = ap (λ ys. total f (numbered i ys)) (drop_all i xs h)

  pub all_none : (P : Row X → Type 0) → All P (numbered i (drop i xs))
  unfolding All numbered
  all_none P = subst (λ ys. All P (numbered i ys)) (sym (drop_all i xs h)) tt
