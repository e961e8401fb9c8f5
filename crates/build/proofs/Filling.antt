-- Tables filled row by row.
use Rattle.std.proofs.Common.{◌≡◌, ℕ, zero, suc, ◌+◌, ◌<◌, ◌≤◌, min, List, [], ◌∷◌, ◌++◌, Option, Some, None, length, take, drop, set, sym, refl, ap, ◌∙◌, subst, arith}
use native.Mathlib.Decide.{dec_lt}
use Rattle.std.proofs.lemmas.List.{length-take, drop-drop, drop-set-lt}
use Rattle.std.proofs.lemmas.Slice.{drop-append-drop}
use Rattle.std.specs.Option.{IsSome}
use Rattle.measure.specs.Rows.{Stands, HoldsAt}
use Rattle.measure.proofs.Sums.{item_at, stands_one, stands_below}
use Rattle.build.specs.Build.{Filled, Matched}

stands_set : {X : Type 0} (xs : List X) (i : ℕ) (y : X) → i < length xs → Stands (set xs i y) i y
unfolding Stands
stands_set [] i y h = absurd (omega arith)
stands_set (x ∷ xs) zero y h = refl
stands_set (x ∷ xs) (suc i) y h = stands_set xs i y (omega arith)

stands_set_other : {X : Type 0} (xs : List X) (i j : ℕ) (x y : X) → (j ≡ i → ⊥) → Stands xs j x → Stands (set xs i y) j x
unfolding Stands
stands_set_other [] i j x y ne s = absurd s
stands_set_other (z ∷ zs) zero zero x y ne s = absurd (ne refl)
stands_set_other (z ∷ zs) zero (suc j) x y ne s = s
stands_set_other (z ∷ zs) (suc i) zero x y ne s = s
stands_set_other (z ∷ zs) (suc i) (suc j) x y ne s = stands_set_other zs i j x y (λ e. ne (ap suc e)) s

-- the first n rows that were given have what R says of them
abbrev pub MatchedTo : {X Y : Type 0} → (X → Y → Type 0) → List X → List Y → ℕ → Type 0
MatchedTo R given found n = (i : ℕ) (x : _) → i < n → Stands given i x → HoldsAt (λ y. R x y.item) found i

module _ {X Y : Type 0} (R : X → Y → Type 0) (given : List X) where
  -- one row more
  pub matched_more : (found : List Y) (i : ℕ) (x : X) (y : Y) → i < length found → Stands given i x → R x y → MatchedTo R given found i → MatchedTo R given (set found i y) (i + 1)
  matched_more found i x y h s r f k v l t = elim (dec_lt k i) [
    | yes m ↦ let o = f k v m t in
        record { item = o.item; stands = stands_set_other found i k o.item y (λ e. omega arith) o.stands; holds = o.holds }
    | no m ↦ let e : k ≡ i = omega arith in
        subst (λ n. HoldsAt (λ z. R v z.item) (set found i y) n) (sym e)
        (record { item = y; stands = stands_set found i y h; holds = subst (λ (w : X). R w y) (stands_one given i x v s (subst (λ n. Stands given n v) e t)) r })
  ]

  pub matched_all : (found : List Y) (n : ℕ) → length given ≤ n → MatchedTo R given found n → Matched R given found
  matched_all found n h f = record { each = λ i x s. let b = stands_below given i x s in f i x (omega arith) s }

module _ {X Y : Type 0} (R : X → Y → Type 0) (given : List X) (before : List Y) where
  -- the same of a table whose later rows stay
  pub filled_more : (after : List Y) (i : ℕ) (x : X) (y : Y) → i < length after → Stands given i x → R x y → Filled R given before after i → Filled R given before (set after i y) (i + 1)
  filled_more after i x y h s r f = record {
    first = matched_more R given after i x y h s r f.first;
    later =
        drop-set-lt (i + 1) after i y (omega arith)
        ∙ sym (drop-drop 1 i after)
        ∙ ap (drop 1) f.later
        ∙ drop-drop 1 i before;
  }

-- an option that something holds of, and that it doesn't hold of where it is none
pub some_made : {Y : Type 0} (P : Option Y → Type 0) (r : Option Y) → P r → (P None → ⊥) → IsSome r
some_made P None p none = absurd (none p)
some_made P (Some y) p none = refl

stands_take : {X : Type 0} (n : ℕ) (xs : List X) (i : ℕ) (x : X) → Stands (take n xs) i x → (i < n) × Stands xs i x
unfolding Stands
stands_take zero xs i x s = absurd s
stands_take (suc n) [] i x s = absurd s
stands_take (suc n) (y ∷ ys) zero x s = (omega arith, s)
stands_take (suc n) (y ∷ ys) (suc i) x s = let k = stands_take n ys i x s in let l = k.0 in (omega arith, k.1)

take_stands : {X : Type 0} (n : ℕ) (xs : List X) (i : ℕ) (x : X) → i < n → Stands xs i x → Stands (take n xs) i x
unfolding Stands
take_stands zero xs i x l s = absurd (omega arith)
take_stands (suc n) [] i x l s = absurd s
take_stands (suc n) (y ∷ ys) zero x l s = s
take_stands (suc n) (y ∷ ys) (suc i) x l s = take_stands n ys i x (omega arith) s

-- an item of a table's first rows is one of the table's
pub stands_within : {X : Type 0} (n : ℕ) (xs : List X) (i : ℕ) (x : X) → Stands (take n xs) i x → Stands xs i x
stands_within n xs i x s = (stands_take n xs i x s).1

stands_front : {X : Type 0} (xs ys : List X) (i : ℕ) (x : X) → Stands xs i x → Stands (xs ++ ys) i x
unfolding Stands
stands_front [] ys i x s = absurd s
stands_front (y ∷ xs) ys zero x s = s
stands_front (y ∷ xs) ys (suc i) x s = stands_front xs ys i x s

-- what is matched, copied into the first rows of a table
pub filled_copied : {X Y : Type 0} (R : X → Y → Type 0) (given : List X) (found before copied : List Y) → length given ≤ length found → copied ≡ take (length given) found → Matched R given found → Filled R given before (copied ++ drop (length given) before) (length given)
filled_copied R given found before copied room is m =
    let n = length given in
    let long : length (take n found) ≡ n = simp length-take (omega arith) in
    subst (λ t. Filled R given before (t ++ drop n before) n) (sym is) (record {
      first = λ i x l s.
          let h = m.each i x s in
          record { item = h.item; stands = stands_front (take n found) _ i h.item (take_stands n found i h.item l h.stands); holds = h.holds };
      later = drop-append-drop n before (take n found) n (omega arith) long;
    })

module _ {X Y : Type 0} (R : X → Y → Type 0) (given : List X) (before after : List Y) (n : ℕ) (all : n ≡ length given) (f : Filled R given before after n) where
  -- each row that was given is filled
  pub filled_forth : (i : ℕ) (x : X) → Stands given i x → HoldsAt (λ y. R x y.item) (take n after) i
  filled_forth i x s =
      let b = stands_below given i x s in
      let h = f.first i x (omega arith) s in
      record { item = h.item; stands = take_stands n after i h.item (omega arith) h.stands; holds = h.holds }

  -- each row filled comes from one that was given
  pub filled_back : (i : ℕ) (y : Y) → Stands (take n after) i y → (x : X) × Stands given i x × R x y
  filled_back i y s =
      let t = stands_take n after i y s in
      let l = t.0 in
      let g = item_at given i (omega arith) in
      let h = f.first i g.0 l g.1 in
      (g.0, g.1, subst (R g.0) (stands_one after i h.item y h.stands t.1) h.holds)

  pub filled_length : length (take n after) ≡ length given
  filled_length = length-take n after ∙ min_is n (length after) (reached n refl) ∙ all
    where
      min_is : (a b : ℕ) → a ≤ b → min a b ≡ a
      min_is a b h = omega arith

      reached : (m : ℕ) → m ≡ n → m ≤ length after
      reached zero e = omega arith
      reached (suc m) e =
          let g = item_at given m (omega arith) in
          let h = f.first m g.0 (omega arith) g.1 in
          stands_below after m h.item h.stands
