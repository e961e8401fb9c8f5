-- Rows found by name: where they stand, when their names are distinct, and that then no other row has the name.
use Rattle.std.proofs.Common.{◌≡◌, ℕ, ◌<◌, Bool, false, Decides, List, Some, None, Option, sym, refl, ◌∙◌, subst, arith}
use native.Mathlib.Decide.{dec_lt}
use Rattle.std.proofs.lemmas.Bool.{false≢true}
use Rattle.std.specs.Option.{MatchOption}
use Rattle.measure.specs.Rows.{HoldsAt, Stands, Lowest}
use Rattle.measure.proofs.Sums.{stands_one}
use Rattle.names.specs.Names.{Sameness, HasName, NamedBefore, Repeats, Distinct}

-- names that are the same where they are equal
pub equality : {K : Type 0} → Sameness {K = K} ◌≡◌
equality = record { itself = λ x. refl; either_way = λ x y e. sym e; through = λ x y z e f. e ∙ f }

module _ {K R : Type 0} (same : K → K → Type 0) (name : R → K) (xs : List R) where
  -- row i repeats an earlier one where a row before it has its name, and only there
  pub repeats : (i : ℕ) (x : R) → Stands xs i x → NamedBefore same name (name x) xs i → Repeats same name xs i
  repeats i x s n = record { item = x; stands = s; earlier = n.earlier; before = n.before; named = n.named }

  pub named_before : (i : ℕ) (x : R) → Stands xs i x → Repeats same name xs i → NamedBefore same name (name x) xs i
  named_before i x s p = record {
    earlier = p.earlier;
    before = p.before;
    named = subst (λ (y : R). HoldsAt (HasName same name (name y)) xs p.earlier) (stands_one xs i p.item x p.stands s) p.named;
  }

  -- whether a row before row i has a name, by the lowest row that has it
  pub before_found : (k : K) (i : ℕ) (t : Bool) (r : Option ℕ) → Lowest (HoldsAt (HasName same name k) xs) r → MatchOption r (t ≡ false) (λ j. Decides t (j < i)) → Decides t (NamedBefore same name k xs i)
  before_found k i t None f e = (λ y. absurd (false≢true (sym e ∙ y)), λ n. absurd (f n.earlier n.named))
  before_found k i t (Some j) f d = (
    λ y. record { earlier = j; before = d.0 y; named = f.0 },
    λ n. d.1 (elim (dec_lt j i) [
      | yes h ↦ h
      | no h ↦ let b = n.before in absurd (f.1 n.earlier (omega arith) n.named)
    ]),
  )

  -- where the names are distinct, no row repeats an earlier one
  pub distinct_repeats_none : Distinct same name xs → Lowest (Repeats same name xs) None
  distinct_repeats_none d i p =
      let e = d.one_row p.earlier i p.named.item p.item p.named.stands p.stands p.named.holds in
      let l = p.before in
      omega arith

  pub distinct_is_none : Distinct same name xs → (r : Option ℕ) → Lowest (Repeats same name xs) r → r ≡ None
  distinct_is_none d None f = refl
  distinct_is_none d (Some i) f = absurd (distinct_repeats_none d i f.0)

  module _ (law : Sameness same) where
    -- no row repeats an earlier one: the names are distinct
    pub distinct : Lowest (Repeats same name xs) None → Distinct same name xs
    distinct none = record { one_row = one }
      where
        later : (i j : ℕ) (x y : R) → i < j → Stands xs i x → Stands xs j y → same (name x) (name y) → ⊥
        later i j x y h s t e =
            none j (record { item = y; stands = t; earlier = i; before = h; named = record { item = x; stands = s; holds = e } })

        one : (i j : ℕ) (x y : R) → Stands xs i x → Stands xs j y → same (name x) (name y) → i ≡ j
        one i j x y s t e =
            elim (dec_lt i j) [
              | yes h ↦ absurd (later i j x y h s t e)
              | no h ↦ elim (dec_lt j i) [
                | yes k ↦ absurd (later j i y x k t s (law.either_way (name x) (name y) e))
                | no k ↦ omega arith
              ]
            ]

    -- where the names are distinct, the rows that have one name are one row
    pub only_row : Distinct same name xs → (k : K) (i j : ℕ) → HoldsAt (HasName same name k) xs i → HoldsAt (HasName same name k) xs j → i ≡ j
    only_row d k i j h l =
        d.one_row i j h.item l.item h.stands l.stands (law.through (name h.item) k (name l.item) h.holds (law.either_way (name l.item) k l.holds))
