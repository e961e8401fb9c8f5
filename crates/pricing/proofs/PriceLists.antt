-- From the tests of a price list to its lawfulness, and from the quantities of a list in range to those of the floor.
use Rattle.std.proofs.Common.{◌≡◌, ℕ, suc, ◌-◌, ◌^◌, ◌<◌, Bool, true, false, not, ◌&&◌, T, eqb, ltb, List, length, ℤ, pos, negsuc, ◌+ℤ◌, ◌-ℤ◌, ◌*ℤ◌, neg_ℤ, Some, None, Option, sym, refl, ap, subst, zero-add, ⊎_elim, arith, ltb→lt, w64, of_z}
use lib.Signed.{mag}
use Rattle.std.proofs.lemmas.Bool.{ne_eqb, eqb-true, false≢true, both_ways, cases_Bool, and_parts, and_from, or_cases, or_parts, not-true, not-false, not_from_false}
use Rattle.measure.specs.Range.{Within, between}
use Rattle.measure.specs.Rows.{Row, rows, only, All, Lowest}
use Rattle.measure.proofs.Order.{within_test, test_within, kept_same}
use Rattle.measure.proofs.Sums.{In, look, each, row_stands, stands_row, stands_below, total_same}
use Rattle.measure.proofs.Tested.{holds_in, row_there}
use Rattle.network.specs.declared.bus.Bus.{Bus}
use Rattle.network.specs.declared.branch.Branch.{Branch}
use Rattle.network.specs.declared.refusal.Refusal.TheVariants.{Unrated, Weight, Residue}
use Rattle.network.specs.Model.{Case}
use Rattle.network.specs.Floor.{Prices, price, weight, pull, residue, LawfulList}
use Rattle.pricing.specs.Kept.{kept_price, kept_angle_price, kept_prices, bus_price_beyond, branch_price_beyond, is_zero, unrated, overweight, residue_beyond}
use Rattle.network.specs.Floored.{BusPricesKept, BranchPricesKept, NoneUnrated, WeightsKept, BusPriceBeyond, BranchPriceBeyond, UnratedRow, WeightBeyond, ResidueBeyond, Refused}
use Rattle.pricing.proofs.RowLimits.{lowest-as, none_broken}

-- ---- tests
-- the test of 64 bits
pub zero_bits : (z : ℤ) → mag z < 2 ^ 63 → eqb (of_z w64 z) 0 ≡ is_zero z
zero_bits (pos n) h = refl
zero_bits (negsuc n) h = ne_eqb (2 ^ 64 - suc n) 0 (λ e. omega arith)

zero_true : (z : ℤ) → is_zero z ≡ true → z ≡ pos 0
zero_true (pos n) e = ap pos (eqb-true n 0 e)
zero_true (negsuc n) e = absurd (false≢true e)

true_zero : (z : ℤ) → z ≡ pos 0 → is_zero z ≡ true
true_zero z e = ap is_zero e

holds_true : (t : Bool) → t ≡ true → T t
holds_true t e = subst T (sym e) tt

true_holds : (t : Bool) → T t → t ≡ true
true_holds true h = refl
true_holds false h = absurd h

-- a number lies outside ±n, or not
pub beyond_true : (n : ℕ) (z : ℤ) → not (between (neg_ℤ (pos n)) (pos n) z) ≡ true → Within n z → ⊥
beyond_true n z e h = both_ways (between (neg_ℤ (pos n)) (pos n) z) (not-true _ e) (within_test n z h)

pub true_beyond : (n : ℕ) (z : ℤ) → (Within n z → ⊥) → not (between (neg_ℤ (pos n)) (pos n) z) ≡ true
true_beyond n z out =
    ⊎_elim (λ e. absurd (out (test_within n z e))) (λ e. not_from_false _ e) (cases_Bool (between (neg_ℤ (pos n)) (pos n) z))

within_unless : (n : ℕ) (z : ℤ) → ((Within n z → ⊥) → ⊥) → Within n z
within_unless n z h =
    ⊎_elim (λ e. test_within n z e) (λ e. absurd (h (λ w. both_ways (between (neg_ℤ (pos n)) (pos n) z) e (within_test n z w)))) (cases_Bool (between (neg_ℤ (pos n)) (pos n) z))

-- a numbered row is one of the table's
pub row_below : {X : Type 0} (xs : List X) (r : Row X) → In r (rows xs) → r.row < length xs
row_below xs r k = let s = row_stands 0 xs r k in let e = s.1 in let l = s.2 in omega arith

-- ---- each test tells its limit
module _ (q : Prices) where
  branch_beyond_true : (i : ℕ) → branch_price_beyond q i ≡ true → Within 1000000 (q.congestion i) × Within 100000000 (q.angle i) → ⊥
  branch_beyond_true i e h =
      ⊎_elim (λ f. beyond_true 1000000 (q.congestion i) f h.0) (λ f. beyond_true 100000000 (q.angle i) f h.1) (or_cases _ _ e)

  true_branch_beyond : (i : ℕ) → (Within 1000000 (q.congestion i) × Within 100000000 (q.angle i) → ⊥) → branch_price_beyond q i ≡ true
  true_branch_beyond i out =
      ⊎_elim (λ e. e)
      (λ e. let p = or_parts (not (between (neg_ℤ (pos 1000000)) (pos 1000000) (q.congestion i))) (not (between (neg_ℤ (pos 100000000)) (pos 100000000) (q.angle i))) e in absurd (out (test_within 1000000 (q.congestion i) (not-false _ p.0), test_within 100000000 (q.angle i) (not-false _ p.1))))
      (cases_Bool (branch_price_beyond q i))

  abbrev pub UnratedBranch : Row Branch → Type 0
  UnratedBranch r = T r.item.service × (r.item.rating.0 ≡ pos 0) × (q.congestion r.row ≡ pos 0 → ⊥)

  pub unrated_true : (r : Row Branch) → unrated q r ≡ true → UnratedBranch r
  unrated_true r e =
      let p = and_parts (r.item.service && is_zero r.item.rating.0) (not (is_zero (q.congestion r.row))) e in
      let s = and_parts r.item.service (is_zero r.item.rating.0) p.0 in
      (holds_true r.item.service s.0, zero_true r.item.rating.0 s.1, λ z. both_ways (is_zero (q.congestion r.row)) (not-true _ p.1) (true_zero (q.congestion r.row) z))

  pub true_unrated : (r : Row Branch) → UnratedBranch r → unrated q r ≡ true
  true_unrated r h =
      and_from (r.item.service && is_zero r.item.rating.0) (not (is_zero (q.congestion r.row)))
      (and_from r.item.service (is_zero r.item.rating.0) (true_holds r.item.service h.0) (true_zero r.item.rating.0 h.1))
      (⊎_elim (λ e. absurd (h.2 (zero_true (q.congestion r.row) e))) (λ e. not_from_false _ e) (cases_Bool (is_zero (q.congestion r.row))))

  rated_unless : (r : Row Branch) → (UnratedBranch r → ⊥) → T r.item.service → r.item.rating.0 ≡ pos 0 → q.congestion r.row ≡ pos 0
  rated_unless r out on free =
      ⊎_elim (λ e. zero_true (q.congestion r.row) e)
      (λ e. absurd (out (on, free, λ z. both_ways (is_zero (q.congestion r.row)) e (true_zero (q.congestion r.row) z))))
      (cases_Bool (is_zero (q.congestion r.row)))

module _ {M N : Type 0} (c : Case M N) (q : Prices) where
  abbrev pub HeavyBranch : Row Branch → Type 0
  HeavyBranch r = T r.item.service × (Within 10000000000 (weight c q r) → ⊥)

  pub overweight_true : (r : Row Branch) → overweight c q r ≡ true → HeavyBranch r
  overweight_true r e =
      let p = and_parts r.item.service (not (between (neg_ℤ (pos 10000000000)) (pos 10000000000) (weight c q r))) e in
      (holds_true r.item.service p.0, beyond_true 10000000000 (weight c q r) p.1)

  pub true_overweight : (r : Row Branch) → HeavyBranch r → overweight c q r ≡ true
  true_overweight r h =
      and_from r.item.service (not (between (neg_ℤ (pos 10000000000)) (pos 10000000000) (weight c q r))) (true_holds r.item.service h.0) (true_beyond 10000000000 (weight c q r) h.1)

  -- ---- prices
  pub bus_lowest : (r : Option ℕ) → Lowest (λ i. (i < length c.buses) × (bus_price_beyond q i ≡ true)) r → Lowest (BusPriceBeyond c q) r
  bus_lowest r h =
      lowest-as (λ i. (i < length c.buses) × (bus_price_beyond q i ≡ true)) (BusPriceBeyond c q)
      (λ i k. (k.0, beyond_true 1000000 (q.bus i) k.1)) (λ i k. (k.0, true_beyond 1000000 (q.bus i) k.1)) r h

  pub branch_lowest : (r : Option ℕ) → Lowest (λ i. (i < length c.branches) × (branch_price_beyond q i ≡ true)) r → Lowest (BranchPriceBeyond c q) r
  branch_lowest r h =
      lowest-as (λ i. (i < length c.branches) × (branch_price_beyond q i ≡ true)) (BranchPriceBeyond c q)
      (λ i k. (k.0, branch_beyond_true q i k.1)) (λ i k. (k.0, true_branch_beyond q i k.1)) r h

  pub residue_lowest : (r : Option ℕ) → Lowest (λ i. (i < length c.buses) × (residue_beyond c q i ≡ true)) r → Lowest (ResidueBeyond c q) r
  residue_lowest r h =
      lowest-as (λ i. (i < length c.buses) × (residue_beyond c q i ≡ true)) (ResidueBeyond c q)
      (λ i k. (k.0, beyond_true 1000000000 (residue c q i) k.1)) (λ i k. (k.0, true_beyond 1000000000 (residue c q i) k.1)) r h

-- ---- a list whose prices are in range has the quantities of the list whose prices are kept
module _ {M N : Type 0} (c : Case M N) (q : Prices) (bus_prices : BusPricesKept c q) (branch_prices : BranchPricesKept c q) where
  pub price_same : (i : ℕ) → price c (kept_prices q) i ≡ price c q i
  unfolding price
  price_same i = go (ltb i (length c.buses)) (λ t. bus_prices i (ltb→lt i (length c.buses) t))
    where
      go : (t : Bool) → (T t → Within 1000000 (q.bus i)) → only t (kept_price (q.bus i)) ≡ only t (q.bus i)
      go true h = kept_same 1000000 (q.bus i) (h tt)
      go false h = refl

  pub congestion_same : (i : ℕ) → i < length c.branches → kept_price (q.congestion i) ≡ q.congestion i
  congestion_same i l = kept_same 1000000 (q.congestion i) (branch_prices i l).0

  pub angle_same : (i : ℕ) → i < length c.branches → kept_angle_price (q.angle i) ≡ q.angle i
  angle_same i l = kept_same 100000000 (q.angle i) (branch_prices i l).1

  pub weight_same : (r : Row Branch) → r.row < length c.branches → weight c (kept_prices q) r ≡ weight c q r
  unfolding weight
  weight_same r l =
      λ i. r.item.susceptance *ℤ (price_same r.item.ends.from i -ℤ price_same r.item.ends.to i +ℤ congestion_same r.row l i)

  pull_same : (r : Row Branch) → r.row < length c.branches → pull c (kept_prices q) r ≡ pull c q r
  unfolding pull
  pull_same r l = λ i. only r.item.service (weight_same r l i +ℤ angle_same r.row l i)

  pub residue_same : (n : ℕ) → residue c (kept_prices q) n ≡ residue c q n
  unfolding residue
  residue_same n =
      let f = total_same (λ (r : Row Branch). only (eqb r.item.ends.from n) (pull c (kept_prices q) r)) (λ (r : Row Branch). only (eqb r.item.ends.from n) (pull c q r)) (rows c.branches) (λ r k. ap (only (eqb r.item.ends.from n)) (pull_same r (row_below c.branches r k))) in
      let t = total_same (λ (r : Row Branch). only (eqb r.item.ends.to n) (pull c (kept_prices q) r)) (λ (r : Row Branch). only (eqb r.item.ends.to n) (pull c q r)) (rows c.branches) (λ r k. ap (only (eqb r.item.ends.to n)) (pull_same r (row_below c.branches r k))) in
      λ i. f i -ℤ t i

  weight_lowest : (r : Option ℕ) → Lowest (WeightBeyond c (kept_prices q)) r → Lowest (WeightBeyond c q) r
  weight_lowest r h =
      lowest-as (WeightBeyond c (kept_prices q)) (WeightBeyond c q)
      (λ i k. record { item = k.item; stands = k.stands; holds = (k.holds.0, λ w. k.holds.1 (subst (Within 10000000000) (sym (weight_same _ (stands_below c.branches i k.item k.stands))) w)) })
      (λ i k. record { item = k.item; stands = k.stands; holds = (k.holds.0, λ w. k.holds.1 (subst (Within 10000000000) (weight_same _ (stands_below c.branches i k.item k.stands)) w)) })
      r h

  residue_lowest_same : (r : Option ℕ) → Lowest (ResidueBeyond c (kept_prices q)) r → Lowest (ResidueBeyond c q) r
  residue_lowest_same r h =
      lowest-as (ResidueBeyond c (kept_prices q)) (ResidueBeyond c q)
      (λ i k. (k.0, λ w. k.1 (subst (Within 1000000000) (sym (residue_same i)) w)))
      (λ i k. (k.0, λ w. k.1 (subst (Within 1000000000) (residue_same i) w)))
      r h

  -- ---- refusals
  pub refused_unrated : (i : ℕ) → Lowest (UnratedRow c q) (Some i) → Refused c q (Unrated i)
  refused_unrated i h =
      record {
        why = record { bus_prices = bus_prices; branch_prices = branch_prices; lowest = h };
        unlawful = λ lawful. h.0.holds.2 (look (λ (r : Row Branch). T r.item.service → r.item.rating.0 ≡ pos 0 → q.congestion r.row ≡ pos 0) _ (rows c.branches) lawful.unrated_free (holds_in _ c.branches i h.0) h.0.holds.0 h.0.holds.1);
      }

  module _ (none : Lowest (UnratedRow c q) None) where
    none_unrated : NoneUnrated c q
    none_unrated =
        none_broken (UnratedBranch q) (λ (r : Row Branch). T r.item.service → r.item.rating.0 ≡ pos 0 → q.congestion r.row ≡ pos 0) c.branches (rated_unless q) none

    pub refused_weight : (i : ℕ) → Lowest (WeightBeyond c (kept_prices q)) (Some i) → Refused c q (Weight i)
    refused_weight i h =
        let l = weight_lowest (Some i) h in
        record {
          why = record { bus_prices = bus_prices; branch_prices = branch_prices; unrated = none_unrated; lowest = l };
          unlawful = λ lawful. l.0.holds.1 (look (λ (r : Row Branch). T r.item.service → Within 10000000000 (weight c q r)) _ (rows c.branches) lawful.weights (holds_in _ c.branches i l.0) l.0.holds.0);
        }

    module _ (light : Lowest (WeightBeyond c (kept_prices q)) None) where
      weights_kept : WeightsKept c q
      weights_kept =
          none_broken (HeavyBranch c q) (λ (r : Row Branch). T r.item.service → Within 10000000000 (weight c q r)) c.branches
          (λ r out on. within_unless 10000000000 (weight c q r) (λ h. out (on, h))) (weight_lowest None light)

      pub refused_residue : (i : ℕ) → Lowest (ResidueBeyond c (kept_prices q)) (Some i) → Refused c q (Residue i)
      refused_residue i h =
          let l = residue_lowest_same (Some i) h in
          record {
            why = record { bus_prices = bus_prices; branch_prices = branch_prices; unrated = none_unrated; weights = weights_kept; lowest = l };
            unlawful = λ lawful. l.0.1 (residue_kept lawful.residues i l.0.0);
          }
        where
          residue_kept : All (λ (b : Row Bus). Within 1000000000 (residue c q b.row)) (rows c.buses) → (i : ℕ) → i < length c.buses → Within 1000000000 (residue c q i)
          residue_kept all i l =
              let s = row_there c.buses i l in
              subst (λ n. Within 1000000000 (residue c q n)) (zero-add i) (look (λ (b : Row Bus). Within 1000000000 (residue c q b.row)) _ (rows c.buses) all (stands_row 0 c.buses i s.0 s.1))

      pub lawful_list : Lowest (ResidueBeyond c (kept_prices q)) None → LawfulList c q
      lawful_list none =
          record {
            bus_range = bus_prices;
            congestion_range = λ i l. (branch_prices i l).0;
            angle_range = λ i l. (branch_prices i l).1;
            unrated_free = none_unrated;
            weights = weights_kept;
            residues = each (λ (b : Row Bus). Within 1000000000 (residue c q b.row)) (rows c.buses)
                (λ b k. within_unless 1000000000 (residue c q b.row) (λ out. residue_lowest_same None none b.row (row_below c.buses b k, out)));
          }
