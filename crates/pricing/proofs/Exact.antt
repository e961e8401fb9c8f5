-- The floor of a lawful list, from the sums that are taken over its machines, buses and branches.
use Rattle.std.proofs.Common.{◌≡◌, ℕ, suc, ◌<◌, Bool, true, false, cond, T, ltb, List, [], ◌∷◌, length, ℤ, pos, ◌+ℤ◌, ◌-ℤ◌, ◌*ℤ◌, refl, ap, ◌∙◌, arith, lit<, w64, SFits}
use lib.Signed.{non_neg}
use Rattle.std.proofs.lemmas.Bool.{lt-ltb}
use Rattle.measure.specs.Range.{Within, ∣◌∣}
use Rattle.measure.specs.Rows.{Row, numbered, rows, total, only}
use Rattle.measure.proofs.Laws.{lin}
use Rattle.measure.proofs.Order.{product_within, kept_same}
use Rattle.measure.proofs.Sizes.{fits}
use Rattle.measure.proofs.Sums.{In, look, total_same, total_sub, total-mul}
use Rattle.machine.specs.Meaning.{Meaning}
use Rattle.machine.specs.Group.{total_margins}
use Rattle.network.specs.declared.bus.Bus.{Bus}
use Rattle.network.specs.declared.branch.Branch.{Branch}
use Rattle.network.specs.Ranges.{Summed}
use Rattle.network.specs.Model.{Case, angle_limit}
use Rattle.network.specs.Floor.{Prices, others, price, weight, residue, angle_charge, branch_charge, LawfulList, floor}
use Rattle.pricing.specs.Kept.{kept_weight, kept_residue, kept_prices, kept_charge, bus_worth, price_size, kept_floor}
use Rattle.pricing.proofs.PriceLists.{row_below, price_same, congestion_same, angle_same, weight_same, residue_same}

-- ---- the last sum fits 64 bits
pub record SummedSizes (a b n : ℤ) (e : ℕ) (p g : ℤ) : Type 0 where
  pub groups : SFits w64 (a +ℤ b)
  pub buses : SFits w64 (a +ℤ b +ℤ n)
  pub tolerated : SFits w64 (pos e *ℤ p)
  pub less : SFits w64 (a +ℤ b +ℤ n -ℤ pos e *ℤ p)
  pub sum : SFits w64 (a +ℤ b +ℤ n -ℤ pos e *ℤ p -ℤ g)

pub summed_sizes : (a b n : ℤ) (e : ℕ) (p g : ℤ) → Summed a b n e p g → SummedSizes a b n e p g
summed_sizes a b n e p g h =
    let k : Within 510000000000000000 (a +ℤ b) = (omega (arith, lin, h.first_range.0, h.second_range.0), omega (arith, lin, h.first_range.1, h.second_range.1)) in
    let l : Within 1351500000000000000 (a +ℤ b +ℤ n) = (omega (arith, lin, k.0, h.buses_range.0), omega (arith, lin, k.1, h.buses_range.1)) in
    let m = h.tolerance in
    let t = product_within 4294967295 255000000 (pos e) p (omega (arith, lin), omega (arith, lin)) h.sizes_range in
    let u : Within 2446716660225000000 (a +ℤ b +ℤ n -ℤ pos e *ℤ p) = (omega (arith, lin, l.0, t.1), omega (arith, lin, l.1, t.0)) in
    let v : Within 6715416660225000000 (a +ℤ b +ℤ n -ℤ pos e *ℤ p -ℤ g) = (omega (arith, lin, u.0, h.charges_range.1), omega (arith, lin, u.1, h.charges_range.0)) in
    record {
      groups = fits 510000000000000000 _ (lit< tt) k;
      buses = fits 1351500000000000000 _ (lit< tt) l;
      tolerated = fits 1095216660225000000 _ (lit< tt) t;
      less = fits 2446716660225000000 _ (lit< tt) u;
      sum = fits 6715416660225000000 _ (lit< tt) v;
    }

-- ---- the residues of all buses but the reference
module _ (ρ : ℕ → ℤ) where
  abbrev counted : Row Bus → ℤ
  counted b = ∣ only (ltb 0 b.row) (ρ b.row) ∣

  later : (k : ℕ) (bs : List Bus) → 0 < k → total counted (numbered k bs) ≡ total (λ (b : Row Bus). ∣ ρ b.row ∣) (numbered k bs)
  unfolding total numbered
  later k [] h = refl
  later k (b ∷ bs) h = λ i. ∣ only (lt-ltb 0 k h i) (ρ k) ∣ +ℤ later (suc k) bs (omega arith) i

  not_reference : (bs : List Bus) → total counted (rows bs) ≡ total (λ (b : Row Bus). ∣ ρ b.row ∣) (others (rows bs))
  unfolding total numbered
  not_reference [] = refl
  not_reference (b ∷ bs) = let e = later 1 bs (omega arith) in omega (arith, lin)

-- m₁ m₂ margins, n demand, p sizes of the prices, g charges, r residues
arranged : (m₁ m₂ n e p g r : ℤ) → m₁ +ℤ m₂ +ℤ (n -ℤ r) -ℤ e *ℤ p -ℤ g ≡ m₁ +ℤ m₂ +ℤ n -ℤ e *ℤ p -ℤ g -ℤ r
arranged m₁ m₂ n e p g r = omega (arith, lin)

module _ {M N : Type 0} (c : Case M N) (q : Prices) (lawful : LawfulList c q) where
  bus_prices : (i : ℕ) → i < length c.buses → Within 1000000 (q.bus i)
  bus_prices = lawful.bus_range

  branch_prices : (i : ℕ) → i < length c.branches → Within 1000000 (q.congestion i) × Within 100000000 (q.angle i)
  branch_prices i l = (lawful.congestion_range i l, lawful.angle_range i l)

  -- ---- branches
  stretch_same : (r : Row Branch) → r.row < length c.branches → angle_charge c (kept_prices q) r ≡ angle_charge c q r
  unfolding angle_charge
  stretch_same r l = ap (λ ν. cond (non_neg ν) (ν *ℤ r.item.angmax.0) (ν *ℤ r.item.angmin.0)) (angle_same c q bus_prices branch_prices r.row l)

  charge_same : (r : Row Branch) → In r (rows c.branches) → kept_charge c (kept_prices q) r ≡ branch_charge c q r
  unfolding kept_charge branch_charge
  charge_same r k =
      go r.item.service (look (λ (r : Row Branch). T r.item.service → Within 10000000000 (weight c q r)) r (rows c.branches) lawful.weights k)
    where
      l : r.row < length c.branches
      l = row_below c.branches r k

      go : (t : Bool) → (T t → Within 10000000000 (weight c q r)) → only t (kept_weight (weight c (kept_prices q) r) *ℤ r.item.shift.0 +ℤ ∣ (kept_prices q).congestion r.row ∣ *ℤ r.item.rating.0 +ℤ angle_charge c (kept_prices q) r) ≡ only t (weight c q r *ℤ r.item.shift.0 +ℤ ∣ q.congestion r.row ∣ *ℤ r.item.rating.0 +ℤ angle_charge c q r)
      go true h =
          let w = ap kept_weight (weight_same c q bus_prices branch_prices r l) ∙ kept_same 10000000000 (weight c q r) (h tt) in
          λ i. w i *ℤ r.item.shift.0 +ℤ ∣ congestion_same c q bus_prices branch_prices r.row l i ∣ *ℤ r.item.rating.0 +ℤ stretch_same r l i
      go false h = refl

  charges_same : total (kept_charge c (kept_prices q)) (rows c.branches) ≡ total (branch_charge c q) (rows c.branches)
  charges_same = total_same (kept_charge c (kept_prices q)) (branch_charge c q) (rows c.branches) charge_same

  -- ---- buses
  abbrev demanded : Row Bus → ℤ
  demanded b = price c q b.row *ℤ b.item.demand.0

  worth_same : (b : Row Bus) → In b (rows c.buses) → bus_worth c (kept_prices q) b ≡ demanded b -ℤ angle_limit *ℤ counted (residue c q) b
  unfolding bus_worth
  worth_same b k =
      let h = look (λ (b : Row Bus). Within 1000000000 (residue c q b.row)) b (rows c.buses) lawful.residues k in
      let r = ap kept_residue (residue_same c q bus_prices branch_prices b.row) ∙ kept_same 1000000000 (residue c q b.row) h in
      λ i. price_same c q bus_prices branch_prices b.row i *ℤ b.item.demand.0 -ℤ angle_limit *ℤ ∣ only (ltb 0 b.row) (r i) ∣

  worths_same : total (bus_worth c (kept_prices q)) (rows c.buses) ≡ total demanded (rows c.buses) -ℤ angle_limit *ℤ total (λ (b : Row Bus). ∣ residue c q b.row ∣) (others (rows c.buses))
  worths_same =
      total_same (bus_worth c (kept_prices q)) (λ b. demanded b -ℤ angle_limit *ℤ counted (residue c q) b) (rows c.buses) worth_same
      ∙ total_sub demanded (λ b. angle_limit *ℤ counted (residue c q) b) (rows c.buses)
      ∙ ap (λ s. total demanded (rows c.buses) -ℤ s) (total-mul angle_limit (counted (residue c q)) (rows c.buses) ∙ ap (λ s. angle_limit *ℤ s) (not_reference (residue c q) c.buses))

  sizes_same : total (price_size c (kept_prices q)) (rows c.buses) ≡ total (λ (b : Row Bus). ∣ price c q b.row ∣) (rows c.buses)
  sizes_same =
      total_same (price_size c (kept_prices q)) (λ (b : Row Bus). ∣ price c q b.row ∣) (rows c.buses) (λ b k. ap ∣◌∣ (price_same c q bus_prices branch_prices b.row))

  -- ---- all of it
  pub floor_same : (𝓜 : Meaning M) (𝓝 : Meaning N) → kept_floor 𝓜 𝓝 c (kept_prices q) ≡ floor 𝓜 𝓝 c q
  unfolding kept_floor floor
  floor_same 𝓜 𝓝 =
      let L : (i : ℕ) → price c (kept_prices q) i ≡ price c q i = price_same c q bus_prices branch_prices in
      (λ j.
      total_margins 𝓜 c.first.machines (λ i. L (c.first.place i) j)
      +ℤ total_margins 𝓝 c.second.machines (λ i. L (c.second.place i) j)
      +ℤ worths_same j -ℤ c.tolerance *ℤ sizes_same j -ℤ charges_same j)
      ∙ arranged (total_margins 𝓜 c.first.machines (λ i. price c q (c.first.place i))) (total_margins 𝓝 c.second.machines (λ i. price c q (c.second.place i)))
      (total demanded (rows c.buses)) c.tolerance (total (λ (b : Row Bus). ∣ price c q b.row ∣) (rows c.buses)) (total (branch_charge c q) (rows c.branches))
      (angle_limit *ℤ total (λ (b : Row Bus). ∣ residue c q b.row ∣) (others (rows c.buses)))
