-- The floor theorem: weak duality of the DC dispatch problem. All of a dispatch is put over one denominator D, and the rest is in ℤ:
--     machines   their costs are at least D × margins + Σ price × injection                    (group-low)
--     buses      Σ price × (injections - demand - out + in) is at least -E D Σ |price|          (buses-low)
--     branches   Σ flow × (price from - price to) is at least Σ pull × difference - D × charges (branches-low)
--     angles     Σ pull × difference = Σ angle × residue is at least -A D Σ |residue|           (angles-low)
use Rattle.std.proofs.Common.{ℕ, List, [], ◌∷◌, ◌++◌, map, length, ℤ, pos, ◌+ℤ◌, ◌-ℤ◌, ◌*ℤ◌, neg_ℤ, ◌≤ℤ◌, refl}
use Rattle.measure.specs.Range.{∣◌∣}
use Rattle.measure.specs.Fraction.{Fraction, whole, ◌+ᶠ◌, ◌≤ᶠ◌, Between}
use Rattle.measure.specs.Rows.{Row, rows, total}
use Rattle.measure.proofs.Ring.{var, add, sub, mul, neg}
use Rattle.measure.proofs.Order.{along, ◌⊕◌, ring_le}
use Rattle.measure.proofs.Sums.{In, look}
use Rattle.measure.proofs.Scale.{within_over, over_whole, over_add, le_over, scaled, in_left, in_right, in_map}
use Rattle.machine.specs.Meaning.{Meaning, Keeps}
use Rattle.machine.specs.Group.{total_margins, true_cost_of}
use Rattle.network.specs.declared.bus.Bus.{Bus}
use Rattle.network.specs.declared.branch.Branch.{Branch}
use Rattle.network.specs.Model.{Case, Dispatch, angle_limit, angle, mismatch, Meets, true_cost}
use Rattle.network.specs.Floor.{Prices, others, price, pull, residue, branch_charge, LawfulList, floor}
use Rattle.network.specs.Theorems.{FloorTheorem}
use Rattle.network.proofs.Scaled.{angle-reference, angle_beyond, leavingᶻ, arrivingᶻ, injectionᶻ, mismatchᶻ, AnglesOver, PowersOver, over_mismatch}
use Rattle.network.proofs.Flows.{price_beyond, price_range, branches_low, pulls}
use Rattle.network.proofs.Machines.{cost_of, costᶻ, CostsOver, over_cost, group_low}
use Rattle.network.proofs.Buses.{excess, Bounded, buses_low, angles_low}
use Rattle.network.proofs.Denominator.{denominator, denominator_positive, powerᶻ₁, powerᶻ₂, busᶻ, more_over, first_over, second_over, angles_over}

-- m₁ m₂ margins, i₁ i₂ worth of the injections, k₁ k₂ costs, n demand, p Σ |price|, g branch charges, r Σ |residue|, o and a worth of the
-- flows, t₁ t₂ the pulls at the ends
sum_up : (D E A m₁ m₂ i₁ i₂ k₁ k₂ n p g r o a t₁ t₂ : ℤ) → (D *ℤ m₁ +ℤ i₁) ≤ℤ k₁ → (D *ℤ m₂ +ℤ i₂) ≤ℤ k₂ → neg_ℤ ((E *ℤ D) *ℤ p) ≤ℤ (i₁ +ℤ i₂ -ℤ D *ℤ n -ℤ o +ℤ a) → (t₁ -ℤ t₂ -ℤ D *ℤ g) ≤ℤ (o -ℤ a) → neg_ℤ ((A *ℤ D) *ℤ r) ≤ℤ (t₁ -ℤ t₂) → ((m₁ +ℤ m₂ +ℤ n -ℤ E *ℤ p -ℤ g -ℤ A *ℤ r) *ℤ D) ≤ℤ (k₁ +ℤ k₂)
sum_up D E A m₁ m₂ i₁ i₂ k₁ k₂ n p g r o a t₁ t₂ h₁ h₂ h₃ h₄ h₅ =
    let vD = var 0 in let vE = var 1 in let vA = var 2 in let vm₁ = var 3 in let vm₂ = var 4 in let vi₁ = var 5 in let vi₂ = var 6 in let vk₁ = var 7 in let vk₂ = var 8 in
    let vn = var 9 in let vp = var 10 in let vg = var 11 in let vr = var 12 in let vo = var 13 in let va = var 14 in let vt₁ = var 15 in let vt₂ = var 16 in
    ring_le (mul (sub (sub (sub (add (add vm₁ vm₂) vn) (mul vE vp)) vg) (mul vA vr)) vD) (add vk₁ vk₂)
    (add (add (add (add (add (mul vD vm₁) vi₁) (add (mul vD vm₂) vi₂)) (neg (mul (mul vE vD) vp))) (sub (sub vt₁ vt₂) (mul vD vg))) (neg (mul (mul vA vD) vr)))
    (add (add (add (add vk₁ vk₂) (add (sub (sub (add vi₁ vi₂) (mul vD vn)) vo) va)) (sub vo va)) (sub vt₁ vt₂))
    (D ∷ (E ∷ (A ∷ (m₁ ∷ (m₂ ∷ (i₁ ∷ (i₂ ∷ (k₁ ∷ (k₂ ∷ (n ∷ (p ∷ (g ∷ (r ∷ (o ∷ (a ∷ (t₁ ∷ (t₂ ∷ [])))))))))))))))))
    (h₁ ⊕ h₂ ⊕ h₃ ⊕ h₄ ⊕ h₅) tt

module _ {M N : Type 0} (𝓜 : Meaning M) (𝓝 : Meaning N) (keeps₁ : Keeps 𝓜) (keeps₂ : Keeps 𝓝) (c : Case M N) (q : Prices) (d : Dispatch) (lawful : LawfulList c q) (meets : Meets 𝓜 𝓝 c d) where
  -- one denominator for the dispatch and its costs
  abbrev costs₁ : List Fraction
  costs₁ = map (cost_of 𝓜 d.first) (rows c.first.machines)

  abbrev costs₂ : List Fraction
  costs₂ = map (cost_of 𝓝 d.second) (rows c.second.machines)

  abbrev D : ℕ
  D = denominator c d (costs₁ ++ costs₂)

  abbrev θ : ℕ → ℤ
  θ = busᶻ c d (costs₁ ++ costs₂)

  abbrev p₁ : ℕ → ℤ
  p₁ = powerᶻ₁ c d (costs₁ ++ costs₂)

  abbrev p₂ : ℕ → ℤ
  p₂ = powerᶻ₂ c d (costs₁ ++ costs₂)

  angles : AnglesOver c d D θ
  angles = angles_over c d (costs₁ ++ costs₂)

  powers₁ : PowersOver D c.first d.first p₁
  powers₁ = first_over c d (costs₁ ++ costs₂)

  powers₂ : PowersOver D c.second d.second p₂
  powers₂ = second_over c d (costs₁ ++ costs₂)

  costs_over₁ : CostsOver 𝓜 c.first d.first D
  costs_over₁ r k = more_over c d (costs₁ ++ costs₂) (cost_of 𝓜 d.first r) (in_left _ costs₁ costs₂ (in_map (cost_of 𝓜 d.first) r (rows c.first.machines) k))

  costs_over₂ : CostsOver 𝓝 c.second d.second D
  costs_over₂ r k = more_over c d (costs₁ ++ costs₂) (cost_of 𝓝 d.second r) (in_right _ costs₁ costs₂ (in_map (cost_of 𝓝 d.second) r (rows c.second.machines) k))

  abbrev total_cost : ℤ
  total_cost = costᶻ 𝓜 c.first d.first D +ℤ costᶻ 𝓝 c.second d.second D

  floor_low : (floor 𝓜 𝓝 c q *ℤ pos D) ≤ℤ total_cost
  unfolding floor mismatchᶻ
  floor_low =
      let bs = rows c.buses in
      let rs = rows c.branches in
      let L = price c q in
      let I₁ = injectionᶻ c.first p₁ in
      let I₂ = injectionᶻ c.second p₂ in
      let O = leavingᶻ c.branches θ (pos D) in
      let A = arrivingᶻ c.branches θ (pos D) in
      let beyond = angle_beyond (length c.buses) (λ i. scaled D (d.angles i)) in
      let balanced : (b : Row Bus) → In b bs → (neg_ℤ (c.tolerance *ℤ pos D) ≤ℤ excess L I₁ I₂ O A (pos D) b) × (excess L I₁ I₂ O A (pos D) b ≤ℤ (c.tolerance *ℤ pos D)) = λ b k. within_over D c.tolerance (mismatch c d b) (mismatchᶻ c θ p₁ p₂ (pos D) b) (over_mismatch c d D θ p₁ p₂ angles powers₁ powers₂ b) (look (λ (b : Row Bus). Between (neg_ℤ c.tolerance) c.tolerance (mismatch c d b)) b bs meets.balance k) in
      let bounded : Bounded θ (residue c q) (angle_limit *ℤ pos D) bs = λ b k. within_over D angle_limit (angle c d b.row) (θ b.row) (angles b.row) (look (λ (b : Row Bus). Between (neg_ℤ angle_limit) angle_limit (angle c d b.row)) b bs meets.angle_range k) in
      sum_up (pos D) c.tolerance angle_limit
      (total_margins 𝓜 c.first.machines (λ i. L (c.first.place i))) (total_margins 𝓝 c.second.machines (λ i. L (c.second.place i)))
      (total (λ (b : Row Bus). L b.row *ℤ I₁ b.row) bs) (total (λ (b : Row Bus). L b.row *ℤ I₂ b.row) bs)
      (costᶻ 𝓜 c.first d.first D) (costᶻ 𝓝 c.second d.second D)
      (total (λ (b : Row Bus). L b.row *ℤ b.item.demand.0) bs) (total (λ (b : Row Bus). ∣ L b.row ∣) bs) (total (branch_charge c q) rs) (total (λ (b : Row Bus). ∣ residue c q b.row ∣) (others bs))
      (total (λ (b : Row Bus). L b.row *ℤ O b.row) bs) (total (λ (b : Row Bus). L b.row *ℤ A b.row) bs)
      (total (λ (r : Row Branch). θ r.item.ends.from *ℤ pull c q r) rs) (total (λ (r : Row Branch). θ r.item.ends.to *ℤ pull c q r) rs)
      (group_low 𝓜 keeps₁ c.first d.first D p₁ L powers₁ costs_over₁ meets.first_allowed (price_range c q lawful) c.buses (price_beyond c q))
      (group_low 𝓝 keeps₂ c.second d.second D p₂ L powers₂ costs_over₂ meets.second_allowed (price_range c q lawful) c.buses (price_beyond c q))
      (buses_low L I₁ I₂ O A (pos D) c.tolerance bs balanced)
      (branches_low c q d D θ angles lawful meets)
      (along refl (pulls c q d D θ angles lawful meets beyond) (angles_low θ (residue c q) (angle_limit *ℤ pos D) c.buses (angle-reference (length c.buses) (λ i. scaled D (d.angles i))) bounded))

  floor_at_most : whole (floor 𝓜 𝓝 c q) ≤ᶠ true_cost 𝓜 𝓝 c d
  unfolding true_cost
  floor_at_most =
      le_over D (denominator_positive c d (costs₁ ++ costs₂)) (whole (floor 𝓜 𝓝 c q)) (true_cost_of 𝓜 c.first.machines d.first +ᶠ true_cost_of 𝓝 c.second.machines d.second) (floor 𝓜 𝓝 c q *ℤ pos D) total_cost
      (over_whole D (floor 𝓜 𝓝 c q))
      (over_add D (true_cost_of 𝓜 c.first.machines d.first) (true_cost_of 𝓝 c.second.machines d.second) (costᶻ 𝓜 c.first d.first D) (costᶻ 𝓝 c.second d.second D) (over_cost 𝓜 c.first d.first D costs_over₁) (over_cost 𝓝 c.second d.second D costs_over₂))
      floor_low

pub floor_stands : {M N : Type 0} (𝓜 : Meaning M) (𝓝 : Meaning N) → Keeps 𝓜 → Keeps 𝓝 → FloorTheorem 𝓜 𝓝
floor_stands 𝓜 𝓝 keeps₁ keeps₂ c q d lawful meets = floor_at_most 𝓜 𝓝 keeps₁ keeps₂ c q d lawful meets
