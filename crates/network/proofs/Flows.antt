-- All branches of a case over a denominator D: what their flows are worth at the prices of their ends is at least Σ pull × difference less
-- D × charges, and Σ pull × difference is Σ angle × residue.
use Rattle.std.proofs.Common.{◌≡◌, ℕ, ◌≤◌, Bool, true, false, cond, T, eqb, ltb, [], ◌∷◌, length, ℤ, pos, ◌-ℤ◌, ◌*ℤ◌, neg_ℤ, ◌≤ℤ◌, ◌<ℤ◌, sym, ◌∙◌, arith, ltb→lt}
use lib.Signed.{non_neg}
use Rattle.measure.specs.Range.{Within, ∣◌∣}
use Rattle.measure.specs.Fraction.{Between}
use Rattle.measure.specs.Rows.{Row, rows, total, only}
use Rattle.measure.proofs.Laws.{lin}
use Rattle.measure.proofs.Ring.{ring, var, sub, mul}
use Rattle.measure.proofs.Order.{along}
use Rattle.measure.proofs.Sums.{In, look, row_item, only-not, total-le, total_same, total_sub, total-mul, total-rows, gather}
use Rattle.measure.proofs.Scale.{within_over, between_over}
use Rattle.machine.specs.Meaning.{Meaning}
use Rattle.network.specs.declared.bus.Bus.{Bus}
use Rattle.network.specs.declared.branch.Branch.{Branch}
use Rattle.network.specs.Model.{Case, Dispatch, difference, flow, Meets}
use Rattle.network.specs.Floor.{Prices, price, weight, pull, residue, angle_charge, branch_charge, LawfulList}
use Rattle.network.proofs.Branches.{congestion_bound, angle-bound, branch_low}
use Rattle.network.proofs.Scaled.{differenceᶻ, flowᶻ, leavingᶻ, arrivingᶻ, AnglesOver, over_difference, over_flow}

-- ---- prices: 0 at a row that the case lacks, so in range everywhere
module _ {M N : Type 0} (c : Case M N) (q : Prices) where
  pub price_beyond : (i : ℕ) → length c.buses ≤ i → price c q i ≡ pos 0
  unfolding price
  price_beyond i h = only-not (ltb i (length c.buses)) (q.bus i) (λ t. let l = ltb→lt i (length c.buses) t in absurd (omega arith))

  pub price_range : LawfulList c q → (i : ℕ) → Within 1000000 (price c q i)
  unfolding price
  price_range lawful i = go (ltb i (length c.buses)) (λ t. lawful.bus_range i (ltb→lt i (length c.buses) t))
    where
      go : (t : Bool) → (T t → Within 1000000 (q.bus i)) → Within 1000000 (only t (q.bus i))
      go true h = h tt
      go false h = (omega (arith, lin), omega (arith, lin))

-- ---- branches
module _ {M N : Type 0} {𝓜 : Meaning M} {𝓝 : Meaning N} (c : Case M N) (q : Prices) (d : Dispatch) (D : ℕ) (θ : ℕ → ℤ) (angles : AnglesOver c d D θ) (lawful : LawfulList c q) (meets : Meets 𝓜 𝓝 c d) where
  one_branch : (r : Row Branch) → In r (rows c.branches) → (θ r.item.ends.from *ℤ pull c q r -ℤ θ r.item.ends.to *ℤ pull c q r -ℤ pos D *ℤ branch_charge c q r) ≤ℤ (price c q r.item.ends.from *ℤ flowᶻ θ (pos D) r.item -ℤ price c q r.item.ends.to *ℤ flowᶻ θ (pos D) r.item)
  unfolding pull weight branch_charge angle_charge flowᶻ
  one_branch r k =
      let i = r.item in
      let μ = q.congestion r.row in
      let ν = q.angle r.row in
      let j = row_item 0 c.branches r k in
      branch_low i.susceptance i.shift.0 (price c q i.ends.from) (price c q i.ends.to) μ ν (θ i.ends.from) (θ i.ends.to) (pos D) i.service (∣ μ ∣ *ℤ i.rating.0) (cond (non_neg ν) (ν *ℤ i.angmax.0) (ν *ℤ i.angmin.0))
      (λ on. congestion_bound μ (flowᶻ θ (pos D) i) (pos D) i.rating.0 i.rated.0 (λ rated. within_over D i.rating.0 (flow c d i) (flowᶻ θ (pos D) i) (over_flow c d D θ angles i) (look (λ (r : Branch). T r.service → pos 0 <ℤ r.rating.0 → Between (neg_ℤ r.rating.0) r.rating.0 (flow c d r)) i c.branches meets.ratings j on rated)) (look (λ (r : Row Branch). T r.item.service → r.item.rating.0 ≡ pos 0 → q.congestion r.row ≡ pos 0) r (rows c.branches) lawful.unrated_free k on))
      (λ on. let w = between_over D i.angmin.0 i.angmax.0 (difference c d i) (differenceᶻ θ i) (over_difference c d D θ angles i) (look (λ (r : Branch). T r.service → Between r.angmin.0 r.angmax.0 (difference c d r)) i c.branches meets.differences j on) in angle-bound ν (differenceᶻ θ i) i.angmin.0 i.angmax.0 (pos D) w.0 w.1)

  abbrev L : ℕ → ℤ
  L = price c q

  abbrev pub from_pull : Row Branch → ℤ
  from_pull r = θ r.item.ends.from *ℤ pull c q r

  abbrev pub to_pull : Row Branch → ℤ
  to_pull r = θ r.item.ends.to *ℤ pull c q r

  pub branches_low : (total from_pull (rows c.branches) -ℤ total to_pull (rows c.branches) -ℤ pos D *ℤ total (branch_charge c q) (rows c.branches)) ≤ℤ (total (λ (b : Row Bus). L b.row *ℤ leavingᶻ c.branches θ (pos D) b.row) (rows c.buses) -ℤ total (λ (b : Row Bus). L b.row *ℤ arrivingᶻ c.branches θ (pos D) b.row) (rows c.buses))
  unfolding leavingᶻ arrivingᶻ
  branches_low =
      let rs = rows c.branches in
      let charge : Row Branch → ℤ = λ r. pos D *ℤ branch_charge c q r in
      let out : Branch → ℤ = λ r. L r.ends.from *ℤ flowᶻ θ (pos D) r in
      let into : Branch → ℤ = λ r. L r.ends.to *ℤ flowᶻ θ (pos D) r in
      let e₁ = total_sub (λ r. from_pull r -ℤ to_pull r) charge rs ∙ (λ i. total_sub from_pull to_pull rs i -ℤ total-mul (pos D) (branch_charge c q) rs i) in
      let e₂ = total_sub (λ (r : Row Branch). out r.item) (λ r. into r.item) rs ∙ (λ i. total-rows out 0 c.branches i -ℤ total-rows into 0 c.branches i) in
      let g₁ = gather L (λ (r : Branch). r.ends.from) (flowᶻ θ (pos D)) c.buses c.branches (price_beyond c q) in
      let g₂ = gather L (λ (r : Branch). r.ends.to) (flowᶻ θ (pos D)) c.buses c.branches (price_beyond c q) in
      along e₁ (e₂ ∙ sym (λ i. g₁ i -ℤ g₂ i)) (total-le (λ r. from_pull r -ℤ to_pull r -ℤ charge r) (λ r. out r.item -ℤ into r.item) rs one_branch)

  -- the pulls times the angle differences are the angles times the residues
  pub pulls : ((i : ℕ) → length c.buses ≤ i → θ i ≡ pos 0) → total (λ (b : Row Bus). θ b.row *ℤ residue c q b.row) (rows c.buses) ≡ total from_pull (rows c.branches) -ℤ total to_pull (rows c.branches)
  unfolding residue
  pulls beyond =
      let bs = rows c.buses in
      let out : Row Bus → ℤ = λ b. total (λ (r : Row Branch). only (eqb r.item.ends.from b.row) (pull c q r)) (rows c.branches) in
      let into : Row Bus → ℤ = λ b. total (λ (r : Row Branch). only (eqb r.item.ends.to b.row) (pull c q r)) (rows c.branches) in
      total_same (λ (b : Row Bus). θ b.row *ℤ (out b -ℤ into b)) (λ (b : Row Bus). θ b.row *ℤ out b -ℤ θ b.row *ℤ into b) bs (λ b k. ring (mul (var 0) (sub (var 1) (var 2))) (sub (mul (var 0) (var 1)) (mul (var 0) (var 2))) (θ b.row ∷ (out b ∷ (into b ∷ []))) tt)
      ∙ total_sub (λ (b : Row Bus). θ b.row *ℤ out b) (λ (b : Row Bus). θ b.row *ℤ into b) bs
      ∙ (λ i. gather θ (λ (r : Row Branch). r.item.ends.from) (pull c q) c.buses (rows c.branches) beyond i -ℤ gather θ (λ (r : Row Branch). r.item.ends.to) (pull c q) c.buses (rows c.branches) beyond i)
