-- The balance at a bus is the nodal equation: over one denominator D, both sides are the same whole number.
use Rattle.std.proofs.Common.{◌≡◌, ℕ, ◌≤◌, Bool, true, false, eqb, List, [], ◌∷◌, length, ℤ, pos, ◌+ℤ◌, ◌-ℤ◌, ◌*ℤ◌, neg_ℤ, sym, ap, ◌∙◌}
use lib.IntN.{zero-*ℤ}
use Rattle.measure.specs.Fraction.{Fraction, ◌·ᶠ◌}
use Rattle.measure.specs.Rows.{Row, rows, total, only}
use Rattle.measure.proofs.Laws.{one-mul, mul_one}
use Rattle.measure.proofs.Ring.{ring, var, con, add, sub, mul, neg}
use Rattle.measure.proofs.Sums.{total_same, total_add, total_sub, total-mul, gather_one}
use Rattle.measure.proofs.Scale.{Over, over_whole, over_add, over_sub, over_times, over_total, over_same, scaled}
use Rattle.network.specs.declared.bus.Bus.{Bus}
use Rattle.network.specs.declared.branch.Branch.{Branch}
use Rattle.network.specs.Model.{Group, Case, Dispatch, angle, mismatch}
use Rattle.network.specs.Nodal.{one_if, incidence, machine_entry, susceptance_of, from_flow, bus_row, shift_row, injection_row, nodal}
use Rattle.network.specs.Theorems.{NodalTheorem}
use Rattle.network.proofs.Scaled.{angle_beyond, differenceᶻ, flowᶻ, leavingᶻ, arrivingᶻ, injectionᶻ, mismatchᶻ, AnglesOver, PowersOver, over_mismatch}
use Rattle.network.proofs.Denominator.{denominator, denominator_positive, powerᶻ₁, powerᶻ₂, busᶻ, first_over, second_over, angles_over}

-- an entry of a connection matrix times x
entry_times : (t : Bool) (x : ℤ) → one_if t *ℤ x ≡ only t x
entry_times true x = one-mul x
entry_times false x = zero-*ℤ x

-- ---- one branch: f and t are its entries for a bus, b its susceptance where it is in service, δ its angle difference, s its shift
branch_term : (f t b δ s D : ℤ) → (f -ℤ t) *ℤ (b *ℤ δ) +ℤ D *ℤ ((f -ℤ t) *ℤ neg_ℤ (b *ℤ s)) ≡ f *ℤ (b *ℤ (δ -ℤ s *ℤ D)) -ℤ t *ℤ (b *ℤ (δ -ℤ s *ℤ D))
branch_term f t b δ s D =
    let f' = var 0 in let t' = var 1 in let b' = var 2 in let δ' = var 3 in let s' = var 4 in let d' = var 5 in
    let flow = mul b' (sub δ' (mul s' d')) in
    ring (add (mul (sub f' t') (mul b' δ')) (mul d' (mul (sub f' t') (neg (mul b' s'))))) (sub (mul f' flow) (mul t' flow)) (f ∷ (t ∷ (b ∷ (δ ∷ (s ∷ (D ∷ [])))))) tt

-- an entry times what a branch carries, which is nothing out of service
carried : (t on : Bool) (b x : ℤ) → one_if t *ℤ (only on b *ℤ x) ≡ only t (only on (b *ℤ x))
carried t true b x = entry_times t (b *ℤ x)
carried t false b x = ap (λ y. one_if t *ℤ y) (zero-*ℤ x) ∙ entry_times t (pos 0)

module _ (θ : ℕ → ℤ) (D : ℤ) (n : ℕ) where
  branch_parts : (r : Branch) → incidence r n *ℤ (susceptance_of r *ℤ differenceᶻ θ r) +ℤ D *ℤ (incidence r n *ℤ neg_ℤ (susceptance_of r *ℤ r.shift.0)) ≡ only (eqb r.ends.from n) (flowᶻ θ D r) -ℤ only (eqb r.ends.to n) (flowᶻ θ D r)
  unfolding flowᶻ
  branch_parts r =
      let across = differenceᶻ θ r -ℤ r.shift.0 *ℤ D in
      branch_term (one_if (eqb r.ends.from n)) (one_if (eqb r.ends.to n)) (susceptance_of r) (differenceᶻ θ r) r.shift.0 D
      ∙ (λ i. carried (eqb r.ends.from n) r.service r.susceptance across i -ℤ carried (eqb r.ends.to n) r.service r.susceptance across i)

  -- all branches
  branch_rows : (rs : List Branch) → total (λ (r : Branch). incidence r n *ℤ (susceptance_of r *ℤ differenceᶻ θ r)) rs +ℤ D *ℤ total (λ (r : Branch). incidence r n *ℤ neg_ℤ (susceptance_of r *ℤ r.shift.0)) rs ≡ leavingᶻ rs θ D n -ℤ arrivingᶻ rs θ D n
  unfolding leavingᶻ arrivingᶻ
  branch_rows rs =
      let drawn : Branch → ℤ = λ r. incidence r n *ℤ (susceptance_of r *ℤ differenceᶻ θ r) in
      let shifted : Branch → ℤ = λ r. incidence r n *ℤ neg_ℤ (susceptance_of r *ℤ r.shift.0) in
      let out : Branch → ℤ = λ r. only (eqb r.ends.from n) (flowᶻ θ D r) in
      let into : Branch → ℤ = λ r. only (eqb r.ends.to n) (flowᶻ θ D r) in
      ap (λ x. total drawn rs +ℤ x) (sym (total-mul D shifted rs))
      ∙ sym (total_add drawn (λ r. D *ℤ shifted r) rs)
      ∙ total_same (λ r. drawn r +ℤ D *ℤ shifted r) (λ r. out r -ℤ into r) rs (λ r k. branch_parts r)
      ∙ total_sub out into rs

-- ---- the angles of all buses, by the incidence of a branch, are its angle difference
incident : (θ : ℕ → ℤ) (bs : List Bus) (r : Branch) → ((i : ℕ) → length bs ≤ i → θ i ≡ pos 0) → total (λ (b : Row Bus). incidence r b.row *ℤ θ b.row) (rows bs) ≡ differenceᶻ θ r
incident θ bs r beyond =
    let share : ℕ → Row Bus → ℤ = λ n b. θ b.row *ℤ one_if (eqb n b.row) in
    total_same (λ (b : Row Bus). incidence r b.row *ℤ θ b.row) (λ b. share r.ends.from b -ℤ share r.ends.to b) (rows bs) (λ b k. ring (mul (sub (var 0) (var 1)) (var 2)) (sub (mul (var 2) (var 0)) (mul (var 2) (var 1))) (one_if (eqb r.ends.from b.row) ∷ (one_if (eqb r.ends.to b.row) ∷ (θ b.row ∷ []))) tt)
    ∙ total_sub (share r.ends.from) (share r.ends.to) (rows bs)
    ∙ (λ i. (gather_one θ r.ends.from (pos 1) bs beyond ∙ mul_one (θ r.ends.from)) i -ℤ (gather_one θ r.ends.to (pos 1) bs beyond ∙ mul_one (θ r.ends.to)) i)

-- ---- both sides over D
-- R + D S is what leaves less what arrives; w the demand, I₁ and I₂ the injections, O and A the flows leaving and arriving
turned : (R S w I₁ I₂ O A D : ℤ) → R +ℤ D *ℤ S ≡ O -ℤ A → R +ℤ S *ℤ D +ℤ w *ℤ D -ℤ (I₁ +ℤ I₂) ≡ neg_ℤ (pos 1) *ℤ (I₁ +ℤ I₂ -ℤ w *ℤ D -ℤ O +ℤ A)
turned R S w I₁ I₂ O A D e =
    let d = var 4 in let w' = var 5 in let i₁ = var 6 in let i₂ = var 7 in
    ring (sub (add (add (var 0) (mul (var 1) d)) (mul w' d)) (add i₁ i₂)) (sub (add (add (var 0) (mul d (var 1))) (mul w' d)) (add i₁ i₂)) (R ∷ (S ∷ (O ∷ (A ∷ (D ∷ (w ∷ (I₁ ∷ (I₂ ∷ [])))))))) tt
    ∙ ap (λ x. x +ℤ w *ℤ D -ℤ (I₁ +ℤ I₂)) e
    ∙ ring (sub (add (sub (var 2) (var 3)) (mul w' d)) (add i₁ i₂)) (mul (con (neg_ℤ (pos 1))) (add (sub (sub (add i₁ i₂) (mul w' d)) (var 2)) (var 3))) (R ∷ (S ∷ (O ∷ (A ∷ (D ∷ (w ∷ (I₁ ∷ (I₂ ∷ [])))))))) tt

over_row : {M : Type 0} (D : ℕ) (g : Group M) (p : ℕ → Fraction) (x : ℕ → ℤ) → PowersOver D g p x → (n : ℕ) → Over D (injection_row g p n) (injectionᶻ g x n)
unfolding injection_row injectionᶻ
over_row {M} D g p x powers n =
    over_total D (λ (r : Row M). machine_entry g n r ·ᶠ p r.row) (λ (r : Row M). only (eqb (g.place r.row) n) (x r.row)) (rows g.machines)
    (λ r k. rw (← entry_times (eqb (g.place r.row) n) (x r.row)) (over_times D (machine_entry g n r) (p r.row) (x r.row) (powers r k)))

module _ {M N : Type 0} (c : Case M N) (d : Dispatch) (D : ℕ) (θ p₁ p₂ : ℕ → ℤ) (angles : AnglesOver c d D θ) (beyond : (i : ℕ) → length c.buses ≤ i → θ i ≡ pos 0) (first : PowersOver D c.first d.first p₁) (second : PowersOver D c.second d.second p₂) where
  over_from_flow : (r : Branch) → Over D (from_flow c d r) (susceptance_of r *ℤ differenceᶻ θ r)
  unfolding from_flow
  over_from_flow r =
      rw (← incident θ c.buses r beyond)
      (over_times D (susceptance_of r) _ _
      (over_total D (λ (b : Row Bus). incidence r b.row ·ᶠ angle c d b.row) (λ (b : Row Bus). incidence r b.row *ℤ θ b.row) (rows c.buses)
      (λ b k. over_times D (incidence r b.row) (angle c d b.row) (θ b.row) (angles b.row))))

  over_bus_row : (n : ℕ) → Over D (bus_row c d n) (total (λ (r : Branch). incidence r n *ℤ (susceptance_of r *ℤ differenceᶻ θ r)) c.branches)
  unfolding bus_row
  over_bus_row n =
      over_total D (λ (r : Branch). incidence r n ·ᶠ from_flow c d r) (λ (r : Branch). incidence r n *ℤ (susceptance_of r *ℤ differenceᶻ θ r)) c.branches
      (λ r k. over_times D (incidence r n) (from_flow c d r) (susceptance_of r *ℤ differenceᶻ θ r) (over_from_flow r))

  over_nodal : (b : Row Bus) → Over D (nodal c d b) (neg_ℤ (pos 1) *ℤ mismatchᶻ c θ p₁ p₂ (pos D) b)
  unfolding nodal mismatchᶻ shift_row
  over_nodal b =
      let n = b.row in
      let drawn = total (λ (r : Branch). incidence r n *ℤ (susceptance_of r *ℤ differenceᶻ θ r)) c.branches in
      let shifted = total (λ (r : Branch). incidence r n *ℤ neg_ℤ (susceptance_of r *ℤ r.shift.0)) c.branches in
      rw (← turned drawn shifted b.item.demand.0 (injectionᶻ c.first p₁ n) (injectionᶻ c.second p₂ n) (leavingᶻ c.branches θ (pos D) n) (arrivingᶻ c.branches θ (pos D) n) (pos D) (branch_rows θ (pos D) n c.branches))
      (over_sub D _ _ _ _
      (over_add D _ _ _ _ (over_add D _ _ _ _ (over_bus_row n) (over_whole D shifted)) (over_whole D b.item.demand.0))
      (over_add D _ _ _ _ (over_row D c.first d.first p₁ first n) (over_row D c.second d.second p₂ second n)))

pub balance_is_nodal : {M N : Type 0} → NodalTheorem M N
balance_is_nodal c d b =
    let D = denominator c d [] in
    let θ = busᶻ c d [] in
    let p₁ = powerᶻ₁ c d [] in
    let p₂ = powerᶻ₂ c d [] in
    let angles = angles_over c d [] in
    let first = first_over c d [] in
    let second = second_over c d [] in
    over_same D (denominator_positive c d []) (nodal c d b) (neg_ℤ (pos 1) ·ᶠ mismatch c d b) (neg_ℤ (pos 1) *ℤ mismatchᶻ c θ p₁ p₂ (pos D) b)
    (over_nodal c d D θ p₁ p₂ angles (angle_beyond (length c.buses) (λ i. scaled D (d.angles i))) first second b)
    (over_times D (neg_ℤ (pos 1)) (mismatch c d b) (mismatchᶻ c θ p₁ p₂ (pos D) b) (over_mismatch c d D θ p₁ p₂ angles first second b))
