-- Sums over the bus rows: what balances within ±E D at each bus is worth at least -E D Σ |price|, and angles within ±B move at least
-- -B Σ |residue|.
use Rattle.std.proofs.Common.{◌≡◌, ℕ, List, [], ◌∷◌, ℤ, pos, ◌+ℤ◌, ◌-ℤ◌, ◌*ℤ◌, neg_ℤ, ◌≤ℤ◌, ap, ◌∙◌, arith}
use lib.IntN.{zero-*ℤ, *ℤ-zero, *ℤ_comm}
use Rattle.measure.specs.Range.{∣◌∣}
use Rattle.measure.specs.Rows.{Row, numbered, rows, total}
use Rattle.measure.proofs.Laws.{lin, mul_add}
use Rattle.measure.proofs.Ring.{ring, var, add, sub, mul}
use Rattle.measure.proofs.Order.{abs_bound, along}
use Rattle.measure.proofs.Sums.{In, here, there, total-le, total_add, total_sub, total-neg, total-mul}
use Rattle.network.specs.declared.bus.Bus.{Bus}
use Rattle.network.specs.Floor.{others}

-- ---- balance
-- one bus: l its price, i₁ i₂ the injections, d the demand, o and a the flows leaving and arriving, in all within ±E D
bus_low : (l i₁ i₂ d o a E D : ℤ) → (neg_ℤ (E *ℤ D) ≤ℤ (i₁ +ℤ i₂ -ℤ d *ℤ D -ℤ o +ℤ a)) × ((i₁ +ℤ i₂ -ℤ d *ℤ D -ℤ o +ℤ a) ≤ℤ (E *ℤ D)) → neg_ℤ ((E *ℤ D) *ℤ ∣ l ∣) ≤ℤ (l *ℤ i₁ +ℤ l *ℤ i₂ -ℤ D *ℤ (l *ℤ d) -ℤ l *ℤ o +ℤ l *ℤ a)
bus_low l i₁ i₂ d o a E D w =
    rw (*ℤ_comm (E *ℤ D) ∣ l ∣, ← ring (mul (var 0) (add (sub (sub (add (var 1) (var 2)) (mul (var 3) (var 4))) (var 5)) (var 6))) (add (sub (sub (add (mul (var 0) (var 1)) (mul (var 0) (var 2))) (mul (var 4) (mul (var 0) (var 3)))) (mul (var 0) (var 5))) (mul (var 0) (var 6))) (l ∷ (i₁ ∷ (i₂ ∷ (d ∷ (D ∷ (o ∷ (a ∷ []))))))) tt)
    (abs_bound l (i₁ +ℤ i₂ -ℤ d *ℤ D -ℤ o +ℤ a) (E *ℤ D) w.0 w.1)

split : {X : Type 0} (f₁ f₂ f₃ f₄ f₅ : X → ℤ) (xs : List X) → total (λ x. f₁ x +ℤ f₂ x -ℤ f₃ x -ℤ f₄ x +ℤ f₅ x) xs ≡ total f₁ xs +ℤ total f₂ xs -ℤ total f₃ xs -ℤ total f₄ xs +ℤ total f₅ xs
split f₁ f₂ f₃ f₄ f₅ xs =
    total_add (λ x. f₁ x +ℤ f₂ x -ℤ f₃ x -ℤ f₄ x) f₅ xs
    ∙ ap (λ s. s +ℤ total f₅ xs) (total_sub (λ x. f₁ x +ℤ f₂ x -ℤ f₃ x) f₄ xs
    ∙ ap (λ s. s -ℤ total f₄ xs) (total_sub (λ x. f₁ x +ℤ f₂ x) f₃ xs
    ∙ ap (λ s. s -ℤ total f₃ xs) (total_add f₁ f₂ xs)))

-- L the prices, I₁ I₂ the injections, O and A the flows leaving and arriving, by bus row
module _ (L I₁ I₂ O A : ℕ → ℤ) (D : ℤ) where
  abbrev pub excess : Row Bus → ℤ
  excess b = I₁ b.row +ℤ I₂ b.row -ℤ b.item.demand.0 *ℤ D -ℤ O b.row +ℤ A b.row

  abbrev priced : (ℕ → ℤ) → Row Bus → ℤ
  priced y b = L b.row *ℤ y b.row

  abbrev demanded : Row Bus → ℤ
  demanded b = L b.row *ℤ b.item.demand.0

  pub buses_low : (E : ℤ) (bs : List (Row Bus)) → ((b : Row Bus) → In b bs → (neg_ℤ (E *ℤ D) ≤ℤ excess b) × (excess b ≤ℤ (E *ℤ D))) → neg_ℤ ((E *ℤ D) *ℤ total (λ (b : Row Bus). ∣ L b.row ∣) bs) ≤ℤ (total (priced I₁) bs +ℤ total (priced I₂) bs -ℤ D *ℤ total demanded bs -ℤ total (priced O) bs +ℤ total (priced A) bs)
  buses_low E bs h =
      let drawn : Row Bus → ℤ = λ b. D *ℤ demanded b in
      let each = total-le (λ (b : Row Bus). neg_ℤ ((E *ℤ D) *ℤ ∣ L b.row ∣)) (λ (b : Row Bus). priced I₁ b +ℤ priced I₂ b -ℤ drawn b -ℤ priced O b +ℤ priced A b) bs (λ b k. bus_low (L b.row) (I₁ b.row) (I₂ b.row) b.item.demand.0 (O b.row) (A b.row) E D (h b k)) in
      let e₁ = total-neg (λ (b : Row Bus). (E *ℤ D) *ℤ ∣ L b.row ∣) bs ∙ ap neg_ℤ (total-mul (E *ℤ D) (λ (b : Row Bus). ∣ L b.row ∣) bs) in
      let e₂ = split (priced I₁) (priced I₂) drawn (priced O) (priced A) bs ∙ ap (λ s. total (priced I₁) bs +ℤ total (priced I₂) bs -ℤ s -ℤ total (priced O) bs +ℤ total (priced A) bs) (total-mul D demanded bs) in
      along e₁ e₂ each

-- ---- angles
-- θ the angles within ±B, ρ the residues, by bus row; the reference's angle is 0
module _ (θ ρ : ℕ → ℤ) (B : ℤ) where
  abbrev pub Bounded : List (Row Bus) → Type 0
  Bounded bs = (b : Row Bus) → In b bs → (neg_ℤ B ≤ℤ θ b.row) × (θ b.row ≤ℤ B)

  spread : (bs : List (Row Bus)) → Bounded bs → neg_ℤ (B *ℤ total (λ (b : Row Bus). ∣ ρ b.row ∣) bs) ≤ℤ total (λ (b : Row Bus). θ b.row *ℤ ρ b.row) bs
  unfolding total
  spread [] h = omega (arith, lin, *ℤ-zero B)
  spread (b ∷ bs) h =
      let n = b.row in
      let low = spread bs (λ y k. h y (there k)) in
      let w = h b here in
      let p = abs_bound (ρ n) (θ n) B w.0 w.1 in
      let m = mul_add B ∣ ρ n ∣ (total (λ (b : Row Bus). ∣ ρ b.row ∣) bs) in
      omega (arith, lin, *ℤ_comm (θ n) (ρ n), *ℤ_comm ∣ ρ n ∣ B)

  pub angles_low : (bs : List Bus) → θ 0 ≡ pos 0 → Bounded (rows bs) → neg_ℤ (B *ℤ total (λ (b : Row Bus). ∣ ρ b.row ∣) (others (rows bs))) ≤ℤ total (λ (b : Row Bus). θ b.row *ℤ ρ b.row) (rows bs)
  unfolding total numbered
  angles_low [] reference h = omega (arith, lin, *ℤ-zero B)
  angles_low (b ∷ bs) reference h =
      let low = spread (numbered 1 bs) (λ y k. h y (there k)) in
      let z = ap (λ y. y *ℤ ρ 0) reference ∙ zero-*ℤ (ρ 0) in
      omega (arith, lin)
