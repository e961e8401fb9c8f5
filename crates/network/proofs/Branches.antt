-- One branch, in whole numbers over a common denominator D: what its flow earns between the prices of its ends.
use Rattle.std.proofs.Common.{◌≡◌, zero, suc, Bool, true, false, cond, T, [], ◌∷◌, ℤ, pos, negsuc, ◌+ℤ◌, ◌-ℤ◌, ◌*ℤ◌, neg_ℤ, ◌≤ℤ◌, ◌<ℤ◌, refl, arith}
use lib.IntN.{zero-*ℤ, *ℤ-zero}
use lib.Signed.{non_neg}
use Rattle.measure.specs.Rows.{only}
use Rattle.measure.specs.Range.{∣◌∣}
use Rattle.measure.proofs.Ring.{ring, var, add, sub, mul, neg}
use Rattle.measure.proofs.Laws.{lin}
use Rattle.measure.proofs.Order.{mul_le, abs_above}

-- the congestion price times the flow is at most its size times the rating
pub congestion_bound : (μ x D F : ℤ) → pos 0 ≤ℤ F → (pos 0 <ℤ F → (neg_ℤ (F *ℤ D) ≤ℤ x) × (x ≤ℤ (F *ℤ D))) → (F ≡ pos 0 → μ ≡ pos 0) → (μ *ℤ x) ≤ℤ (D *ℤ (∣ μ ∣ *ℤ F))
congestion_bound μ x D (pos zero) h rated free =
    rw (free refl) (omega (arith, lin, zero-*ℤ x, *ℤ-zero D))
congestion_bound μ x D (pos (suc n)) h rated free =
    let w = rated (omega (arith, lin)) in
    let p = abs_above μ x (pos (suc n) *ℤ D) w.0 w.1 in
    let e = ring (mul (var 0) (mul (var 1) (var 2))) (mul (var 2) (mul (var 0) (var 1))) (∣ μ ∣ ∷ (pos (suc n) ∷ (D ∷ []))) tt in
    omega (arith, lin)
congestion_bound μ x D (negsuc n) h rated free = absurd h.le

-- the angle price times the angle difference is at most what it is at the limit
pub angle-bound : (ν u lo hi D : ℤ) → (lo *ℤ D) ≤ℤ u → u ≤ℤ (hi *ℤ D) → (ν *ℤ u) ≤ℤ (D *ℤ cond (non_neg ν) (ν *ℤ hi) (ν *ℤ lo))
angle-bound (pos n) u lo hi D low high =
    let p = mul_le (pos n) u (hi *ℤ D) (omega (arith, lin)) high in
    let e = ring (mul (var 0) (mul (var 1) (var 2))) (mul (var 2) (mul (var 0) (var 1))) (pos n ∷ (hi ∷ (D ∷ []))) tt in
    omega (arith, lin)
angle-bound (negsuc n) u lo hi D low high =
    let p = mul_le (pos (suc n)) (lo *ℤ D) u (omega (arith, lin)) low in
    let e : D *ℤ (negsuc n *ℤ lo) ≡ neg_ℤ (pos (suc n) *ℤ (lo *ℤ D)) = ring (mul (var 2) (mul (neg (var 0)) (var 1))) (neg (mul (var 0) (mul (var 1) (var 2)))) (pos (suc n) ∷ (lo ∷ (D ∷ []))) tt in
    let j : negsuc n *ℤ u ≡ neg_ℤ (pos (suc n) *ℤ u) = ring (mul (neg (var 0)) (var 1)) (neg (mul (var 0) (var 1))) (pos (suc n) ∷ (u ∷ [])) tt in
    omega (arith, lin)

-- b susceptance, s shift, L₁ L₂ the prices, T₁ T₂ the angles at its ends; a is what the congestion price is charged, and h the angle price
module _ (b s L₁ L₂ μ ν T₁ T₂ D : ℤ) where
  abbrev pub weight_of : ℤ
  weight_of = b *ℤ (L₁ -ℤ L₂ +ℤ μ)

  abbrev pub flow_of : ℤ
  flow_of = b *ℤ (T₁ -ℤ T₂ -ℤ s *ℤ D)

  -- f (L₁ - L₂) = (k + ν) δ - k s D - μ f - ν δ
  earned : L₁ *ℤ flow_of -ℤ L₂ *ℤ flow_of ≡ (weight_of +ℤ ν) *ℤ T₁ -ℤ (weight_of +ℤ ν) *ℤ T₂ -ℤ D *ℤ (weight_of *ℤ s) -ℤ μ *ℤ flow_of -ℤ ν *ℤ (T₁ -ℤ T₂)
  earned =
      let b' = var 0 in let s' = var 1 in let l₁ = var 2 in let l₂ = var 3 in let m = var 4 in let n = var 5 in let t₁ = var 6 in let t₂ = var 7 in let d = var 8 in
      let k = mul b' (add (sub l₁ l₂) m) in
      let f = mul b' (sub (sub t₁ t₂) (mul s' d)) in
      ring (sub (mul l₁ f) (mul l₂ f)) (sub (sub (sub (sub (mul (add k n) t₁) (mul (add k n) t₂)) (mul d (mul k s'))) (mul m f)) (mul n (sub t₁ t₂)))
      (b ∷ (s ∷ (L₁ ∷ (L₂ ∷ (μ ∷ (ν ∷ (T₁ ∷ (T₂ ∷ (D ∷ []))))))))) tt

  pub branch_low : (t : Bool) (a h : ℤ) → (T t → (μ *ℤ only t flow_of) ≤ℤ (D *ℤ a)) → (T t → (ν *ℤ (T₁ -ℤ T₂)) ≤ℤ (D *ℤ h)) → (T₁ *ℤ only t (weight_of +ℤ ν) -ℤ T₂ *ℤ only t (weight_of +ℤ ν) -ℤ D *ℤ only t (weight_of *ℤ s +ℤ a +ℤ h)) ≤ℤ (L₁ *ℤ only t flow_of -ℤ L₂ *ℤ only t flow_of)
  branch_low true a h p r =
      let p' = p tt in
      let r' = r tt in
      let e = ring (mul (var 0) (add (add (var 1) (var 2)) (var 3))) (add (add (mul (var 0) (var 1)) (mul (var 0) (var 2))) (mul (var 0) (var 3))) (D ∷ ((weight_of *ℤ s) ∷ (a ∷ (h ∷ [])))) tt in
      omega (arith, lin, earned, lib.IntN.*ℤ_comm T₁ (weight_of +ℤ ν), lib.IntN.*ℤ_comm T₂ (weight_of +ℤ ν))
  branch_low false a h p r = omega (arith, lin, *ℤ-zero T₁, *ℤ-zero T₂, *ℤ-zero D, *ℤ-zero L₁, *ℤ-zero L₂)
