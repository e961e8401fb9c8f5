-- One group of machines over a denominator D: at any prices L by bus row, its true costs are at least D × its margins and the worth of what
-- it gives.
use Rattle.std.proofs.Common.{◌≡◌, ℕ, ◌≤◌, List, length, ℤ, pos, ◌+ℤ◌, ◌-ℤ◌, ◌*ℤ◌, ◌≤ℤ◌, sym, refl, ◌∙◌, arith}
use lib.IntN.{*ℤ_comm}
use Rattle.measure.specs.Range.{Within}
use Rattle.measure.specs.Fraction.{Fraction, whole, ◌-ᶠ◌, ◌·ᶠ◌}
use Rattle.measure.specs.Rows.{Row, rows, total, All}
use Rattle.measure.proofs.Laws.{lin}
use Rattle.measure.proofs.Order.{along}
use Rattle.measure.proofs.Sums.{In, look, total-le, total_add, total-mul, gather}
use Rattle.measure.proofs.Scale.{Over, over_whole, over_sub, over_times, over_total, over_le, scaled}
use Rattle.machine.specs.Meaning.{Meaning, Keeps}
use Rattle.machine.specs.Group.{total_margins, true_cost_of}
use Rattle.network.specs.declared.bus.Bus.{Bus}
use Rattle.network.specs.Model.{Group}
use Rattle.network.proofs.Scaled.{injectionᶻ, PowersOver}

-- the true cost of each machine at its power
abbrev pub cost_of : {M : Type 0} → Meaning M → (ℕ → Fraction) → Row M → Fraction
cost_of 𝓜 p r = 𝓜.true_cost r.item (p r.row)

module _ {M : Type 0} (𝓜 : Meaning M) (g : Group M) (p : ℕ → Fraction) (D : ℕ) where
  -- the true costs of the group, over D
  abbrev pub costᶻ : ℤ
  costᶻ = total (λ (r : Row M). scaled D (cost_of 𝓜 p r)) (rows g.machines)

  abbrev pub CostsOver : Type 0
  CostsOver = (r : Row M) → In r (rows g.machines) → Over D (cost_of 𝓜 p r) (scaled D (cost_of 𝓜 p r))

  pub over_cost : CostsOver → Over D (true_cost_of 𝓜 g.machines p) costᶻ
  over_cost costs = over_total D (cost_of 𝓜 p) (λ r. scaled D (cost_of 𝓜 p r)) (rows g.machines) costs

module _ {M : Type 0} (𝓜 : Meaning M) (keeps : Keeps 𝓜) (g : Group M) (p : ℕ → Fraction) (D : ℕ) (x : ℕ → ℤ) (L : ℕ → ℤ) where
  abbrev margin : Row M → ℤ
  margin r = 𝓜.margin r.item (L (g.place r.row))

  abbrev worth : Row M → ℤ
  worth r = L (g.place r.row) *ℤ x r.row

  module _ (powers : PowersOver D g p x) (costs : CostsOver 𝓜 g p D) (allowed : All (λ (r : Row M). 𝓜.Allowed r.item (p r.row)) (rows g.machines)) (range : (n : ℕ) → Within 1000000 (L n)) where
    -- one machine: margin + price × power is at most its cost
    machine_low : (r : Row M) → In r (rows g.machines) → (pos D *ℤ margin r +ℤ worth r) ≤ℤ scaled D (cost_of 𝓜 p r)
    machine_low r k =
        let q = L (g.place r.row) in
        let y = p r.row in
        let low = ((keeps r.item).margin_is q (range (g.place r.row))).below y (look (λ (r : Row M). 𝓜.Allowed r.item (p r.row)) r (rows g.machines) allowed k) in
        let h = over_le D (whole (margin r)) (cost_of 𝓜 p r -ᶠ q ·ᶠ y) (margin r *ℤ pos D) (scaled D (cost_of 𝓜 p r) -ℤ worth r) (over_whole D (margin r)) (over_sub D (cost_of 𝓜 p r) (q ·ᶠ y) (scaled D (cost_of 𝓜 p r)) (worth r) (costs r k) (over_times D q y (x r.row) (powers r k))) low in
        omega (arith, lin, *ℤ_comm (margin r) (pos D))

    pub group_low : (bs : List Bus) → ((i : ℕ) → length bs ≤ i → L i ≡ pos 0) → (pos D *ℤ total_margins 𝓜 g.machines (λ i. L (g.place i)) +ℤ total (λ (b : Row Bus). L b.row *ℤ injectionᶻ g x b.row) (rows bs)) ≤ℤ costᶻ 𝓜 g p D
    unfolding injectionᶻ
    group_low bs beyond =
        let each = total-le (λ (r : Row M). pos D *ℤ margin r +ℤ worth r) (λ (r : Row M). scaled D (cost_of 𝓜 p r)) (rows g.machines) machine_low in
        let e = total_add (λ (r : Row M). pos D *ℤ margin r) worth (rows g.machines) in
        let m = total-mul (pos D) margin (rows g.machines) in
        let w = gather L (λ (r : Row M). g.place r.row) (λ (r : Row M). x r.row) bs (rows g.machines) beyond in
        along (e ∙ (λ i. m i +ℤ sym w i)) refl each
