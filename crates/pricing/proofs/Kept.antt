-- A price list whose numbers outside their ranges count as 0: the sizes of its quantities.
use Rattle.std.proofs.Common.{◌≡◌, ℕ, ◌≤◌, cond, eqb, ltb, List, length, take, ℤ, pos, negsuc, ◌+ℤ◌, ◌-ℤ◌, ◌*ℤ◌, sym, refl, ap, ◌∙◌, subst, arith, lit<, w64, SFits, to_z, of_z}
use native.Mathlib.Decide.{dec_lt}
use lib.Signed.{non_neg, le_z}
use Rattle.std.proofs.lemmas.Int.{to_z-of_z}
use Rattle.std.proofs.lemmas.Bool.{cond_both, le-leb}
use Rattle.std.proofs.lemmas.List.{length-take}
use Rattle.measure.specs.Range.{Within, ∣◌∣}
use Rattle.measure.specs.Rows.{Row, rows, total, only, row_value}
use Rattle.measure.proofs.Laws.{lin}
use Rattle.measure.proofs.Order.{product_within, kept-within}
use Rattle.measure.proofs.Sizes.{fits}
use Rattle.measure.proofs.Sums.{total_sub, row_past, row_is}
use Rattle.network.specs.declared.bus.Bus.{Bus}
use Rattle.network.specs.declared.branch.Branch.{Branch}
use Rattle.network.specs.Ranges.{Weighed, Stretched, Charged, Worth}
use Rattle.network.specs.Model.{Case}
use Rattle.network.specs.Floor.{Prices, price, weight, pull, residue, angle_charge}
use Rattle.network.proofs.Flows.{price_beyond}
use Rattle.pricing.specs.Kept.{kept_price, kept_angle_price, kept_weight, kept_residue, kept_prices, share, kept_charge, bus_worth, price_size}
use Rattle.measure.proofs.Order.{only-within}

-- a number that equals one that fits
pub fits_as : {a b : ℤ} → a ≡ b → SFits w64 b → SFits w64 a
fits_as e f = subst (SFits w64) (sym e) f

pub passed_as : {a b : ℤ} → a ≡ b → SFits w64 b → to_z w64 (of_z w64 a) ≡ b
passed_as {a} {b} e f = to_z-of_z w64 a (fits_as e f) ∙ e

-- the numbers of a branch fit 64 bits
module _ (r : Branch) where
  pub susceptance_fits : SFits w64 r.susceptance
  susceptance_fits = fits 1000000 r.susceptance (lit< tt) (omega (arith, lin, r.susceptible))

  pub shift_fits : SFits w64 r.shift.0
  shift_fits = fits 1600000 r.shift.0 (lit< tt) r.shifted

  pub rating_fits : SFits w64 r.rating.0
  rating_fits = fits 100000000 r.rating.0 (lit< tt) (omega (arith, lin, r.rated))

pub record WeighedSizes (b f t μ : ℤ) : Type 0 where
  pub apart : SFits w64 (f -ℤ t)
  pub sum : SFits w64 (f -ℤ t +ℤ μ)
  pub product : SFits w64 (b *ℤ (f -ℤ t +ℤ μ))
  pub within : Within 3000000000000 (b *ℤ (f -ℤ t +ℤ μ))

pub weighed_sizes : (b f t μ : ℤ) → Weighed b f t μ → WeighedSizes b f t μ
weighed_sizes b f t μ h =
    let a : Within 2000000 (f -ℤ t) = omega (arith, lin, h.from_price, h.to_price) in
    let s : Within 3000000 (f -ℤ t +ℤ μ) = omega (arith, lin, h.congestion) in
    let p = product_within 1000000 3000000 b (f -ℤ t +ℤ μ) h.susceptance s in
    record { apart = fits 2000000 _ (lit< tt) a; sum = fits 3000000 _ (lit< tt) s; product = fits 3000000000000 _ (lit< tt) p; within = p }

module _ {M N : Type 0} (c : Case M N) (q : Prices) where
  pub price_within : (i : ℕ) → Within 1000000 (price c (kept_prices q) i)
  unfolding price
  price_within i = only-within 1000000 (ltb i (length c.buses)) (kept_price (q.bus i)) (kept-within 1000000 (q.bus i))

  pub weighed_by : (r : Row Branch) → Weighed r.item.susceptance (price c (kept_prices q) r.item.ends.from) (price c (kept_prices q) r.item.ends.to) (kept_price (q.congestion r.row))
  weighed_by r =
      record {
        susceptance = omega (arith, lin, r.item.susceptible);
        from_price = price_within r.item.ends.from;
        to_price = price_within r.item.ends.to;
        congestion = kept-within 1000000 (q.congestion r.row);
      }

  pub weight_within : (r : Row Branch) → Within 3000000000000 (weight c (kept_prices q) r)
  unfolding weight
  weight_within r = (weighed_sizes _ _ _ _ (weighed_by r)).within

  pub pulled_within : (r : Row Branch) → Within 3000100000000 (weight c (kept_prices q) r +ℤ (kept_prices q).angle r.row)
  pulled_within r =
      let w = weight_within r in
      let a = kept-within 100000000 (q.angle r.row) in
      (omega (arith, lin, w.0, a.0), omega (arith, lin, w.1, a.1))

  pub pull_within : (r : Row Branch) → Within 3000100000000 (pull c (kept_prices q) r)
  unfolding pull
  pull_within r = only-within 3000100000000 r.item.service _ (pulled_within r)

  pub share_within : (n : ℕ) (r : Row Branch) → Within 6000200000000 (share c (kept_prices q) n r)
  unfolding share
  share_within n r =
      let f = only-within 3000100000000 (eqb r.item.ends.from n) _ (pull_within r) in
      let t = only-within 3000100000000 (eqb r.item.ends.to n) _ (pull_within r) in
      (omega (arith, lin, f.0, t.1), omega (arith, lin, f.1, t.0))

-- the residue of a bus is the sum of what the branches add to it
pub residue-shares : {M N : Type 0} (c : Case M N) (q : Prices) (n : ℕ) → total (share c q n) (rows c.branches) ≡ residue c q n
unfolding share residue
residue-shares c q n =
    total_sub (λ (r : Row Branch). only (eqb r.item.ends.from n) (pull c q r)) (λ (r : Row Branch). only (eqb r.item.ends.to n) (pull c q r)) (rows c.branches)

-- ---- charges
pub abs_within : (n : ℕ) (z : ℤ) → Within n z → Within n ∣ z ∣
abs_within n (pos m) h = h
abs_within n (negsuc m) h = (omega (arith, lin), omega (arith, lin))

-- the test of the sign
pub not_negative : (z : ℤ) → le_z (pos 0) z ≡ non_neg z
not_negative (pos n) = le-leb 0 n (omega arith)
not_negative (negsuc n) = refl

pub record StretchedSizes (ν low high : ℤ) : Type 0 where
  pub above : SFits w64 (ν *ℤ high)
  pub below : SFits w64 (ν *ℤ low)
  pub within : Within 640000000000000 (cond (non_neg ν) (ν *ℤ high) (ν *ℤ low))

pub stretched_sizes : (ν low high : ℤ) → Stretched ν low high → StretchedSizes ν low high
stretched_sizes ν low high h =
    let a = product_within 100000000 6400000 ν high h.price h.high_limit in
    let b = product_within 100000000 6400000 ν low h.price h.low_limit in
    record {
      above = fits 640000000000000 _ (lit< tt) a;
      below = fits 640000000000000 _ (lit< tt) b;
      within = cond_both (non_neg ν) (ν *ℤ high) (ν *ℤ low) (Within 640000000000000) (λ e. a) (λ e. b);
    }

pub record ChargedSizes (k s μ F h : ℤ) : Type 0 where
  pub shifted : SFits w64 (k *ℤ s)
  pub size : SFits w64 ∣ μ ∣
  pub rated : SFits w64 (∣ μ ∣ *ℤ F)
  pub both : SFits w64 (k *ℤ s +ℤ ∣ μ ∣ *ℤ F)
  pub sum : SFits w64 (k *ℤ s +ℤ ∣ μ ∣ *ℤ F +ℤ h)
  pub within : Within 16740000000000000 (k *ℤ s +ℤ ∣ μ ∣ *ℤ F +ℤ h)

pub charged_sizes : (k s μ F h : ℤ) → Charged k s μ F h → ChargedSizes k s μ F h
charged_sizes k s μ F h r =
    let p = product_within 10000000000 1600000 k s r.weight r.shift in
    let a = abs_within 1000000 μ r.congestion in
    let q = product_within 1000000 100000000 ∣ μ ∣ F a r.rating in
    let b : Within 16100000000000000 (k *ℤ s +ℤ ∣ μ ∣ *ℤ F) = (omega (arith, lin, p.0, q.0), omega (arith, lin, p.1, q.1)) in
    let w : Within 16740000000000000 (k *ℤ s +ℤ ∣ μ ∣ *ℤ F +ℤ h) = (omega (arith, lin, b.0, r.angle.0), omega (arith, lin, b.1, r.angle.1)) in
    record {
      shifted = fits 16000000000000000 _ (lit< tt) p;
      size = fits 1000000 _ (lit< tt) a;
      rated = fits 100000000000000 _ (lit< tt) q;
      both = fits 16100000000000000 _ (lit< tt) b;
      sum = fits 16740000000000000 _ (lit< tt) w;
      within = w;
    }

pub record WorthSizes (l d ρ : ℤ) : Type 0 where
  pub demanded : SFits w64 (l *ℤ d)
  pub size : SFits w64 ∣ ρ ∣
  pub turned : SFits w64 (pos 3200000 *ℤ ∣ ρ ∣)
  pub sum : SFits w64 (l *ℤ d -ℤ pos 3200000 *ℤ ∣ ρ ∣)
  pub within : Within 3300000000000000 (l *ℤ d -ℤ pos 3200000 *ℤ ∣ ρ ∣)

pub worth_sizes : (l d ρ : ℤ) → Worth l d ρ → WorthSizes l d ρ
worth_sizes l d ρ h =
    let p = product_within 1000000 100000000 l d h.price h.demand in
    let z = abs_within 1000000000 ρ h.residue in
    let r = product_within 3200000 1000000000 (pos 3200000) ∣ ρ ∣ (omega (arith, lin), omega (arith, lin)) z in
    let w : Within 3300000000000000 (l *ℤ d -ℤ pos 3200000 *ℤ ∣ ρ ∣) = (omega (arith, lin, p.0, r.1), omega (arith, lin, p.1, r.0)) in
    record {
      demanded = fits 100000000000000 _ (lit< tt) p;
      size = fits 1000000000 _ (lit< tt) z;
      turned = fits 3200000000000000 _ (lit< tt) r;
      sum = fits 3300000000000000 _ (lit< tt) w;
      within = w;
    }

module _ {M N : Type 0} (c : Case M N) (q : Prices) where
  pub stretched_by : (r : Row Branch) → Stretched (kept_angle_price (q.angle r.row)) r.item.angmin.0 r.item.angmax.0
  stretched_by r =
      record { price = kept-within 100000000 (q.angle r.row); low_limit = r.item.limited.0; high_limit = r.item.limited.1 }

  pub charged_by : (r : Row Branch) → Charged (kept_weight (weight c (kept_prices q) r)) r.item.shift.0 (kept_price (q.congestion r.row)) r.item.rating.0 (angle_charge c (kept_prices q) r)
  unfolding angle_charge
  charged_by r =
      record {
        weight = kept-within 10000000000 (weight c (kept_prices q) r);
        shift = r.item.shifted;
        congestion = kept-within 1000000 (q.congestion r.row);
        rating = omega (arith, lin, r.item.rated);
        angle = (stretched_sizes _ _ _ (stretched_by r)).within;
      }

  pub charge_within : (r : Row Branch) → Within 16740000000000000 (kept_charge c (kept_prices q) r)
  unfolding kept_charge
  charge_within r = only-within 16740000000000000 r.item.service _ (charged_sizes _ _ _ _ _ (charged_by r)).within

  -- the residue that a bus is charged for
  abbrev pub charged_residue : ℕ → ℤ
  charged_residue i = only (ltb 0 i) (kept_residue (residue c (kept_prices q) i))

  pub worth_by : (b : Row Bus) → Worth (price c (kept_prices q) b.row) b.item.demand.0 (charged_residue b.row)
  worth_by b =
      record {
        price = price_within c q b.row;
        demand = b.item.ok.1;
        residue = only-within 1000000000 (ltb 0 b.row) _ (kept-within 1000000000 (residue c (kept_prices q) b.row));
      }

  pub worth_within : (b : Row Bus) → Within 3300000000000000 (bus_worth c (kept_prices q) b)
  unfolding bus_worth
  worth_within b = (worth_sizes _ _ _ (worth_by b)).within

  pub price_size_within : (b : Row Bus) → Within 1000000 (price_size c (kept_prices q) b)
  price_size_within b = abs_within 1000000 (price c (kept_prices q) b.row) (price_within c q b.row)

  -- the size of a price is that of its bus's row, of the table that the case has its first buses from
  pub price_size_row : (bs : List Bus) (n i : ℕ) → c.buses ≡ take n bs → ∣ price c q i ∣ ≡ row_value (price_size c q) bs i
  price_size_row bs n i e =
      elim (dec_lt i (length bs)) [
        | yes m ↦ row_is (pos 0) (price_size c q) bs i _ m (λ x k. refl)
        | no m ↦
            let t = length-take n bs in
            let k = ap length e in
            let l : length c.buses ≤ i = omega arith in
            ap ∣◌∣ (price_beyond c q i l) ∙ sym (row_past (pos 0) (price_size c q) 0 bs i (omega arith))
      ]
