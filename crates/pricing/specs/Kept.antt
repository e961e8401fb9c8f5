-- The quantities of the floor at a price list whose numbers outside their ranges count as 0, so that no sum overflows; a list that has one
-- is refused before its floor is taken.
use Rattle.std.specs.Prelude.{ℕ, Bool, false, not, ◌&&◌, ◌||◌, ℤ, pos, negsuc, ◌+ℤ◌, ◌-ℤ◌, ◌*ℤ◌, neg_ℤ, ◌==◌, nat_lt}
use Rattle.measure.specs.Range.{between, kept, ∣◌∣}
use Rattle.measure.specs.Rows.{Row, rows, total, only}
use Rattle.machine.specs.Meaning.{Meaning}
use Rattle.machine.specs.Group.{total_margins}
use Rattle.network.specs.declared.bus.Bus.{Bus}
use Rattle.network.specs.declared.branch.Branch.{Branch}
use Rattle.network.specs.declared.prices.Prices as view
use Rattle.network.specs.Model.{Case, angle_limit}
use Rattle.network.specs.Floor.{Prices, price, weight, pull, residue, angle_charge}

-- the price list that three columns give
abbrev pub prices_of : {C : Type 0} → (C → ℕ → ℤ) → view.Prices C → Prices
prices_of value q =
    record { bus = value q.bus.column; congestion = value q.congestion.column; angle = value q.angle.column }

-- a price, an angle price, a weight or a residue, or 0 outside its range
abbrev pub kept_price : ℤ → ℤ
kept_price z = kept (neg_ℤ (pos 1000000)) (pos 1000000) z

abbrev pub kept_angle_price : ℤ → ℤ
kept_angle_price z = kept (neg_ℤ (pos 100000000)) (pos 100000000) z

abbrev pub kept_weight : ℤ → ℤ
kept_weight z = kept (neg_ℤ (pos 10000000000)) (pos 10000000000) z

abbrev pub kept_residue : ℤ → ℤ
kept_residue z = kept (neg_ℤ (pos 1000000000)) (pos 1000000000) z

abbrev pub kept_prices : Prices → Prices
kept_prices q =
    record {
      bus = λ i. kept_price (q.bus i);
      congestion = λ i. kept_price (q.congestion i);
      angle = λ i. kept_angle_price (q.angle i);
    }

module _ {M N : Type 0} (c : Case M N) (q : Prices) where
  -- what a branch adds to the residue of the bus in row n
  unfoldable pub share : ℕ → Row Branch → ℤ
  share n r = only (r.item.ends.from == n) (pull c q r) -ℤ only (r.item.ends.to == n) (pull c q r)

  -- k × s + |μ| × F + H of a branch in service
  unfoldable pub kept_charge : Row Branch → ℤ
  kept_charge r =
      only r.item.service (kept_weight (weight c q r) *ℤ r.item.shift.0 +ℤ ∣ q.congestion r.row ∣ *ℤ r.item.rating.0 +ℤ angle_charge c q r)

  -- what a bus adds to the floor: its price × its demand, less the angle limit × its residue's size; the last not at the reference
  unfoldable pub bus_worth : Row Bus → ℤ
  bus_worth b =
      price c q b.row *ℤ b.item.demand.0 -ℤ angle_limit *ℤ ∣ only (nat_lt 0 b.row) (kept_residue (residue c q b.row)) ∣

  -- the size of a bus's price
  abbrev pub price_size : Row Bus → ℤ
  price_size b = ∣ price c q b.row ∣

-- ---- the limits as tests
-- a price outside its range
abbrev pub bus_price_beyond : Prices → ℕ → Bool
bus_price_beyond q i = not (between (neg_ℤ (pos 1000000)) (pos 1000000) (q.bus i))

abbrev pub branch_price_beyond : Prices → ℕ → Bool
branch_price_beyond q i =
    not (between (neg_ℤ (pos 1000000)) (pos 1000000) (q.congestion i))
    || not (between (neg_ℤ (pos 100000000)) (pos 100000000) (q.angle i))

abbrev pub is_zero : ℤ → Bool
is_zero (pos n) = n == 0
is_zero (negsuc n) = false

-- a congestion price on a branch in service without a rating
abbrev pub unrated : Prices → Row Branch → Bool
unrated q r = r.item.service && is_zero r.item.rating.0 && not (is_zero (q.congestion r.row))

module _ {M N : Type 0} (c : Case M N) (q : Prices) where
  -- a branch in service whose weight is too large
  abbrev pub overweight : Row Branch → Bool
  overweight r = r.item.service && not (between (neg_ℤ (pos 10000000000)) (pos 10000000000) (weight c q r))

  -- a residue that is too large
  abbrev pub residue_beyond : ℕ → Bool
  residue_beyond i = not (between (neg_ℤ (pos 1000000000)) (pos 1000000000) (residue c q i))

module _ {M N : Type 0} (𝓜 : Meaning M) (𝓝 : Meaning N) where
  unfoldable pub kept_floor : Case M N → Prices → ℤ
  kept_floor c q =
      total_margins 𝓜 c.first.machines (λ i. price c q (c.first.place i))
      +ℤ total_margins 𝓝 c.second.machines (λ i. price c q (c.second.place i))
      +ℤ total (bus_worth c q) (rows c.buses)
      -ℤ c.tolerance *ℤ total (price_size c q) (rows c.buses)
      -ℤ total (kept_charge c q) (rows c.branches)
