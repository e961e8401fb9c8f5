-- The ranges and orders that every bus and every branch keeps, and below them the ranges within which sums and products stay inside 64 bits.
use Rattle.std.specs.Prelude.{ℕ, ◌≤◌, ℤ, ◌≤ℤ◌}
use Rattle.measure.specs.Range.{Within}
use Rattle.names.specs.Names as names

-- a number in a name: a bus or a circuit
abbrev pub NameRange : ℕ → Type 0
NameRange n = names.NameRange n

abbrev pub BusRanges : ℕ → ℤ → Type 0
BusRanges name demand = NameRange name × Within 100000000 demand

-- the limits of an angle difference, in order
abbrev pub Limits : ℤ → ℤ → Type 0
Limits low high = Within 6400000 low × Within 6400000 high × (low ≤ℤ high)

-- a susceptance, an angle difference and a shift
pub record Carried (b δ s : ℤ) : Type 0 where
  pub susceptance : Within 1000000 b
  pub difference : Within 6400000 δ
  pub shift : Within 1600000 s

-- what two groups give at a bus, its demand, and what flows out
pub record Nets (first second demand outflow : ℤ) : Type 0 where
  pub first_range : Within 25500000000 first
  pub second_range : Within 25500000000 second
  pub demand_range : Within 100000000 demand
  pub outflow_range : Within 4080000000000000 outflow

-- a susceptance, the prices at the two ends, and a congestion price
pub record Weighed (b from to μ : ℤ) : Type 0 where
  pub susceptance : Within 1000000 b
  pub from_price : Within 1000000 from
  pub to_price : Within 1000000 to
  pub congestion : Within 1000000 μ

-- an angle price, and the limits of an angle difference
pub record Stretched (ν low high : ℤ) : Type 0 where
  pub price : Within 100000000 ν
  pub low_limit : Within 6400000 low
  pub high_limit : Within 6400000 high

-- a weight, a shift, a congestion price, a rating, and what the angle price charges
pub record Charged (k s μ F h : ℤ) : Type 0 where
  pub weight : Within 10000000000 k
  pub shift : Within 1600000 s
  pub congestion : Within 1000000 μ
  pub rating : Within 100000000 F
  pub angle : Within 640000000000000 h

-- a bus price, a demand and a residue
pub record Worth (l d ρ : ℤ) : Type 0 where
  pub price : Within 1000000 l
  pub demand : Within 100000000 d
  pub residue : Within 1000000000 ρ

-- the margins of two groups, what the buses add, a tolerance, the sizes of the bus prices, and what the branches are charged
pub record Summed (first second buses : ℤ) (e : ℕ) (sizes charges : ℤ) : Type 0 where
  pub first_range : Within 255000000000000000 first
  pub second_range : Within 255000000000000000 second
  pub buses_range : Within 841500000000000000 buses
  pub tolerance : e ≤ 4294967295
  pub sizes_range : Within 255000000 sizes
  pub charges_range : Within 4268700000000000000 charges
