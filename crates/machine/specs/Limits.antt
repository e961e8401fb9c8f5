-- The bus and the limits of a machine whose allowed powers are those from lo to hi: the name of its bus is 1 to 255, and its limits are within
-- ±100,000,000 and not crossed.
use Rattle.std.specs.Prelude.{ℕ, Bool, ◌&&◌, ℤ, pos, neg_ℤ, ◌≤ℤ◌, int_le, nat_le}
use Rattle.measure.specs.Range.{Within, between}

abbrev pub limits_in_range : ℕ → ℤ → ℤ → Bool
limits_in_range bus lo hi =
    nat_le 1 bus
    && nat_le bus 255
    && between (neg_ℤ (pos 100000000)) (pos 100000000) lo
    && between (neg_ℤ (pos 100000000)) (pos 100000000) hi
    && int_le lo hi

-- what that test tells of the limits
pub record Limits (lo hi : ℤ) : Type 0 where
  pub low : Within 100000000 lo
  pub high : Within 100000000 hi
  pub order : lo ≤ℤ hi
