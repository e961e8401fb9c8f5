-- Ranges of whole numbers, sizes, and quotients rounded down and up.
use Rattle.std.specs.Prelude.{ℕ, Bool, cond, ◌&&◌, ℤ, pos, neg_ℤ, ◌≤ℤ◌, int_le, unsigned_abs}
use Rattle.std.specs.Int.{int_div_euclid}

-- -n ≤ z ≤ n
abbrev pub Within : ℕ → ℤ → Type 0
Within n z = (neg_ℤ (pos n) ≤ℤ z) × (z ≤ℤ pos n)

-- a test: a ≤ z ≤ b
abbrev pub between : ℤ → ℤ → ℤ → Bool
between a b z = int_le a z && int_le z b

-- z where it lies between a and b, else 0
abbrev pub kept : ℤ → ℤ → ℤ → ℤ
kept a b z = cond (between a b z) z (pos 0)

-- the size of a number
abbrev pub ∣◌∣ : ℤ → ℤ
∣ z ∣ = pos (unsigned_abs z)

-- a / d rounded down and up, for d above 0
abbrev pub floor_div : ℤ → ℤ → ℤ
floor_div a d = int_div_euclid a d

abbrev pub ceil_div : ℤ → ℤ → ℤ
ceil_div a d = neg_ℤ (int_div_euclid (neg_ℤ a) d)
