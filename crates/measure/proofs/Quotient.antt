-- Quotients rounded down and up.
use Rattle.std.proofs.Common.{ℕ, ◌<◌, ℤ, pos, negsuc, ◌+ℤ◌, ◌*ℤ◌, ◌≤ℤ◌, ◌<ℤ◌, div-le_self, div-mul-le_self, arith}
use native.Mathlib.Nat.{lt-div-mul-add}
use Rattle.measure.specs.Range.{Within, floor_div}
use Rattle.measure.proofs.Laws.{lin}

-- q d ≤ a < q d + d
pub floor_div-is : (a d : ℤ) → pos 1 ≤ℤ d → ((floor_div a d *ℤ d) ≤ℤ a) × (a <ℤ (floor_div a d *ℤ d +ℤ d))
floor_div-is (pos a) (pos d) h =
    let k : 0 < d = omega (arith, lin) in
    omega (arith, lin, div-mul-le_self a d, lt-div-mul-add {a = a} k)
floor_div-is (negsuc a) (pos d) h =
    let k : 0 < d = omega (arith, lin) in
    omega (arith, lin, div-mul-le_self a d, lt-div-mul-add {a = a} k)
floor_div-is a (negsuc d) h = absurd h.le

-- a quotient is no larger than what was divided
pub floor_div-within : (n : ℕ) (a d : ℤ) → pos 1 ≤ℤ d → Within n a → Within n (floor_div a d)
floor_div-within n (pos a) (pos d) h k = omega (arith, lin, div-le_self a d)
floor_div-within n (negsuc a) (pos d) h k = omega (arith, lin, div-le_self a d)
floor_div-within n a (negsuc d) h k = absurd h.le
