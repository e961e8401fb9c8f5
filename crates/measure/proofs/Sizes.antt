-- Numbers within a bound fit 64 bits.
use Rattle.std.proofs.Common.{◌≡◌, ℕ, ◌*◌, ◌^◌, ◌<◌, ℤ, ◌*ℤ◌, ◌∙◌, arith, w64, SFits, to_z, of_z}
use borrow.Author.Differences.{ints}
use lib.Signed.{mag}
use Rattle.std.proofs.lemmas.Int.{to_z-of_z}
use Rattle.measure.specs.Range.{Within}
use Rattle.measure.proofs.Order.{product_within}

pub fits : (n : ℕ) (z : ℤ) → n < 2 ^ 63 → Within n z → SFits w64 z
fits n z l h = omega (arith, ints)

-- a product of a factor within ±m and one within ±n
pub product_fits : (m n : ℕ) (x y : ℤ) → m * n < 2 ^ 63 → Within m x → Within n y → SFits w64 (x *ℤ y)
product_fits m n x y l h k = fits (m * n) (x *ℤ y) l (product_within m n x y h k)

-- what a call returned, read in 64 bits, is what its clause says
pub gave : {z y : ℤ} → mag z < 2 ^ 63 → z ≡ y → to_z w64 (of_z w64 z) ≡ y
gave {z} h e = to_z-of_z w64 z (record { sfits = h }) ∙ e
