-- The laws of the ring of whole numbers, as rules for `simp` (`expand`, then `flat`); and `lin`, by which `omega` reads sums, orders and
-- tests of whole numbers with each product an unknown.
use Rattle.std.proofs.Common.{◌≡◌, ℕ, ◌+◌, ◌*◌, ℤ, pos, negsuc, ◌+ℤ◌, ◌*ℤ◌, neg_ℤ, sym, ap, ◌∙◌, arith}
use lib.IntN.{*ℤ_comm, +ℤ_comm, +ℤ_assoc}
use borrow.Author.Differences.{up, down, same_in, same_out, sum_is_lem, neg_is, product_is, ints, lt_out, le_out, below_in, at_most_in, Apart-out, le-true, le-false, lt-true, lt-false}

up_mul : (a b : ℤ) → up (a *ℤ b) ≡ up a * up b + down a * down b
up_mul a b = (product_is a b).0

down_mul : (a b : ℤ) → down (a *ℤ b) ≡ up a * down b + down a * up b
down_mul a b = (product_is a b).1

pub mul_assoc : (a b c : ℤ) → (a *ℤ b) *ℤ c ≡ a *ℤ (b *ℤ c)
mul_assoc a b c = same_in _ _ (simp (up_mul, down_mul) (omega arith))

pub mul_left_comm : (a b c : ℤ) → a *ℤ (b *ℤ c) ≡ b *ℤ (a *ℤ c)
mul_left_comm a b c = same_in _ _ (simp (up_mul, down_mul) (omega arith))

pub add_mul : (a b c : ℤ) → (a +ℤ b) *ℤ c ≡ a *ℤ c +ℤ b *ℤ c
add_mul a b c =
    same_in _ _ (simp (up_mul, down_mul) (omega (arith, sum_is_lem (a *ℤ c) (b *ℤ c), up_mul a c, down_mul a c, up_mul b c, down_mul b c, ap (λ (t : ℕ). t * up c) (sum_is_lem a b), ap (λ (t : ℕ). t * down c) (sum_is_lem a b))))

pub mul_add : (a b c : ℤ) → a *ℤ (b +ℤ c) ≡ a *ℤ b +ℤ a *ℤ c
mul_add a b c = *ℤ_comm a (b +ℤ c) ∙ add_mul b c a ∙ simp (*ℤ_comm b a, *ℤ_comm c a)

pub neg_mul : (a b : ℤ) → neg_ℤ a *ℤ b ≡ neg_ℤ (a *ℤ b)
neg_mul a b = same_in _ _ (omega (arith, up_mul (neg_ℤ a) b, down_mul (neg_ℤ a) b, up_mul a b, down_mul a b, neg_is (a *ℤ b), ap (λ (t : ℕ). t * up b) (neg_is a).0, ap (λ (t : ℕ). t * down b) (neg_is a).0, ap (λ (t : ℕ). t * up b) (neg_is a).1, ap (λ (t : ℕ). t * down b) (neg_is a).1))

pub mul_neg : (a b : ℤ) → a *ℤ neg_ℤ b ≡ neg_ℤ (a *ℤ b)
mul_neg a b = *ℤ_comm a (neg_ℤ b) ∙ neg_mul b a ∙ ap neg_ℤ (*ℤ_comm b a)

pub neg_add : (a b : ℤ) → neg_ℤ (a +ℤ b) ≡ neg_ℤ a +ℤ neg_ℤ b
neg_add a b = omega (arith, ints)

pub neg_neg : (a : ℤ) → neg_ℤ (neg_ℤ a) ≡ a
neg_neg a = omega (arith, ints)

pub mul_assoc_left : (a b c : ℤ) → a *ℤ (b *ℤ c) ≡ (a *ℤ b) *ℤ c
mul_assoc_left a b c = sym (mul_assoc a b c)

pub scaled : (a : ℤ) (k : ℕ) → (up (a *ℤ pos k) ≡ k * up a) × (down (a *ℤ pos k) ≡ k * down a)
scaled a k = omega (arith, up_mul a (pos k), down_mul a (pos k))

pub mul_one : (a : ℤ) → a *ℤ pos 1 ≡ a
mul_one a = same_in _ _ (omega (arith, up_mul a (pos 1), down_mul a (pos 1)))

pub one-mul : (a : ℤ) → pos 1 *ℤ a ≡ a
one-mul a = *ℤ_comm (pos 1) a ∙ mul_one a

pub add_left_comm : (a b c : ℤ) → a +ℤ (b +ℤ c) ≡ b +ℤ (a +ℤ c)
add_left_comm a b c = omega (arith, same_in, sum_is_lem)

pub minus_one_mul : (a : ℤ) → negsuc 0 *ℤ a ≡ neg_ℤ a
minus_one_mul a = omega (arith, same_in, product_is, neg_is)

-- multiplies out, and sorts each product: variables, then numerals
pub ruleset expand = (mul_one, one-mul, add_mul, mul_add, neg_mul, mul_neg, neg_add, neg_neg, mul_assoc, *ℤ_comm, mul_left_comm)

-- then brackets each product to the left, so that its numeral stands outside
pub ruleset flat = mul_assoc_left

-- sums, orders and multiples, with each other product an unknown
pub ruleset lin = (same_out, Apart-out, lt_out, le_out, le-true, le-false, lt-true, lt-false, same_in, below_in, at_most_in, sum_is_lem, neg_is, scaled)
