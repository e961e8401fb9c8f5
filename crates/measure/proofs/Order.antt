-- Products and the order of whole numbers.
use Rattle.std.proofs.Common.{◌≡◌, ℕ, suc, ◌*◌, ◌<◌, ◌≤◌, Bool, true, false, T, List, ℤ, pos, negsuc, ◌+ℤ◌, ◌-ℤ◌, ◌*ℤ◌, neg_ℤ, ◌≤ℤ◌, ◌<ℤ◌, sym, subst, mul-pos, arith}
use lib.IntN.{*ℤ_comm}
use lib.Signed.{le_z}
use Rattle.std.proofs.lemmas.Int.{by_lt_z}
use Rattle.std.proofs.lemmas.Bool.{and_parts, and_from, cond-true, cond_both}
use borrow.Author.Differences.{true_is_le, le_out}
use Rattle.measure.specs.Rows.{only}
use Rattle.measure.specs.Range.{Within, between, kept, ∣◌∣}
use Rattle.measure.proofs.Laws.{expand, lin, neg_mul, mul_neg}
use Rattle.measure.proofs.Ring.{ring, Expr, eval, norm, all_zero, sub}

pub mul_nonneg : (a b : ℤ) → pos 0 ≤ℤ a → pos 0 ≤ℤ b → pos 0 ≤ℤ (a *ℤ b)
mul_nonneg (pos a) (pos b) h k = omega (arith, lin)
mul_nonneg (pos a) (negsuc b) h k = absurd k.le
mul_nonneg (negsuc a) b h k = absurd h.le

pub square_nonneg : (a : ℤ) → pos 0 ≤ℤ (a *ℤ a)
square_nonneg (pos a) = omega (arith, lin)
square_nonneg (negsuc a) = omega (arith, lin)

pub mul_positive : (a b : ℤ) → pos 1 ≤ℤ a → pos 1 ≤ℤ b → pos 1 ≤ℤ (a *ℤ b)
mul_positive (pos a) (pos b) h k =
    let p : 0 < a = omega (arith, lin) in
    let q : 0 < b = omega (arith, lin) in
    omega (arith, lin, mul-pos p q)
mul_positive (pos a) (negsuc b) h k = absurd k.le
mul_positive (negsuc a) b h k = absurd h.le

pub mul_mono : (a b k : ℤ) → pos 0 ≤ℤ k → a ≤ℤ b → (a *ℤ k) ≤ℤ (b *ℤ k)
mul_mono a b k h l =
    let t : pos 0 ≤ℤ ((b -ℤ a) *ℤ k) = mul_nonneg (b -ℤ a) k (omega (arith, lin)) h in
    omega (arith, lin, simp expand at t)

pub mul_strict : (a b k : ℤ) → pos 1 ≤ℤ k → a <ℤ b → (a *ℤ k) <ℤ (b *ℤ k)
mul_strict a b k h l =
    let t : pos 1 ≤ℤ ((b -ℤ a) *ℤ k) = mul_positive (b -ℤ a) k (omega (arith, lin)) h in
    omega (arith, lin, simp expand at t)

pub mul_cancel : (a b k : ℤ) → pos 1 ≤ℤ k → (a *ℤ k) ≤ℤ (b *ℤ k) → a ≤ℤ b
mul_cancel a b k h l = by_lt_z b a (λ s. let t = mul_strict b a k h s in absurd (omega (arith, lin))) (λ s. s)

pub mul_cancel_eq : (a b k : ℤ) → pos 1 ≤ℤ k → a *ℤ k ≡ b *ℤ k → a ≡ b
mul_cancel_eq a b k h e =
    let s : a ≤ℤ b = mul_cancel a b k h (omega (arith, lin)) in
    let t : b ≤ℤ a = mul_cancel b a k h (omega (arith, lin)) in
    omega (arith, lin)

pub mul_cancel_strict : (a b k : ℤ) → pos 0 ≤ℤ k → (a *ℤ k) <ℤ (b *ℤ k) → a <ℤ b
mul_cancel_strict a b k h l = by_lt_z a b (λ s. s) (λ s. let t = mul_mono b a k h s in absurd (omega (arith, lin)))

-- a factor within ±m and a factor within ±n
pub product_between : (m n x y : ℤ) → neg_ℤ m ≤ℤ x → x ≤ℤ m → neg_ℤ n ≤ℤ y → y ≤ℤ n → (neg_ℤ (m *ℤ n) ≤ℤ (x *ℤ y)) × ((x *ℤ y) ≤ℤ (m *ℤ n))
product_between m n x y h h' k k' =
    let a : pos 0 ≤ℤ ((m -ℤ x) *ℤ (n +ℤ y)) = mul_nonneg (m -ℤ x) (n +ℤ y) (omega (arith, lin)) (omega (arith, lin)) in
    let b : pos 0 ≤ℤ ((m +ℤ x) *ℤ (n -ℤ y)) = mul_nonneg (m +ℤ x) (n -ℤ y) (omega (arith, lin)) (omega (arith, lin)) in
    let c : pos 0 ≤ℤ ((m -ℤ x) *ℤ (n -ℤ y)) = mul_nonneg (m -ℤ x) (n -ℤ y) (omega (arith, lin)) (omega (arith, lin)) in
    let d : pos 0 ≤ℤ ((m +ℤ x) *ℤ (n +ℤ y)) = mul_nonneg (m +ℤ x) (n +ℤ y) (omega (arith, lin)) (omega (arith, lin)) in
    (omega (arith, lin, simp expand at c, simp expand at d), omega (arith, lin, simp expand at a, simp expand at b))

pub product_within : (m n : ℕ) (x y : ℤ) → Within m x → Within n y → Within (m * n) (x *ℤ y)
product_within m n x y h k = product_between (pos m) (pos n) x y h.0 h.1 k.0 k.1

pub positive_factor : (a k : ℤ) → pos 0 ≤ℤ k → pos 0 <ℤ (a *ℤ k) → pos 0 <ℤ a
positive_factor a k h l =
    by_lt_z (pos 0) a (λ s. s)
    (λ s. let t = mul_nonneg (neg_ℤ a) k (omega (arith, lin)) h in absurd (omega (arith, lin, simp expand at t)))

pub ≤_trans : {a b c : ℤ} → a ≤ℤ b → b ≤ℤ c → a ≤ℤ c
≤_trans {a} {b} {c} h k = omega (arith, lin)

pub mul_le : (k a b : ℤ) → pos 0 ≤ℤ k → a ≤ℤ b → (k *ℤ a) ≤ℤ (k *ℤ b)
mul_le k a b h l = let t = mul_mono a b k h l in omega (arith, lin, *ℤ_comm k a, *ℤ_comm k b)

-- a factor of which only the size is known costs at most its size times the bound
pub abs_bound : (l x B : ℤ) → neg_ℤ B ≤ℤ x → x ≤ℤ B → neg_ℤ (∣ l ∣ *ℤ B) ≤ℤ (l *ℤ x)
abs_bound (pos n) x B low high =
    let p : (pos n *ℤ neg_ℤ B) ≤ℤ (pos n *ℤ x) = mul_le (pos n) (neg_ℤ B) x (omega (arith, lin)) low in
    omega (arith, lin, mul_neg (pos n) B)
abs_bound (negsuc n) x B low high =
    let p : (pos (suc n) *ℤ x) ≤ℤ (pos (suc n) *ℤ B) = mul_le (pos (suc n)) x B (omega (arith, lin)) high in
    let e : negsuc n *ℤ x ≡ neg_ℤ (pos (suc n) *ℤ x) = neg_mul (pos (suc n)) x in
    omega (arith, lin)

pub abs_above : (l x B : ℤ) → neg_ℤ B ≤ℤ x → x ≤ℤ B → (l *ℤ x) ≤ℤ (∣ l ∣ *ℤ B)
abs_above (pos n) x B low high = mul_le (pos n) x B (omega (arith, lin)) high
abs_above (negsuc n) x B low high =
    let p : (pos (suc n) *ℤ neg_ℤ B) ≤ℤ (pos (suc n) *ℤ x) = mul_le (pos (suc n)) (neg_ℤ B) x (omega (arith, lin)) low in
    let e : negsuc n *ℤ x ≡ neg_ℤ (pos (suc n) *ℤ x) = neg_mul (pos (suc n)) x in
    omega (arith, lin, mul_neg (pos (suc n)) B)

-- an order between equal numbers
pub along : {a a' b b' : ℤ} → a ≡ a' → b ≡ b' → a ≤ℤ b → a' ≤ℤ b'
along {a} {a'} {b} {b'} p q h = subst (λ s. s ≤ℤ b') p (subst (λ s. a ≤ℤ s) q h)

-- inequalities are added
infixl 65 ◌⊕◌
pub ◌⊕◌ : {a b c d : ℤ} → a ≤ℤ b → c ≤ℤ d → (a +ℤ c) ≤ℤ (b +ℤ d)
◌⊕◌ {a} {b} {c} {d} h k = omega (arith, lin)

shifted : (lo hi l r : ℤ) → l ≤ℤ r → hi -ℤ lo ≡ r -ℤ l → lo ≤ℤ hi
shifted lo hi l r h e = omega (arith, lin)

-- lo ≤ hi follows from l ≤ r where hi - lo and r - l multiply out alike. With `◌⊕◌`: an order that is the sum of others, whatever the products in it.
pub ring_le : (lo hi l r : Expr) (ρ : List ℤ) → eval l ρ ≤ℤ eval r ρ → T (all_zero (norm (sub (sub hi lo) (sub r l)))) → eval lo ρ ≤ℤ eval hi ρ
ring_le lo hi l r ρ h t = shifted (eval lo ρ) (eval hi ρ) (eval l ρ) (eval r ρ) h (ring (sub hi lo) (sub r l) ρ t)

-- a positive whole factor is cancelled
pub cancel : (a b : ℤ) (k : ℕ) → 1 ≤ k → (a *ℤ pos k) ≤ℤ (b *ℤ pos k) → a ≤ℤ b
cancel a b k one h = mul_cancel a b (pos k) (omega (arith, lin)) h

-- tests of ranges
pub test : (a b : ℤ) → a ≤ℤ b → le_z a b ≡ true
test a b h = sym (true_is_le a b (le_out a b h))

pub within_test : (n : ℕ) (z : ℤ) → Within n z → between (neg_ℤ (pos n)) (pos n) z ≡ true
within_test n z h = and_from (le_z (neg_ℤ (pos n)) z) (le_z z (pos n)) (test (neg_ℤ (pos n)) z h.0) (test z (pos n) h.1)

pub test_within : (n : ℕ) (z : ℤ) → between (neg_ℤ (pos n)) (pos n) z ≡ true → Within n z
test_within n z e = let h = and_parts (le_z (neg_ℤ (pos n)) z) (le_z z (pos n)) e in omega (arith, lin)

-- a number that is kept between bounds lies between them, and one that lies between them is kept
pub kept-within : (n : ℕ) (z : ℤ) → Within n (kept (neg_ℤ (pos n)) (pos n) z)
kept-within n z =
    cond_both (between (neg_ℤ (pos n)) (pos n) z) z (pos 0) (Within n)
    (λ e. let h = and_parts (le_z (neg_ℤ (pos n)) z) (le_z z (pos n)) e in omega (arith, lin))
    (λ e. omega (arith, lin))

pub kept_same : (n : ℕ) (z : ℤ) → Within n z → kept (neg_ℤ (pos n)) (pos n) z ≡ z
kept_same n z h = cond-true (between (neg_ℤ (pos n)) (pos n) z) z (pos 0) (within_test n z h)

-- what a test of the order tells
pub at_most : (a b : ℤ) → le_z a b ≡ true → a ≤ℤ b
at_most a b e = omega (arith, lin)

pub under : (a b : ℤ) → le_z a b ≡ false → b <ℤ a
under a b e = omega (arith, lin)

-- a number or nothing
pub only-within : (n : ℕ) (t : Bool) (z : ℤ) → Within n z → Within n (only t z)
only-within n true z h = h
only-within n false z h = omega (arith, lin)
