-- Sums over tables: term by term, and gathered by row.
use Rattle.std.proofs.Common.{◌≡◌, ℕ, zero, suc, ◌+◌, ◌*◌, ◌<◌, ◌≤◌, Bool, true, false, T, eqb, Option, Some, None, List, [], ◌∷◌, length, get_or, take, ℤ, pos, ◌+ℤ◌, ◌-ℤ◌, ◌*ℤ◌, neg_ℤ, ◌≤ℤ◌, sym, refl, ap, ◌∙◌, subst, add-zero, mul-le-mul_right, suc-mul, zero-add, zero-mul, add-one, arith, eqb→eq, ◌^◌, w64, to_z, of_z}
use native.Mathlib.Decide.{dec_lt}
use native.Mathlib.Nat.{min-le_left}
use lib.Dec.{eqb_refl}
use lib.IntN.{*ℤ-zero, +ℤ_idl, +ℤ_idr}
use Rattle.std.proofs.lemmas.List.{length-take}
use lib.Signed.{mag}
use Rattle.measure.specs.Range.{Within}
use Rattle.measure.specs.Rows.{Row, numbered, rows, total, only, All, Stands, HoldsAt, sum_to, Small, row_or, row_value, IsSumOf, IsFirstOf, Lowest}
use Rattle.measure.proofs.Laws.{lin, mul_add}
use Rattle.measure.proofs.Sizes.{gave}

-- ---- what holds of each
-- x stands in the list
pub data In {X : Type 0} (x : X) : List X → Type 0 where
  here : {xs : List X} → In x (x ∷ xs)
  there : {y : X} {xs : List X} → In x xs → In x (y ∷ xs)

pub look : {X : Type 0} (P : X → Type 0) (x : X) (xs : List X) → All P xs → In x xs → P x
unfolding All
look P x [] h k = elim k [ ]
look P x (y ∷ xs) h here = h.0
look P x (y ∷ xs) h (there k) = look P x xs h.1 k

pub each : {X : Type 0} (P : X → Type 0) (xs : List X) → ((x : X) → In x xs → P x) → All P xs
unfolding All
each P [] f = tt
each P (x ∷ xs) f = (f x here, each P xs (λ y k. f y (there k)))

-- row i + 1 from n on is row i from n + 1 on
pub next_row : (n i : ℕ) → n + suc i ≡ suc n + i
next_row n i = omega arith

-- a numbered row's item stands in the table, at its number
pub row_stands : {X : Type 0} (n : ℕ) (xs : List X) (r : Row X) → In r (numbered n xs) → (i : ℕ) × (r.row ≡ n + i) × (i < length xs) × Stands xs i r.item
unfolding numbered Stands
row_stands n [] r k = elim k [ ]
row_stands n (x ∷ xs) r here = (0, omega arith, omega arith, refl)
row_stands n (x ∷ xs) r (there k) =
    let s = row_stands (suc n) xs r k in
    let e = s.1 in
    let l = s.2 in
    (suc s.0, omega arith, omega arith, s.3)

pub stands_row : {X : Type 0} (n : ℕ) (xs : List X) (i : ℕ) (x : X) → Stands xs i x → In (record { item = x; row = n + i }) (numbered n xs)
unfolding numbered Stands
stands_row n [] i x k = absurd k
stands_row n (y ∷ ys) zero x k =
    subst (λ (r : Row _). In r (record { item = y; row = n } ∷ numbered (suc n) ys)) (λ j. record { item = sym k j; row = sym (add-zero n) j }) here
stands_row n (y ∷ ys) (suc i) x k =
    subst (λ (m : ℕ). In (record { item = x; row = m }) (record { item = y; row = n } ∷ numbered (suc n) ys)) (sym (next_row n i)) (there (stands_row (suc n) ys i x k))

-- ---- term by term
pub total-le : {X : Type 0} (f g : X → ℤ) (xs : List X) → ((x : X) → In x xs → f x ≤ℤ g x) → total f xs ≤ℤ total g xs
unfolding total
total-le f g [] h = omega (arith, lin)
total-le f g (x ∷ xs) h = let j = h x here in let k = total-le f g xs (λ y i. h y (there i)) in omega (arith, lin)

pub total_same : {X : Type 0} (f g : X → ℤ) (xs : List X) → ((x : X) → In x xs → f x ≡ g x) → total f xs ≡ total g xs
unfolding total
total_same f g [] h = refl
total_same f g (x ∷ xs) h = λ i. h x here i +ℤ total_same f g xs (λ y k. h y (there k)) i

pub total_add : {X : Type 0} (f g : X → ℤ) (xs : List X) → total (λ x. f x +ℤ g x) xs ≡ total f xs +ℤ total g xs
unfolding total
total_add f g [] = refl
total_add f g (x ∷ xs) = let k = total_add f g xs in omega (arith, lin)

pub total_sub : {X : Type 0} (f g : X → ℤ) (xs : List X) → total (λ x. f x -ℤ g x) xs ≡ total f xs -ℤ total g xs
unfolding total
total_sub f g [] = refl
total_sub f g (x ∷ xs) = let k = total_sub f g xs in omega (arith, lin)

pub total-neg : {X : Type 0} (f : X → ℤ) (xs : List X) → total (λ x. neg_ℤ (f x)) xs ≡ neg_ℤ (total f xs)
unfolding total
total-neg f [] = refl
total-neg f (x ∷ xs) = let k = total-neg f xs in omega (arith, lin)

pub total-mul : {X : Type 0} (k : ℤ) (f : X → ℤ) (xs : List X) → total (λ x. k *ℤ f x) xs ≡ k *ℤ total f xs
unfolding total
total-mul k f [] = sym (*ℤ-zero k)
total-mul k f (x ∷ xs) = ap (λ y. k *ℤ f x +ℤ y) (total-mul k f xs) ∙ sym (mul_add k (f x) (total f xs))

-- a sum over rows of what does not ask the row's number
pub total-rows : {X : Type 0} (f : X → ℤ) (n : ℕ) (xs : List X) → total (λ (r : Row X). f r.item) (numbered n xs) ≡ total f xs
unfolding total numbered
total-rows f n [] = refl
total-rows f n (x ∷ xs) = ap (λ s. f x +ℤ s) (total-rows f (suc n) xs)

-- ---- gathered by row
pub only_if : (t : Bool) (x : ℤ) → T t → only t x ≡ x
only_if true x h = refl
only_if false x h = absurd h

pub only-not : (t : Bool) (x : ℤ) → (T t → ⊥) → only t x ≡ pos 0
only-not true x h = absurd (h tt)
only-not false x h = refl

is_same : (m n : ℕ) → m ≡ n → T (eqb m n)
is_same m n e = subst (λ k. T (eqb m k)) e (eqb_refl m)

module _ {B : Type 0} (w : ℕ → ℤ) (n : ℕ) (x : ℤ) where
  abbrev share : Row B → ℤ
  share b = w b.row *ℤ only (eqb n b.row) x

  share_same : (b : B) → share (record { item = b; row = n }) ≡ w n *ℤ x
  share_same b = ap (λ y. w n *ℤ y) (only_if (eqb n n) x (eqb_refl n))

  share_other : (b : B) (k : ℕ) → (n ≡ k → ⊥) → share (record { item = b; row = k }) ≡ pos 0
  share_other b k ne = ap (λ y. w k *ℤ y) (only-not (eqb n k) x (λ t. ne (eqb→eq n k t))) ∙ *ℤ-zero (w k)

  shares_low : (k : ℕ) (bs : List B) → n < k → total share (numbered k bs) ≡ pos 0
  unfolding total numbered
  shares_low k [] h = refl
  shares_low k (b ∷ bs) h = λ i. share_other b k (λ e. omega arith) i +ℤ shares_low (suc k) bs (omega arith) i

  shares_high : (k : ℕ) (bs : List B) → k + length bs ≤ n → total share (numbered k bs) ≡ pos 0
  unfolding total numbered
  shares_high k [] h = refl
  shares_high k (b ∷ bs) h = λ i. share_other b k (λ e. omega arith) i +ℤ shares_high (suc k) bs (omega arith) i

  -- one row of the table takes x
  shares : (k : ℕ) (bs : List B) → k ≤ n → n < k + length bs → total share (numbered k bs) ≡ w n *ℤ x
  unfolding total numbered
  shares k [] h l = absurd (omega arith)
  shares k (b ∷ bs) h l =
      elim (dec_lt k n) [
        | yes m ↦ (λ i. share_other b k (λ e. omega arith) i +ℤ shares (suc k) bs (omega arith) (omega arith) i) ∙ +ℤ_idl (w n *ℤ x)
        | no m ↦ let e : n ≡ k = omega arith in
            (λ i. (ap (λ y. share (record { item = b; row = y })) (sym e) ∙ share_same b) i +ℤ shares_low (suc k) bs (omega arith) i) ∙ +ℤ_idr (w n *ℤ x)
      ]

  shares_all : (bs : List B) → (length bs ≤ n → w n ≡ pos 0) → total share (rows bs) ≡ w n *ℤ x
  shares_all bs beyond =
      elim (dec_lt n (length bs)) [
        | yes m ↦ shares 0 bs (omega arith) (omega arith)
        | no m ↦ shares_high 0 bs (omega arith) ∙ sym (ap (λ y. y *ℤ x) (beyond (omega arith)) ∙ lib.IntN.zero-*ℤ x)
      ]

total-nothing : {B : Type 0} (w : ℕ → ℤ) (k : ℕ) (bs : List B) → total (λ (b : Row B). w b.row *ℤ pos 0) (numbered k bs) ≡ pos 0
unfolding total numbered
total-nothing w k [] = refl
total-nothing w k (b ∷ bs) = λ i. *ℤ-zero (w k) i +ℤ total-nothing w (suc k) bs i

-- each element's amount x r goes to row n r of the table bs, and is weighed by w there, which is 0 where the table has no such row
pub gather : {R B : Type 0} (w : ℕ → ℤ) (n : R → ℕ) (x : R → ℤ) (bs : List B) (rs : List R) → ((i : ℕ) → length bs ≤ i → w i ≡ pos 0) → total (λ (b : Row B). w b.row *ℤ total (λ r. only (eqb (n r) b.row) (x r)) rs) (rows bs) ≡ total (λ r. w (n r) *ℤ x r) rs
unfolding total
gather w n x bs [] beyond = total-nothing w 0 bs
gather w n x bs (r ∷ rs) beyond =
    total_same _ (λ (b : Row _). share w (n r) (x r) b +ℤ w b.row *ℤ total (λ r. only (eqb (n r) b.row) (x r)) rs) (rows bs) (λ b k. mul_add (w b.row) (only (eqb (n r) b.row) (x r)) (total (λ r. only (eqb (n r) b.row) (x r)) rs))
    ∙ total_add (share w (n r) (x r)) (λ (b : Row _). w b.row *ℤ total (λ r. only (eqb (n r) b.row) (x r)) rs) (rows bs)
    ∙ (λ i. shares_all w (n r) (x r) bs (beyond (n r)) i +ℤ gather w n x bs rs beyond i)

-- one amount x that goes to row n
pub gather_one : {B : Type 0} (w : ℕ → ℤ) (n : ℕ) (x : ℤ) (bs : List B) → ((i : ℕ) → length bs ≤ i → w i ≡ pos 0) → total (λ (b : Row B). w b.row *ℤ only (eqb n b.row) x) (rows bs) ≡ w n *ℤ x
gather_one w n x bs beyond = shares_all w n x bs (beyond n)

-- a row's item is one of the table's
pub row_item : {X : Type 0} (n : ℕ) (xs : List X) (r : Row X) → In r (numbered n xs) → In r.item xs
unfolding numbered
row_item n [] r k = elim k [ ]
row_item n (x ∷ xs) r here = here
row_item n (x ∷ xs) r (there k) = there (row_item (suc n) xs r k)

-- ---- sums over the first numbers
pub sum_within : (m : ℕ) (f : ℕ → ℤ) (n : ℕ) → ((i : ℕ) → i < n → Within m (f i)) → Within (n * m) (sum_to f n)
unfolding sum_to
sum_within m f zero h = rw zero-mul (omega (arith, lin))
sum_within m f (suc n) h =
    let k = sum_within m f n (λ i l. h i (omega arith)) in
    let l = h n (omega arith) in
    rw suc-mul (omega (arith, lin, k.0, l.0), omega (arith, lin, k.1, l.1))

-- ---- the value of a row
pub row_past : {X Y : Type 0} (y : Y) (f : Row X → Y) (n : ℕ) (xs : List X) (i : ℕ) → length xs ≤ i → row_or y f n xs i ≡ y
unfolding row_or
row_past y f n [] i h = refl
row_past y f n (x ∷ xs) zero h = absurd (omega arith)
row_past y f n (x ∷ xs) (suc i) h = row_past y f (suc n) xs i (omega arith)

row_from : {X Y : Type 0} (y : Y) (f : Row X → Y) (n : ℕ) (xs : List X) (i : ℕ) (z : Y) → i < length xs → ((x : X) → Stands xs i x → z ≡ f (record { item = x; row = n + i })) → z ≡ row_or y f n xs i
unfolding row_or Stands
row_from y f n [] i z h e = absurd (omega arith)
row_from y f n (x ∷ xs) zero z h e = e x refl ∙ ap (λ k. f (record { item = x; row = k })) (add-zero n)
row_from y f n (x ∷ xs) (suc i) z h e = row_from y f (suc n) xs i z (omega arith) (λ v s. e v s ∙ ap (λ k. f (record { item = v; row = k })) (next_row n i))

-- what the item in row i gives is the value of the row
pub row_is : {X Y : Type 0} (y : Y) (f : Row X → Y) (xs : List X) (i : ℕ) (z : Y) → i < length xs → ((x : X) → Stands xs i x → z ≡ f (record { item = x; row = i })) → z ≡ row_or y f 0 xs i
row_is y f xs i z h e = row_from y f 0 xs i z h (λ x s. e x s ∙ ap (λ k. f (record { item = x; row = k })) (sym (zero-add i)))

-- what holds of y and of f at every row holds of the value
pub row_all : {X Y : Type 0} (P : Y → Type 0) (y : Y) (f : Row X → Y) (n : ℕ) (xs : List X) (i : ℕ) → P y → ((r : Row X) → P (f r)) → P (row_or y f n xs i)
unfolding row_or
row_all P y f n [] i h k = h
row_all P y f n (x ∷ xs) zero h k = k (record { item = x; row = n })
row_all P y f n (x ∷ xs) (suc i) h k = row_all P y f (suc n) xs i h k

-- a sum that takes its first number first
sum_front : (f : ℕ → ℤ) (n : ℕ) → sum_to f (suc n) ≡ f 0 +ℤ sum_to (λ i. f (suc i)) n
unfolding sum_to
sum_front f zero = omega (arith, lin)
sum_front f (suc n) = let k = sum_front f n in omega (arith, lin)

sum_nothing : (n : ℕ) → sum_to (λ i. pos 0) n ≡ pos 0
unfolding sum_to
sum_nothing zero = refl
sum_nothing (suc n) = let k = sum_nothing n in omega (arith, lin)

-- the sum of the values of the first rows
sum_from : {X : Type 0} (f : Row X → ℤ) (k : ℕ) (xs : List X) (n : ℕ) → sum_to (row_or (pos 0) f k xs) n ≡ total f (numbered k (take n xs))
unfolding row_or total numbered sum_to
sum_from f k xs zero = refl
sum_from f k [] (suc n) = sum_nothing (suc n)
sum_from f k (x ∷ xs) (suc n) = sum_front (row_or (pos 0) f k (x ∷ xs)) n ∙ ap (λ s. f (record { item = x; row = k }) +ℤ s) (sum_from f (suc k) xs n)

pub sum_rows : {X : Type 0} (f : Row X → ℤ) (xs : List X) (n : ℕ) → sum_to (row_value f xs) n ≡ total f (rows (take n xs))
sum_rows f xs n = sum_from f 0 xs n

-- what is equal at each of the first n numbers has equal sums
pub sum_same : (f g : ℕ → ℤ) (n : ℕ) → ((i : ℕ) → i < n → f i ≡ g i) → sum_to f n ≡ sum_to g n
unfolding sum_to
sum_same f g zero h = refl
sum_same f g (suc n) h = λ i. sum_same f g n (λ j l. h j (omega arith)) i +ℤ h n (omega arith) i

-- ---- a row by its number
pub item_at : {X : Type 0} (xs : List X) (i : ℕ) → i < length xs → (x : X) × Stands xs i x
unfolding Stands
item_at [] i h = absurd (omega arith)
item_at (x ∷ xs) zero h = (x, refl)
item_at (x ∷ xs) (suc i) h = item_at xs i (omega arith)

pub stands_read : {X : Type 0} (xs : List X) (i : ℕ) (x : X) → i < length xs → x ≡ get_or xs i x → Stands xs i x
unfolding Stands
stands_read [] i x h e = absurd (omega arith)
stands_read (y ∷ ys) zero x h e = e
stands_read (y ∷ ys) (suc i) x h e = stands_read ys i x (omega arith) e

pub stands_below : {X : Type 0} (xs : List X) (i : ℕ) (x : X) → Stands xs i x → i < length xs
unfolding Stands
stands_below [] i x s = absurd s
stands_below (y ∷ ys) zero x s = omega arith
stands_below (y ∷ ys) (suc i) x s = let k = stands_below ys i x s in omega arith

pub stands-get_or : {X : Type 0} (xs : List X) (i : ℕ) (x d : X) → Stands xs i x → x ≡ get_or xs i d
unfolding Stands
stands-get_or [] i x d s = absurd s
stands-get_or (y ∷ ys) zero x d s = s
stands-get_or (y ∷ ys) (suc i) x d s = stands-get_or ys i x d s

-- one item stands in a row
pub stands_one : {X : Type 0} (xs : List X) (i : ℕ) (x y : X) → Stands xs i x → Stands xs i y → x ≡ y
stands_one xs i x y s t = stands-get_or xs i x x s ∙ sym (stands-get_or xs i y x t)

-- what does not hold of the item in row i does not hold at i
pub passed : {X : Type 0} (P : Row X → Type 0) (xs : List X) (i : ℕ) (x : X) → Stands xs i x → (P (record { item = x; row = i }) → ⊥) → HoldsAt P xs i → ⊥
passed P xs i x s not h =
    not (subst (λ (y : _). P (record { item = y; row = i })) (stands_one xs i h.item x h.stands s) h.holds)

-- a row of which something holds is in the table
pub holds_below : {X : Type 0} (P : Row X → Type 0) (xs : List X) (i : ℕ) → HoldsAt P xs i → i < length xs
holds_below P xs i h = stands_below xs i h.item h.stands

-- the size of a sum
total-within : {X : Type 0} (b : ℕ) (f : X → ℤ) (xs : List X) → ((x : X) → In x xs → Within b (f x)) → Within (length xs * b) (total f xs)
unfolding total
total-within b f [] h = omega (arith, lin)
total-within b f (x ∷ xs) h =
    let j = h x here in
    let k = total-within b f xs (λ y i. h y (there i)) in
    omega (arith, lin)

numbered-length : {X : Type 0} (n : ℕ) (xs : List X) → length (numbered n xs) ≡ length xs
unfolding numbered
numbered-length n [] = refl
numbered-length n (x ∷ xs) = ap suc (numbered-length (suc n) xs)

-- over a table of at most n rows
pub table_within : {X : Type 0} (m : ℕ) (f : Row X → ℤ) (xs : List X) (n : ℕ) → length xs ≤ n → ((r : Row X) → In r (rows xs) → Within m (f r)) → Within (n * m) (total f (rows xs))
table_within m f xs n few h =
    let k = total-within m f (rows xs) h in
    let l : length (rows xs) * m ≤ n * m = mul-le-mul_right m (omega (arith, numbered-length 0 xs)) in
    omega (arith, lin)

-- over a table's first n rows, and that the sum can be taken
pub rows-within : {X : Type 0} (m : ℕ) (f : Row X → ℤ) (xs : List X) (n : ℕ) → ((r : Row X) → Within m (f r)) → Within (n * m) (total f (rows (take n xs)))
rows-within m f xs n h = table_within m f (take n xs) n (rw (length-take n xs) (min-le_left n (length xs))) (λ r i. h r)

pub rows-small : {X : Type 0} (m : ℕ) (f : Row X → ℤ) (xs : List X) (n : ℕ) → m ≤ 36000000000000000 → ((r : Row X) → Within m (f r)) → Small (row_value f xs) n
rows-small m f xs n l h i k = row_all (Within 36000000000000000) (pos 0) f 0 xs i (omega (arith, lin)) (λ r. let w = h r in omega (arith, lin))

-- an element of a table stands in one of its rows
rows-from : {X : Type 0} (n : ℕ) (xs : List X) (x : X) → In x xs → (i : ℕ) × In (record { item = x; row = i }) (numbered n xs)
unfolding numbered
rows-from n [] x k = elim k [ ]
rows-from n (y ∷ xs) x here = (n, here)
rows-from n (y ∷ xs) x (there k) = let s = rows-from (suc n) xs x k in (s.0, there s.1)

pub in_rows : {X : Type 0} (xs : List X) (x : X) → In x xs → (i : ℕ) × In (record { item = x; row = i }) (rows xs)
in_rows xs x k = rows-from 0 xs x k

-- a sum over at most 255 rows
pub few_within : {X : Type 0} (m : ℕ) (f : Row X → ℤ) (xs : List X) (n : ℕ) → n ≤ 255 → ((r : Row X) → Within m (f r)) → Within (255 * m) (total f (rows (take n xs)))
few_within m f xs n l h =
    let w = rows-within m f xs n h in
    let k = mul-le-mul_right m l in
    (omega (arith, lin, w.0, k), omega (arith, lin, w.1, k))

-- ---- what is given at each number
-- the sum of n numbers, each within b
pub sum_of-within : (b : ℕ) (gives : ℕ → ℤ → Type 0) (n : ℕ) (z : ℤ) → ((i : ℕ) (x : ℤ) → i < n → gives i x → Within b x) → IsSumOf gives n z → Within (n * b) z
unfolding IsSumOf
sum_of-within b gives zero z h s = rw s (rw zero-mul (omega (arith, lin), omega (arith, lin)))
sum_of-within b gives (suc n) z h s =
    let (x, y, k, m, e) = s in
    let i = sum_of-within b gives n x (λ i x l. h i x (omega arith)) k in
    let j = h n y (omega arith) m in
    let p = suc-mul n b in
    rw e (omega (arith, lin), omega (arith, lin))

-- one number more
pub sum_of-more : (gives : ℕ → ℤ → Type 0) (n : ℕ) (a b z : ℤ) → IsSumOf gives n a → gives n b → z ≡ a +ℤ b → IsSumOf gives (n + 1) z
unfolding IsSumOf
sum_of-more gives n a b z s k e = subst (λ m. IsSumOf gives m z) (sym (add-one n)) (a, b, s, k, e)

-- what is given at each number is f of it: the sum is the sum of f
pub sum_of-sum_to : (f : ℕ → ℤ) (gives : ℕ → ℤ → Type 0) (n : ℕ) (z : ℤ) → IsSumOf gives n z → ((i : ℕ) (x : ℤ) → i < n → gives i x → x ≡ f i) → z ≡ sum_to f n
unfolding IsSumOf sum_to
sum_of-sum_to f gives zero z s h = s
sum_of-sum_to f gives (suc n) z s h =
    let i = sum_of-sum_to f gives n s.0 s.2 (λ i x l. h i x (omega arith)) in
    let j = h n s.1 (omega arith) s.3 in
    s.4 ∙ (λ k. i k +ℤ j k)

-- what is given at each number is a test of it: the lowest that passes
pub first_of-lowest : (test : ℕ → Bool) (gives : ℕ → Bool → Type 0) (n : ℕ) (r : Option ℕ) → IsFirstOf gives n r → ((i : ℕ) (b : Bool) → i < n → gives i b → b ≡ test i) → Lowest (λ i. (i < n) × (test i ≡ true)) r
first_of-lowest test gives n None f h = λ i k. let e = h i false k.0 (f.lowest i k.0) in cc
first_of-lowest test gives n (Some i) f h =
    let (l, p, q) = f.lowest in
    ((l, sym (h i true l p)), λ j m k. let e = h j false k.0 (q j m) in cc)

-- what is f of the item that is got from row i is the row's value
pub row_got : {X Y : Type 0} (y : Y) (f : Row X → Y) (xs : List X) (i : ℕ) (x : X) (z : Y) → (i < length xs) × ((d : X) → x ≡ get_or xs i d) → z ≡ f (record { item = x; row = i }) → z ≡ row_or y f 0 xs i
row_got y f xs i x z h e = row_is y f xs i z h.0 (λ v s. e ∙ ap (λ b. f (record { item = b; row = i })) (h.1 v ∙ sym (stands-get_or xs i v v s)))

-- what is given at each number is the row's value: the sum is that of f over the rows
pub row_sum : {X : Type 0} (f : Row X → ℤ) (xs : List X) (gives : ℕ → ℤ → Type 0) (n : ℕ) (z : ℤ) → IsSumOf gives n z → ((i : ℕ) (x : ℤ) → i < n → gives i x → x ≡ row_value f xs i) → z ≡ total f (rows (take n xs))
row_sum f xs gives n z s h = sum_of-sum_to (row_value f xs) gives n z s h ∙ sum_rows f xs n

-- each is small enough that 255 of them fit
pub row_small : {X : Type 0} (m : ℕ) (f : Row X → ℤ) (xs : List X) (i : ℕ) (z : ℤ) → m ≤ 36000000000000000 → ((r : Row X) → Within m (f r)) → z ≡ row_value f xs i → Within 36000000000000000 z
row_small m f xs i z l w e = subst (Within 36000000000000000) (sym e) (rows-small m f xs (suc i) l w i (omega arith))

-- the sum as 64 bits hold it: its size, and that of f over the rows
pub summed_rows : {X : Type 0} (m : ℕ) (f : Row X → ℤ) (xs : List X) (gives : ℕ → ℤ → Type 0) (n : ℕ) (z : ℤ) → mag z < 2 ^ 63 → n ≤ 255 → ((r : Row X) → Within m (f r)) → IsSumOf gives n z → ((i : ℕ) (x : ℤ) → i < n → gives i x → x ≡ row_value f xs i) → Within (255 * m) (to_z w64 (of_z w64 z)) × (to_z w64 (of_z w64 z) ≡ total f (rows (take n xs)))
summed_rows m f xs gives n z h few w s each =
    let e = gave h (row_sum f xs gives n z s each) in
    (subst (Within (255 * m)) (sym e) (few_within m f xs n few w), e)
