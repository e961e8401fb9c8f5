-- Ring algebra in ℤ: a solver by reflection,
--     ring e₁ e₂ ρ tt : eval e₁ ρ ≡ eval e₂ ρ
-- for two expressions over the variables ρ whose difference multiplies out to nothing. `var 0`, `var 1` .. name the entries of ρ.
use Rattle.std.proofs.Common.{◌≡◌, ℕ, zero, suc, Bool, true, false, cond, T, eqb, ltb, List, [], ◌∷◌, ℤ, pos, negsuc, ◌+ℤ◌, ◌-ℤ◌, ◌*ℤ◌, neg_ℤ, sym, refl, ap, ◌∙◌, arith, eqb→eq}
use lib.IntN.{+ℤ_assoc, +ℤ_comm, +ℤ_idl, +ℤ_idr, *ℤ_comm, zero-*ℤ, *ℤ-zero}
use borrow.Author.Differences.{same_in, same_out, sum_is_lem, neg_is}
use Rattle.measure.proofs.Laws.{add_mul, mul_add, mul_assoc, add_left_comm, mul_left_comm, one-mul, mul_one, minus_one_mul}

-- ---- expressions
pub data Expr : Type 0 where
  var : ℕ → Expr
  con : ℤ → Expr
  add : Expr → Expr → Expr
  sub : Expr → Expr → Expr
  mul : Expr → Expr → Expr
  neg : Expr → Expr

abbrev pub nth : List ℤ → ℕ → ℤ
nth [] i = pos 0
nth (x ∷ ρ) zero = x
nth (x ∷ ρ) (suc i) = nth ρ i

abbrev pub eval : Expr → List ℤ → ℤ
eval (var i) ρ = nth ρ i
eval (con c) ρ = c
eval (add a b) ρ = eval a ρ +ℤ eval b ρ
eval (sub a b) ρ = eval a ρ -ℤ eval b ρ
eval (mul a b) ρ = eval a ρ *ℤ eval b ρ
eval (neg a) ρ = neg_ℤ (eval a ρ)

-- ---- polynomials: a coefficient and the variables of each monomial, in order
pub data Poly : Type 0 where
  nil : Poly
  term : ℤ → List ℕ → Poly → Poly

abbrev pub same : List ℕ → List ℕ → Bool
same [] [] = true
same [] (y ∷ ys) = false
same (x ∷ xs) [] = false
same (x ∷ xs) (y ∷ ys) = cond (eqb x y) (same xs ys) false

abbrev pub before : List ℕ → List ℕ → Bool
before [] [] = false
before [] (y ∷ ys) = true
before (x ∷ xs) [] = false
before (x ∷ xs) (y ∷ ys) = cond (ltb x y) true (cond (eqb x y) (before xs ys) false)

abbrev pub place : Bool → Bool → ℤ → List ℕ → ℤ → List ℕ → Poly → Poly → Poly
place true t c m d n p r = term (c +ℤ d) n p
place false true c m d n p r = term c m (term d n p)
place false false c m d n p r = term d n r

abbrev pub insert : ℤ → List ℕ → Poly → Poly
insert c m nil = term c m nil
insert c m (term d n p) = place (same m n) (before m n) c m d n p (insert c m p)

abbrev pub put : Bool → ℕ → ℕ → List ℕ → List ℕ → List ℕ
put true i j m r = j ∷ r
put false i j m r = i ∷ (j ∷ m)

abbrev pub insert_v : ℕ → List ℕ → List ℕ
insert_v i [] = i ∷ []
insert_v i (j ∷ m) = put (ltb j i) i j m (insert_v i m)

abbrev pub mul_m : List ℕ → List ℕ → List ℕ
mul_m [] n = n
mul_m (i ∷ m) n = insert_v i (mul_m m n)

abbrev pub add_p : Poly → Poly → Poly
add_p nil q = q
add_p (term c m p) q = insert c m (add_p p q)

abbrev pub mul_t : ℤ → List ℕ → Poly → Poly
mul_t c m nil = nil
mul_t c m (term d n q) = insert (c *ℤ d) (mul_m m n) (mul_t c m q)

abbrev pub mul_p : Poly → Poly → Poly
mul_p nil q = nil
mul_p (term c m p) q = add_p (mul_t c m q) (mul_p p q)

abbrev pub norm : Expr → Poly
norm (var i) = term (pos 1) (i ∷ []) nil
norm (con c) = term c [] nil
norm (add a b) = add_p (norm a) (norm b)
norm (sub a b) = add_p (norm a) (mul_t (negsuc 0) [] (norm b))
norm (mul a b) = mul_p (norm a) (norm b)
norm (neg a) = mul_t (negsuc 0) [] (norm a)

abbrev pub is_zero : ℤ → Bool
is_zero (pos n) = eqb n 0
is_zero (negsuc n) = false

abbrev pub all_zero : Poly → Bool
all_zero nil = true
all_zero (term c m p) = cond (is_zero c) (all_zero p) false

-- ---- what a polynomial is worth
abbrev val_m : List ℕ → List ℤ → ℤ
val_m [] ρ = pos 1
val_m (i ∷ m) ρ = nth ρ i *ℤ val_m m ρ

abbrev val : Poly → List ℤ → ℤ
val nil ρ = pos 0
val (term c m p) ρ = c *ℤ val_m m ρ +ℤ val p ρ

ruleset sums = (+ℤ_assoc, +ℤ_comm, add_left_comm)

ruleset products = (mul_assoc, *ℤ_comm, mul_left_comm)

cond_T : (a b : Bool) → T (cond a b false) → T a × T b
cond_T true b h = (tt, h)
cond_T false b h = absurd h

same→≡ : (m n : List ℕ) → T (same m n) → m ≡ n
same→≡ [] [] h = refl
same→≡ [] (y ∷ ys) h = absurd h
same→≡ (x ∷ xs) [] h = absurd h
same→≡ (x ∷ xs) (y ∷ ys) h =
    let both = cond_T (eqb x y) (same xs ys) h in
    λ i. eqb→eq x y both.0 i ∷ same→≡ xs ys both.1 i

module _ (ρ : List ℤ) where
  place_val : (s t : Bool) (c : ℤ) (m : List ℕ) (d : ℤ) (n : List ℕ) (p r : Poly) → (T s → m ≡ n) → val r ρ ≡ c *ℤ val_m m ρ +ℤ val p ρ → val (place s t c m d n p r) ρ ≡ c *ℤ val_m m ρ +ℤ (d *ℤ val_m n ρ +ℤ val p ρ)
  place_val true t c m d n p r e h = rw (e tt) (ap (λ x. x +ℤ val p ρ) (add_mul c d (val_m n ρ)) ∙ +ℤ_assoc (c *ℤ val_m n ρ) (d *ℤ val_m n ρ) (val p ρ))
  place_val false true c m d n p r e h = refl
  place_val false false c m d n p r e h = ap (λ x. d *ℤ val_m n ρ +ℤ x) h ∙ add_left_comm (d *ℤ val_m n ρ) (c *ℤ val_m m ρ) (val p ρ)

  insert_val : (c : ℤ) (m : List ℕ) (p : Poly) → val (insert c m p) ρ ≡ c *ℤ val_m m ρ +ℤ val p ρ
  insert_val c m nil = refl
  insert_val c m (term d n p) = place_val (same m n) (before m n) c m d n p (insert c m p) (same→≡ m n) (insert_val c m p)

  put_val : (t : Bool) (i j : ℕ) (m r : List ℕ) → val_m r ρ ≡ nth ρ i *ℤ val_m m ρ → val_m (put t i j m r) ρ ≡ nth ρ i *ℤ (nth ρ j *ℤ val_m m ρ)
  put_val true i j m r h = ap (λ x. nth ρ j *ℤ x) h ∙ mul_left_comm (nth ρ j) (nth ρ i) (val_m m ρ)
  put_val false i j m r h = refl

  insert_v_val : (i : ℕ) (m : List ℕ) → val_m (insert_v i m) ρ ≡ nth ρ i *ℤ val_m m ρ
  insert_v_val i [] = refl
  insert_v_val i (j ∷ m) = put_val (ltb j i) i j m (insert_v i m) (insert_v_val i m)

  mul_m_val : (m n : List ℕ) → val_m (mul_m m n) ρ ≡ val_m m ρ *ℤ val_m n ρ
  mul_m_val [] n = sym (one-mul (val_m n ρ))
  mul_m_val (i ∷ m) n = insert_v_val i (mul_m m n) ∙ ap (λ x. nth ρ i *ℤ x) (mul_m_val m n) ∙ sym (mul_assoc (nth ρ i) (val_m m ρ) (val_m n ρ))

  add_p_val : (p q : Poly) → val (add_p p q) ρ ≡ val p ρ +ℤ val q ρ
  add_p_val nil q = sym (+ℤ_idl (val q ρ))
  add_p_val (term c m p) q = insert_val c m (add_p p q) ∙ ap (λ x. c *ℤ val_m m ρ +ℤ x) (add_p_val p q) ∙ sym (+ℤ_assoc (c *ℤ val_m m ρ) (val p ρ) (val q ρ))

  mul_t_val : (c : ℤ) (m : List ℕ) (q : Poly) → val (mul_t c m q) ρ ≡ (c *ℤ val_m m ρ) *ℤ val q ρ
  mul_t_val c m nil = sym (*ℤ-zero (c *ℤ val_m m ρ))
  mul_t_val c m (term d n q) =
      insert_val (c *ℤ d) (mul_m m n) (mul_t c m q)
      ∙ (λ i. (c *ℤ d) *ℤ mul_m_val m n i +ℤ mul_t_val c m q i)
      ∙ ap (λ x. x +ℤ (c *ℤ val_m m ρ) *ℤ val q ρ) (simp products)
      ∙ sym (mul_add (c *ℤ val_m m ρ) (d *ℤ val_m n ρ) (val q ρ))

  mul_p_val : (p q : Poly) → val (mul_p p q) ρ ≡ val p ρ *ℤ val q ρ
  mul_p_val nil q = sym (zero-*ℤ (val q ρ))
  mul_p_val (term c m p) q =
      add_p_val (mul_t c m q) (mul_p p q) ∙ (λ i. mul_t_val c m q i +ℤ mul_p_val p q i) ∙ sym (add_mul (c *ℤ val_m m ρ) (val p ρ) (val q ρ))

  minus_val : (q : Poly) → val (mul_t (negsuc 0) [] q) ρ ≡ neg_ℤ (val q ρ)
  minus_val q = mul_t_val (negsuc 0) [] q ∙ minus_one_mul (val q ρ)

  norm_val : (e : Expr) → val (norm e) ρ ≡ eval e ρ
  norm_val (var i) = +ℤ_idr _ ∙ one-mul _ ∙ mul_one (nth ρ i)
  norm_val (con c) = +ℤ_idr _ ∙ mul_one c
  norm_val (add a b) = add_p_val (norm a) (norm b) ∙ (λ i. norm_val a i +ℤ norm_val b i)
  norm_val (sub a b) = add_p_val (norm a) (mul_t (negsuc 0) [] (norm b)) ∙ (λ i. norm_val a i +ℤ minus_val (norm b) i) ∙ ap (λ x. eval a ρ -ℤ x) (norm_val b)
  norm_val (mul a b) = mul_p_val (norm a) (norm b) ∙ (λ i. norm_val a i *ℤ norm_val b i)
  norm_val (neg a) = minus_val (norm a) ∙ ap neg_ℤ (norm_val a)

  is_zero→≡ : (c : ℤ) → T (is_zero c) → c ≡ pos 0
  is_zero→≡ (pos n) h = ap pos (eqb→eq n 0 h)
  is_zero→≡ (negsuc n) h = absurd h

  all_zero_val : (p : Poly) → T (all_zero p) → val p ρ ≡ pos 0
  all_zero_val nil h = refl
  all_zero_val (term c m p) h =
      let both = cond_T (is_zero c) (all_zero p) h in
      (λ i. is_zero→≡ c both.0 i *ℤ val_m m ρ +ℤ all_zero_val p both.1 i) ∙ ap (λ x. x +ℤ pos 0) (zero-*ℤ (val_m m ρ))

equal : (a b : ℤ) → a -ℤ b ≡ pos 0 → a ≡ b
equal a b h = omega (arith, same_in, same_out, sum_is_lem, neg_is)

-- two expressions whose difference multiplies out to nothing are equal at all values of the variables
pub ring : (e₁ e₂ : Expr) (ρ : List ℤ) → T (all_zero (norm (sub e₁ e₂))) → eval e₁ ρ ≡ eval e₂ ρ
ring e₁ e₂ ρ h = equal (eval e₁ ρ) (eval e₂ ρ) (sym (norm_val ρ (sub e₁ e₂)) ∙ all_zero_val ρ (norm (sub e₁ e₂)) h)
