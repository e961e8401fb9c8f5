-- What the definitions over a list say of a slice's first number and the rest, as a pattern `[x, rest @ ..]` gives them.
use Rattle.std.proofs.Common.{◌≡◌, ◌⊎◌, inl, inr, ◌-◌, ◌<◌, cond, List, [], ◌∷◌, length, take, drop, ℤ, pos, ◌+ℤ◌, ◌-ℤ◌, ◌*ℤ◌, ◌<ℤ◌, sym, refl, ap, ◌∙◌, subst, arith, take_all}
use lib.Signed.{le_z}
use Rattle.std.specs.Int.{int_min}
use Rattle.measure.specs.Range.{Within}
use Rattle.measure.specs.Rows.{All}
use Rattle.measure.proofs.Laws.{mul_one}
use Rattle.stepped.specs.Piecewise.{first, Chain, walk, net, least_walk}

abbrev pub tail : List ℤ → List ℤ
tail xs = take (length xs - 1) (drop 1 xs)

pub head-tail : (xs : List ℤ) → 0 < length xs → xs ≡ first xs ∷ tail xs
head-tail [] h = absurd (omega arith)
head-tail (x ∷ xs) h = ap (λ ys. x ∷ ys) (sym (take_all _ xs (omega arith)))

pub all-parts : (n : _) (xs ys : List ℤ) (x : ℤ) → xs ≡ x ∷ ys → All (Within n) xs → Within n x × All (Within n) ys
unfolding All
all-parts n xs ys x e a = subst (λ (zs : List ℤ). All (Within n) zs) e a

pub chain_parts : (p : ℤ) (xs ys : List ℤ) (x : ℤ) → xs ≡ x ∷ ys → Chain p xs → (p <ℤ x) × Chain x ys
chain_parts p xs ys x e c = subst (Chain p) e c

-- a line at a whole power
pub line-whole : (base p s y r : ℤ) → r ≡ base +ℤ s *ℤ (y -ℤ p) → r ≡ base *ℤ pos 1 +ℤ s *ℤ (y -ℤ p *ℤ pos 1)
line-whole base p s y r e = e ∙ simp mul_one

-- a cost along a last line, and along one with a next point
module _ (base p s : ℤ) (ks ts : List ℤ) where
  pub walk_last : (n d : ℤ) → (ks ≡ []) ⊎ (ts ≡ []) → base *ℤ d +ℤ s *ℤ (n -ℤ p *ℤ d) ≡ walk base p s ks ts n d
  walk_last n d h = last-walk ks ts h
    where
      last-walk : (ks ts : List ℤ) → (ks ≡ []) ⊎ (ts ≡ []) → base *ℤ d +ℤ s *ℤ (n -ℤ p *ℤ d) ≡ walk base p s ks ts n d
      last-walk [] ts h = refl
      last-walk (k ∷ ks) [] h = refl
      last-walk (k ∷ ks) (t ∷ ts) (inl e) = cc
      last-walk (k ∷ ks) (t ∷ ts) (inr e) = cc

  pub least_last : (a b q : ℤ) → (ks ≡ []) ⊎ (ts ≡ []) → int_min (net base p s q a) (net base p s q b) ≡ least_walk base p s ks ts a b q
  least_last a b q h = last-least ks ts h
    where
      last-least : (ks ts : List ℤ) → (ks ≡ []) ⊎ (ts ≡ []) → int_min (net base p s q a) (net base p s q b) ≡ least_walk base p s ks ts a b q
      last-least [] ts h = refl
      last-least (k ∷ ks) [] h = refl
      last-least (k ∷ ks) (t ∷ ts) (inl e) = cc
      last-least (k ∷ ks) (t ∷ ts) (inr e) = cc

  module _ (c k t : ℤ) (ks' ts' : List ℤ) (e : c ≡ base +ℤ s *ℤ (k -ℤ p)) (f : ks ≡ k ∷ ks') (g : ts ≡ t ∷ ts') where
    pub walk_more : (n d : ℤ) → walk base p s ks ts n d ≡ cond (le_z n (k *ℤ d)) (base *ℤ d +ℤ s *ℤ (n -ℤ p *ℤ d)) (walk c k t ks' ts' n d)
    walk_more n d = rw (f, g, e)

    pub least_more : (a b q : ℤ) → least_walk base p s ks ts a b q ≡ cond (le_z b k) (int_min (net base p s q a) (net base p s q b)) (cond (le_z k a) (least_walk c k t ks' ts' a b q) (int_min (net base p s q a) (least_walk c k t ks' ts' k b q)))
    least_more a b q = rw (f, g, e)
