-- Papers of fixed length: what the slots say of a list of words.
use Rattle.std.proofs.Common.{◌≡◌, ℕ, zero, suc, ◌+◌, ◌<◌, ◌≤◌, List, [], ◌∷◌, ◌++◌, length, get_or, take, sym, refl, ap, ◌∙◌, subst, arith}
use Rattle.word.specs.Form.{Begins, Open, Refused, Ended}
use Rattle.word.specs.Slot.{Fits, Misfits, Matches, Possible}
use Rattle.word.specs.declared.slot.Slot.{Slot}
use Rattle.word.specs.declared.fault.WordRefusal.{WordRefusal}
use Rattle.word.specs.declared.fault.WordRefusal.TheVariants.{Stops, Kind, Range, Follows}
use Rattle.std.proofs.lemmas.List.{length-take-le, take_more, take_all, length-append}

pub matches_length : (ss : List Slot) (w : List ℕ) → Matches ss w → length w ≡ length ss
matches_length [] [] m = refl
matches_length [] (x ∷ w) m = absurd m
matches_length (s ∷ ss) [] m = absurd m
matches_length (s ∷ ss) (x ∷ w) m = ap suc (matches_length ss w m.1)

-- no paper of these slots begins another
pub slots_ended : (ss : List Slot) → Ended (Matches ss)
slots_ended ss p x rest d e =
    let n = matches_length ss p d in
    let k = matches_length ss (p ++ (x ∷ rest)) e in
    let l : length (p ++ (x ∷ rest)) ≡ length p + suc (length rest) = length-append p (x ∷ rest) in
    omega arith

-- one word more
pub matches_more : (ss : List Slot) (w : List ℕ) (i : ℕ) (d : Slot) (e : ℕ) → Matches (take i ss) (take i w) → i < length ss → i < length w → Fits (get_or ss i d) (get_or w i e) → Matches (take (suc i) ss) (take (suc i) w)
matches_more [] w i d e m h k f = absurd (omega arith)
matches_more (s ∷ ss) [] i d e m h k f = absurd (omega arith)
matches_more (s ∷ ss) (x ∷ w) zero d e m h k f = (f, tt)
matches_more (s ∷ ss) (x ∷ w) (suc i) d e m h k f = (m.0, matches_more ss w i d e m.1 (omega arith) (omega arith) f)

-- the slots before the words p are filled, so p begins a paper
begins : (ss : List Slot) (p : List ℕ) → Possible ss → Matches (take (length p) ss) p → Begins (Matches ss) p
begins ss [] v m = v
begins [] (x ∷ p) v m = absurd m
begins (s ∷ ss) (x ∷ p) ([], v) m = absurd v
begins (s ∷ ss) (x ∷ p) (y ∷ ys, v) m = let b = begins ss p (ys, v.1) m.1 in (b.0, (m.0, b.1))

-- and so do p and a word that fits the next slot
begins_next : (ss : List Slot) (p : List ℕ) (x : ℕ) (d : Slot) → Possible ss → Matches (take (length p) ss) p → length p < length ss → Fits (get_or ss (length p) d) x → Begins (Matches ss) (p ++ (x ∷ []))
begins_next [] p x d v m h f = absurd (omega arith)
begins_next (s ∷ ss) [] x d ([], v) m h f = absurd v
begins_next (s ∷ ss) [] x d (y ∷ ys, v) m h f = (ys, (f, v.1))
begins_next (s ∷ ss) (z ∷ p) x d ([], v) m h f = absurd v
begins_next (s ∷ ss) (z ∷ p) x d (y ∷ ys, v) m h f =
    let b = begins_next ss p x d (ys, v.1) m.1 (omega arith) f in (b.0, (m.0, b.1))

-- no other word can stand there
next_fits : (ss : List Slot) (p : List ℕ) (x : ℕ) (d : Slot) → Begins (Matches ss) (p ++ (x ∷ [])) → Fits (get_or ss (length p) d) x
next_fits [] [] x d b = absurd b.1
next_fits [] (z ∷ p) x d b = absurd b.1
next_fits (s ∷ ss) [] x d b = b.1.0
next_fits (s ∷ ss) (z ∷ p) x d b = next_fits ss p x d (b.0, b.1.1)

possible_at : (ss : List Slot) (i : ℕ) (d : Slot) → Possible ss → i < length ss → (x : ℕ) × Fits (get_or ss i d) x
possible_at [] i d v h = absurd (omega arith)
possible_at (s ∷ ss) i d ([], v) h = absurd v
possible_at (s ∷ ss) zero d (x ∷ w, v) h = (x, v.0)
possible_at (s ∷ ss) (suc i) d (x ∷ w, v) h = possible_at ss i d (w, v.1) (omega arith)

-- the four refusals, where the words before place i fit their slots
module _ (ss : List Slot) (w : List ℕ) (i : ℕ) (v : Possible ss) (m : Matches (take i ss) (take i w)) where
  at_front : i ≤ length w → Matches (take (length (take i w)) ss) (take i w)
  at_front h = subst (λ (n : ℕ). Matches (take n ss) (take i w)) (sym (length-take-le i w h)) m

  front_open : i ≤ length w → i < length ss → Open (Matches ss) (take i w)
  front_open h k = (
    begins ss (take i w) v (at_front h),
    λ whole. let e = matches_length ss (take i w) whole in let f = length-take-le i w h in omega arith,
  )

  pub refused_stops : length w ≡ i → i < length ss → Refused (Matches ss) w Stops i
  refused_stops e h =
      let t : take i w ≡ w = take_all i w (omega arith) in
      (sym e, subst (λ (p : List ℕ). Open (Matches ss) p) t (front_open (omega arith) h))

  module _ (d : Slot) (h : i < length w) (k : i < length ss) where
    fits_here : (x : ℕ) → Begins (Matches ss) (take i w ++ (x ∷ [])) → Fits (get_or ss i d) x
    fits_here x b =
        subst (λ (n : ℕ). Fits (get_or ss n d) x) (length-take-le i w (omega arith)) (next_fits ss (take i w) x d b)

    here_fits : (x : ℕ) → Fits (get_or ss i d) x → Begins (Matches ss) (take i w ++ (x ∷ []))
    here_fits x f =
        let e = length-take-le i w (omega arith) in
        begins_next ss (take i w) x d v (at_front (omega arith)) (omega arith)
        (subst (λ (n : ℕ). Fits (get_or ss n d) x) (sym e) f)

    pub refused_misfit : (r : WordRefusal) → Misfits (get_or ss i d) (get_or w i 0) r → Refused (Matches ss) w r i
    refused_misfit Stops f = absurd f
    refused_misfit Follows f = absurd f
    refused_misfit Kind f =
        (h, front_open (omega arith) k, λ s. f (sym s.1 ∙ (fits_here s.0 s.2).0))
    refused_misfit Range f = (
      h,
      front_open (omega arith) k,
      (let x = possible_at ss i d v k in (x.0, x.1.0 ∙ sym f.0, here_fits x.0 x.1)),
      λ b. f.1 (fits_here (get_or w i 0) (subst (λ (p : List ℕ). Begins (Matches ss) p) (take_more w i 0 h) b)).1,
    )

-- words that match two lists of slots, one after the other
pub matches_join : (ss ts : List Slot) (u v : List ℕ) → Matches ss u → Matches ts v → Matches (ss ++ ts) (u ++ v)
matches_join [] ts [] v m n = n
matches_join [] ts (x ∷ u) v m n = absurd m
matches_join (s ∷ ss) ts [] v m n = absurd m
matches_join (s ∷ ss) ts (x ∷ u) v m n = (m.0, matches_join ss ts u v m.1 n)

pub record Parts (ss ts : List Slot) (w : List ℕ) : Type 0 where
  pub left : List ℕ
  pub right : List ℕ
  pub whole : w ≡ left ++ right
  pub lefts : Matches ss left
  pub rights : Matches ts right

pub matches_parts : (ss ts : List Slot) (w : List ℕ) → Matches (ss ++ ts) w → Parts ss ts w
matches_parts [] ts w m = record { left = []; right = w; whole = refl; lefts = tt; rights = m }
matches_parts (s ∷ ss) ts [] m = absurd m
matches_parts (s ∷ ss) ts (x ∷ w) m =
    let p = matches_parts ss ts w m.1 in
    record { left = x ∷ p.left; right = p.right; whole = ap (λ (l : List ℕ). x ∷ l) p.whole; lefts = (m.0, p.lefts); rights = p.rights }
