-- A reader by states: the words that it takes from a state, and what it refuses.
use Rattle.std.proofs.Common.{◌≡◌, ℕ, ◌<◌, List, [], ◌∷◌, ◌++◌, length, get_or, take, sym, refl, subst, arith}
use Rattle.std.proofs.lemmas.List.{append-nil, append_assoc, take_more, take_all}
use Rattle.word.specs.Word.{kind_of}
use Rattle.word.specs.Form.{Form, Begins, Open, Refused}
use Rattle.word.specs.declared.fault.WordRefusal.TheVariants.{Stops, Kind, Range, Follows}

module _ (S : Type 0) (Takes : S → ℕ → Type 0) (next : S → ℕ → S) (Final : S → Type 0) where
  -- the lists of words that take a state to a final one
  abbrev pub Accepts : S → List ℕ → Type 0
  Accepts s [] = Final s
  Accepts s (x ∷ w) = Takes s x × Accepts (next s x) w

  -- the words are taken, and the state after them
  abbrev pub Runs : S → List ℕ → Type 0
  Runs s [] = Unit {0}
  Runs s (x ∷ w) = Takes s x × Runs (next s x) w

  abbrev pub after : S → List ℕ → S
  after s [] = s
  after s (x ∷ w) = after (next s x) w

  pub after_more : (s : S) (p : List ℕ) (x : ℕ) → after s (p ++ (x ∷ [])) ≡ next (after s p) x
  after_more s [] x = refl
  after_more s (y ∷ p) x = after_more (next s y) p x

  pub runs_more : (s : S) (p : List ℕ) (x : ℕ) → Runs s p → Takes (after s p) x → Runs s (p ++ (x ∷ []))
  runs_more s [] x r t = (t, tt)
  runs_more s (y ∷ p) x r t = (r.0, runs_more (next s y) p x r.1 t)

  pub split : (s : S) (p r : List ℕ) → Accepts s (p ++ r) → Accepts (after s p) r
  split s [] r a = a
  split s (y ∷ p) r a = split (next s y) p r a.1

  pub join : (s : S) (p r : List ℕ) → Runs s p → Accepts (after s p) r → Accepts s (p ++ r)
  join s [] r u a = a
  join s (y ∷ p) r u a = (u.0, join (next s y) p r u.1 a)

  -- the refusals at a state from which a paper can be finished
  module _ (s : S) (w : List ℕ) (i : ℕ) (runs : Runs s (take i w)) (rest : List ℕ) (live : Accepts (after s (take i w)) rest) where
    F : Form
    F = Accepts s

    begins : Begins F (take i w)
    unfolding F
    begins = (rest, join s (take i w) rest runs live)

    not_whole : (Final (after s (take i w)) → ⊥) → F (take i w) → ⊥
    unfolding F
    not_whole n a = n (split s (take i w) [] (subst (λ (l : List ℕ). Accepts s l) (sym (append-nil (take i w))) a))

    next_taken : (x : ℕ) → Begins F (take i w ++ (x ∷ [])) → Takes (after s (take i w)) x
    unfolding F
    next_taken x b =
        (split s (take i w) (x ∷ b.0) (subst (λ (l : List ℕ). Accepts s l) (append_assoc (take i w) (x ∷ []) b.0) b.1)).0

    pub stops : i ≡ length w → (Final (after s (take i w)) → ⊥) → Refused (Accepts s) w Stops i
    unfolding F
    stops e n =
        let t : take i w ≡ w = take_all i w (omega arith) in
        (e, subst (λ (l : List ℕ). Open (Accepts s) l) t (begins, not_whole n))

    pub wrong_kind : i < length w → (Final (after s (take i w)) → ⊥) → ((x : ℕ) → kind_of x ≡ kind_of (get_or w i 0) → Takes (after s (take i w)) x → ⊥) → Refused (Accepts s) w Kind i
    unfolding F
    wrong_kind h n k = (h, (begins, not_whole n), λ b. k b.0 b.1 (next_taken b.0 b.2))

    pub wrong_range : i < length w → (Final (after s (take i w)) → ⊥) → (x : ℕ) → kind_of x ≡ kind_of (get_or w i 0) → Takes (after s (take i w)) x → (r : List ℕ) → Accepts (next (after s (take i w)) x) r → (Takes (after s (take i w)) (get_or w i 0) → ⊥) → Refused (Accepts s) w Range i
    unfolding F
    wrong_range h n x k t r a m = (
      h,
      (begins, not_whole n),
      (x, k, (r, subst (λ (l : List ℕ). Accepts s l) (sym (append_assoc (take i w) (x ∷ []) r)) (join s (take i w) (x ∷ r) runs (t, a)))),
      λ b. m (next_taken (get_or w i 0) (subst (λ (l : List ℕ). Begins (Accepts s) l) (take_more w i 0 h) b)),
    )

    pub follows : i < length w → Final (after s (take i w)) → Refused (Accepts s) w Follows i
    unfolding F
    follows h f =
        (h, subst (λ (l : List ℕ). Accepts s l) (append-nil (take i w)) (join s (take i w) [] runs f))
