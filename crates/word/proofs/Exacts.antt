-- A form none of whose papers begins another is read in one way.
use Rattle.std.proofs.Common.{◌≡◌, ℕ, ◌+◌, ◌<◌, ◌≤◌, ◌⊎◌, List, [], ◌∷◌, ◌++◌, length, get_or, take, drop, sym, refl, ap, ◌∙◌, subst, inl, inr, arith}
use Rattle.std.proofs.lemmas.List.{append-nil, take-append-drop, take-take, append_assoc, take_more, take_all}
use Rattle.std.proofs.lemmas.Bool.{cases_order}
use Rattle.word.specs.Form.{Form, Begins, Refused}
use Rattle.word.specs.Form.{Ended, Exact}
use Rattle.word.specs.declared.fault.WordRefusal.{WordRefusal}
use Rattle.word.specs.declared.fault.WordRefusal.TheVariants.{Stops, Kind, Range, Follows}

module _ (F : Form) (ended : Ended F) where
  -- a front of what begins a paper begins it
  front : (w : List ℕ) (i j : ℕ) → i ≤ j → Begins F (take j w) → Begins F (take i w)
  front w i j h b =
      let e : take j w ≡ take i w ++ drop i (take j w) =
      sym (take-append-drop i (take j w)) ∙ ap (λ (l : List ℕ). l ++ drop i (take j w)) (take-take i j w h) in
      let g = subst (λ (l : List ℕ). F (l ++ b.0)) e b.1 in
      (drop i (take j w) ++ b.0, subst F (append_assoc (take i w) (drop i (take j w)) b.0) g)

  -- the words before k begin a paper, and one word more does not
  abbrev Edge : List ℕ → ℕ → Type 0
  Edge w k = Begins F (take k w) × ((k ≡ length w) ⊎ ((k < length w) × (Begins F (take (k + 1) w) → ⊥)))

  one_more : (w : List ℕ) (k : ℕ) → k < length w → Begins F (take (k + 1) w) → Begins F (take k w ++ (get_or w k 0 ∷ []))
  one_more w k h b = subst (λ (l : List ℕ). Begins F l) (take_more w k 0 h) b

  edge : (w : List ℕ) (r : WordRefusal) (k : ℕ) → Refused F w r k → Edge w k
  edge w Stops k f =
      let e : take k w ≡ w = take_all k w (omega arith) in
      (subst (λ (l : List ℕ). Begins F l) (sym e) f.1.0, inl f.0)
  edge w Kind k f =
      (f.1.0, inr (f.0, λ b. f.2 (get_or w k 0, refl, one_more w k f.0 b)))
  edge w Range k f = (f.1.0, inr (f.0, f.3))
  edge w Follows k f = (
    ([], subst F (sym (append-nil (take k w))) f.1),
    inr (
      f.0,
      λ b. let c = one_more w k f.0 b in
          ended (take k w) (get_or w k 0) c.0 f.1 (subst F (append_assoc (take k w) (get_or w k 0 ∷ []) c.0) c.1),
    ),
  )

  edges : (w : List ℕ) (i j : ℕ) → j ≤ length w → Edge w i → Edge w j → i < j → ⊥
  edges w i j h (b, inl e) d l = omega arith
  edges w i j h (b, inr n) d l = n.1 (front w (i + 1) j (omega arith) d.0)

  within : (w : List ℕ) (k : ℕ) → Edge w k → k ≤ length w
  within w k (b, inl e) = omega arith
  within w k (b, inr n) = omega arith

  reason : (w : List ℕ) (r r' : WordRefusal) (k : ℕ) → Refused F w r k → Refused F w r' k → r ≡ r'
  reason w Stops Stops k f g = refl
  reason w Stops Kind k f g = absurd (omega arith)
  reason w Stops Range k f g = absurd (omega arith)
  reason w Stops Follows k f g = absurd (omega arith)
  reason w Kind Stops k f g = absurd (omega arith)
  reason w Kind Kind k f g = refl
  reason w Kind Range k f g = absurd (f.2 g.2)
  reason w Kind Follows k f g = absurd (f.1.1 g.1)
  reason w Range Stops k f g = absurd (omega arith)
  reason w Range Kind k f g = absurd (g.2 f.2)
  reason w Range Range k f g = refl
  reason w Range Follows k f g = absurd (f.1.1 g.1)
  reason w Follows Stops k f g = absurd (omega arith)
  reason w Follows Kind k f g = absurd (g.1.1 f.1)
  reason w Follows Range k f g = absurd (g.1.1 f.1)
  reason w Follows Follows k f g = refl

  once' : (w : List ℕ) (r r' : WordRefusal) (k k' : ℕ) → Refused F w r k → Refused F w r' k' → (r ≡ r') × (k ≡ k')
  once' w r r' k k' f g =
      elim (cases_order k k') [
        | inl e ↦ (reason w r r' k f (subst (λ (n : ℕ). Refused F w r' n) (sym e) g), e)
        | inr o ↦ elim o [
          | inl l ↦ absurd (edges w k k' (within w k' (edge w r' k' g)) (edge w r k f) (edge w r' k' g) l)
          | inr l ↦ absurd (edges w k' k (within w k (edge w r k f)) (edge w r' k' g) (edge w r k f) l)
        ]
      ]

  whole_begins : (w : List ℕ) (k : ℕ) → F w → Begins F (take k w)
  whole_begins w k f = (drop k w, subst F (sym (take-append-drop k w)) f)

  taken : (w : List ℕ) (r : WordRefusal) (k : ℕ) → F w → Refused F w r k → ⊥
  taken w Stops k f g = g.1.1 f
  taken w Kind k f g = g.2 (get_or w k 0, refl, one_more w k g.0 (whole_begins w (k + 1) f))
  taken w Range k f g = g.3 (whole_begins w (k + 1) f)
  taken w Follows k f g =
      let c = one_more w k g.0 (whole_begins w (k + 1) f) in
      ended (take k w) (get_or w k 0) c.0 g.1 (subst F (append_assoc (take k w) (get_or w k 0 ∷ []) c.0) c.1)

  pub exact : Exact F
  exact = record { accepted = taken; once = once' }
