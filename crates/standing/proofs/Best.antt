-- The best of what was offered since the last taken change.
use Rattle.std.proofs.Common.{◌≡◌, ◌∷◌, ◌≤ℤ◌, Some, None, Option, sym, subst, arith}
use lib.Signed.{≤ℤ_refl, <ℤ-≤ℤ_trans}
use Rattle.std.proofs.lemmas.Int.{ints, by_lt_z}
use Rattle.standing.specs.Model.{Model}
use Rattle.standing.specs.Call.{Call, History}
use Rattle.standing.specs.Panel.{Cheaper, Higher}
use Rattle.standing.specs.Step.{Improves}
use Rattle.standing.specs.Told.{IsChange, Since, BestYet}
use Rattle.standing.specs.Told.Since.{newest, earlier}

-- an order in which offers compete
pub record Ranking {A : Type 0} (Better : A → A → Type 0) : Type 1 where
  pub AtLeast : A → A → Type 0
  pub otherwise : (a b : A) → ¬ Better a b → AtLeast b a
  pub weaker : (a b : A) → Better a b → AtLeast a b
  pub same : (a : A) → AtLeast a a
  pub chain : (a b c : A) → Better a b → AtLeast b c → Better a c

abbrev pub by_cost : (m : Model) → Ranking (Cheaper {m = m})
by_cost m =
    record {
      AtLeast = λ d e. d.cost ≤ℤ e.cost;
      otherwise = λ d e n. by_lt_z d.cost e.cost (λ q. absurd (n q)) (λ q. q);
      weaker = λ d e q. omega (arith, ints);
      same = λ d. ≤ℤ_refl d.cost;
      chain = λ d e f q r. <ℤ-≤ℤ_trans q r;
    }

abbrev pub by_floor : Ranking Higher
by_floor =
    record {
      AtLeast = λ f g. g ≤ℤ f;
      otherwise = λ f g n. by_lt_z g f (λ q. absurd (n q)) (λ q. q);
      weaker = λ f g q. omega (arith, ints);
      same = λ f. ≤ℤ_refl f;
      chain = λ f g k q r. omega (arith, ints);
    }

module _ (m : Model) (start : m.Case) {A : Type 0} {Better : A → A → Type 0} (R : Ranking Better) (Offers : History m → Call m → A → Type 0) where
  pub record IsBest (h : History m) (b : A) : Type 0 where
    pub offered : Since m start Offers h b
    pub first : Since m start (BestYet m start Better Offers) h b
    pub best : (a : A) → Since m start Offers h a → R.AtLeast b a

  abbrev pub Best : History m → Option A → Type 0
  Best h None = (a : A) → Since m start Offers h a → ⊥
  Best h (Some b) = IsBest h b

module _ (m : Model) (start : m.Case) {A : Type 0} {Better : A → A → Type 0} (R : Ranking Better) (Offers : History m → Call m → A → Type 0) (h : History m) (c : Call m) where
  -- a call that offers nothing and changes nothing
  pub kept : ¬ IsChange m start h c → ((a : A) → Offers h c a → ⊥) → (o : Option A) → Best m start R Offers h o → Best m start R Offers (c ∷ h) o
  kept n none None b = was
    where
      was : (a : A) → Since m start Offers (c ∷ h) a → ⊥
      was a (newest o) = none a o
      was a (earlier k s) = b a s
  kept n none (Some x) b = record { offered = earlier n b.offered; first = earlier n b.first; best = was }
    where
      was : (a : A) → Since m start Offers (c ∷ h) a → R.AtLeast x a
      was a (newest o) = absurd (none a o)
      was a (earlier k s) = b.best a s

  -- a taken change
  pub cleared : IsChange m start h c → ((a : A) → Offers h c a → ⊥) → Best m start R Offers (c ∷ h) None
  cleared t none = was
    where
      was : (a : A) → Since m start Offers (c ∷ h) a → ⊥
      was a (newest o) = none a o
      was a (earlier k s) = k t

  -- an offer improves on what is shown exactly if it is better than all before it
  pub beats_all : (x : A) (o : Option A) → Improves Better x o → Best m start R Offers h o → (a : A) → Since m start Offers h a → Better x a
  beats_all x None e b a s = absurd (b a s)
  beats_all x (Some y) e b a s = R.chain x y a e (b.best a s)

  pub beats_shown : (x : A) (o : Option A) → Best m start R Offers h o → ((a : A) → Since m start Offers h a → Better x a) → Improves Better x o
  beats_shown x None b all = tt
  beats_shown x (Some y) b all = all y b.offered

  module _ (n : ¬ IsChange m start h c) (x : A) (off : Offers h c x) (only : (a : A) → Offers h c a → a ≡ x) where
    -- the better offer is the best from now on
    pub replaced : (o : Option A) → Improves Better x o → Best m start R Offers h o → Best m start R Offers (c ∷ h) (Some x)
    replaced o e b = record { offered = newest off; first = newest (record { offered = off; better = beats_all x o e b }); best = was }
      where
        was : (a : A) → Since m start Offers (c ∷ h) a → R.AtLeast x a
        was a (newest q) = subst (λ y. R.AtLeast x y) (sym (only a q)) (R.same x)
        was a (earlier k s) = R.weaker x a (beats_all x o e b a s)

    -- an offer that is no better leaves the best
    pub left : (o : Option A) → ¬ Improves Better x o → Best m start R Offers h o → Best m start R Offers (c ∷ h) o
    left None e b = absurd (e tt)
    left (Some y) e b = record { offered = earlier n b.offered; first = earlier n b.first; best = was }
      where
        was : (a : A) → Since m start Offers (c ∷ h) a → R.AtLeast y a
        was a (newest o) = subst (λ z. R.AtLeast y z) (sym (only a o)) (R.otherwise x y e)
        was a (earlier k s) = b.best a s
