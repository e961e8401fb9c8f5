-- What is refused raises DECLINED and alters nothing else.
use Rattle.std.proofs.Common.{◌≡◌, ℕ, ◌+◌, true, false, Some, None, Option, sym, refl, ap, ◌∙◌, subst, arith}
use Rattle.std.proofs.lemmas.Bool.{true≢false}
use Rattle.std.proofs.lemmas.Option.{none-some, same_Some}
use Rattle.standing.specs.Model.{Model}
use Rattle.standing.specs.Call.{Call, Offer, Question}
use Rattle.standing.specs.Call.Call.{offer, change, ask, hand_over}
use Rattle.standing.specs.Panel.{Counts, Heading, Watch, State, none_yet, raised, total, is_full, counting}
use Rattle.standing.specs.Panel.Heading.{HELD, PASSED, DECLINED, CHANGES}
use Rattle.standing.specs.Step.{Offered, ChangeMade, Step}
use Rattle.standing.specs.Step.Offered.{dispatch_held, dispatch_passed, dispatch_declined, dispatch_faulty, prices_held, prices_passed, prices_declined, prices_faulty}
use Rattle.standing.specs.Step.ChangeMade.{change_taken, change_declined, change_faulty}
use Rattle.standing.specs.Step.Step.{manned, offer_counted, change_counted, offer_too_many, change_too_many, asked, handed_over, hand_over_refused, stood_down}
use Rattle.standing.specs.Theorems.{Refused, OfferOrChange, RefusalsAlterNothing}
use Rattle.standing.specs.Theorems.Refused.{faulty_dispatch, limits_broken, faulty_prices, not_lawful, faulty_change, name_lacking}

-- a panel has one watch
module _ {o : Option Watch} {v w : Watch} (p : o ≡ Some v) (q : o ≡ Some w) where
  watch_same : v ≡ w
  watch_same = same_Some _ _ (sym p ∙ q)

  counting_same : {m : Model} {k l : Heading} {t u : State m} → (k ≡ l) × (t ≡ u) → counting k v t ≡ counting l w u
  counting_same e = λ i. counting (e.0 i) (watch_same i) (e.1 i)

  full_and_not : {A : Type 0} → is_full (total v.counts) ≡ true → is_full (total w.counts) ≡ false → A
  full_and_not f r = absurd (true≢false (sym f ∙ ap (λ z. is_full (total z.counts)) watch_same ∙ r))

-- of the headings, DECLINED alone raises what was declined
declined_alone : (k : Heading) (n : Counts) → (raised k n).declined ≡ n.declined + 1 → k ≡ DECLINED
declined_alone HELD n e = absurd (omega (arith, e))
declined_alone PASSED n e = absurd (omega (arith, e))
declined_alone DECLINED n e = refl
declined_alone CHANGES n e = absurd (omega (arith, e))

declined_heading :
    (k : Heading) (u v w : Watch) → Some (record { attendant = u.attendant; counts = raised k u.counts }) ≡ Some v → u ≡ w →
    v.counts.declined ≡ w.counts.declined + 1 → k ≡ DECLINED
declined_heading k u v w e q n =
    declined_alone k u.counts (ap (λ z. z.counts.declined) (same_Some _ _ e) ∙ n ∙ ap (λ z. z.counts.declined + 1) (sym q))

-- a watch that is as it was has declined no more
not_raised : {A : Type 0} (v w : Watch) → v ≡ w → v.counts.declined ≡ w.counts.declined + 1 → A
not_raised v w e n = let k : v.counts.declined ≡ w.counts.declined = ap (λ z. z.counts.declined) e in absurd (omega (arith, k, n))

none-raised : {A : Type 0} (a : ℕ) (v w : Watch) → Some (record { attendant = a; counts = none_yet }) ≡ Some v → v.counts.declined ≡ w.counts.declined + 1 → A
none-raised a v w e n = let k : 0 ≡ v.counts.declined = ap (λ z. z.counts.declined) (same_Some _ _ e) in absurd (omega (arith, k, n))

module _ {m : Model} where
  offer_refused : {s : State m} {o : Offer m} {k : Heading} {t : State m} → Offered s o k t → Refused s (offer o) → (k ≡ DECLINED) × (t ≡ s)
  offer_refused (dispatch_held x q) (limits_broken n) = absurd (n x)
  offer_refused (dispatch_passed x q) (limits_broken n) = absurd (n x)
  offer_refused (dispatch_declined x) (limits_broken n) = (refl, refl)
  offer_refused dispatch_faulty faulty_dispatch = (refl, refl)
  offer_refused (prices_held x q) (not_lawful n) = absurd (n x)
  offer_refused (prices_passed x q) (not_lawful n) = absurd (n x)
  offer_refused (prices_declined x) (not_lawful n) = (refl, refl)
  offer_refused prices_faulty faulty_prices = (refl, refl)

  change_refused : {s : State m} {x : Option m.Change} {k : Heading} {t : State m} → ChangeMade s x k t → Refused s (change x) → (k ≡ DECLINED) × (t ≡ s)
  change_refused (change_taken e) (name_lacking n) = absurd (none-some _ (sym n ∙ e))
  change_refused (change_declined e) (name_lacking n) = (refl, refl)
  change_refused change_faulty faulty_change = (refl, refl)

  refused : (c : Call m) (s t : State m) (w : Watch) → Step c s t → s.watch ≡ Some w → is_full (total w.counts) ≡ false → Refused s c → t ≡ counting DECLINED w s
  refused c s t w (manned p) q r x = elim x [ ]
  refused c s t w (offer_counted p f y) q r x = counting_same p q (offer_refused y x)
  refused c s t w (change_counted p f y) q r x = counting_same p q (change_refused y x)
  refused c s t w (offer_too_many p f) q r x = full_and_not p q f r
  refused c s t w (change_too_many p f) q r x = full_and_not p q f r
  refused c s t w (asked y) q r x = elim x [ ]
  refused c s t w (handed_over p) q r x = elim x [ ]
  refused c s t w (hand_over_refused p) q r x = elim x [ ]
  refused c s t w (stood_down p) q r x = elim x [ ]

  declined_offer : {s : State m} {o : Offer m} {t : State m} → Offered s o DECLINED t → Refused s (offer o)
  declined_offer (dispatch_declined x) = limits_broken x
  declined_offer dispatch_faulty = faulty_dispatch
  declined_offer (prices_declined x) = not_lawful x
  declined_offer prices_faulty = faulty_prices

  declined_change : {s : State m} {x : Option m.Change} {t : State m} → ChangeMade s x DECLINED t → Refused s (change x)
  declined_change (change_declined e) = name_lacking e
  declined_change change_faulty = faulty_change

  only_refused :
      (c : Call m) (s t : State m) (w v : Watch) → Step c s t → s.watch ≡ Some w → t.watch ≡ Some v → v.counts.declined ≡ w.counts.declined + 1 → Refused s c
  only_refused c s t w v (manned p) q e n = absurd (none-some _ (sym p ∙ q))
  only_refused c s t w v (offer_counted {t = u} {o = o} {k = k} {w = x} p f y) q e n =
      declined_offer (subst (λ z. Offered s o z u) (declined_heading k x v w e (watch_same p q) n) y)
  only_refused c s t w v (change_counted {t = u} {x = x} {k = k} {w = z} p f y) q e n =
      declined_change (subst (λ l. ChangeMade s x l u) (declined_heading k z v w e (watch_same p q) n) y)
  only_refused c s t w v (offer_too_many p f) q e n = not_raised v w (watch_same e q) n
  only_refused c s t w v (change_too_many p f) q e n = not_raised v w (watch_same e q) n
  only_refused c s t w v (asked y) q e n = not_raised v w (watch_same e q) n
  only_refused c s t w v (handed_over {a = a} p) q e n = none-raised a v w e n
  only_refused c s t w v (hand_over_refused p) q e n = not_raised v w (watch_same e q) n
  only_refused c s t w v (stood_down p) q e n = absurd (none-some _ e)

  too_many : (c : Call m) (s t : State m) (w : Watch) → Step c s t → s.watch ≡ Some w → is_full (total w.counts) ≡ true → OfferOrChange c → t ≡ s
  too_many c s t w (manned p) q f x = elim x [ ]
  too_many c s t w (offer_counted p r y) q f x = full_and_not q p f r
  too_many c s t w (change_counted p r y) q f x = full_and_not q p f r
  too_many c s t w (offer_too_many p r) q f x = refl
  too_many c s t w (change_too_many p r) q f x = refl
  too_many c s t w (asked y) q f x = elim x [ ]
  too_many c s t w (handed_over p) q f x = elim x [ ]
  too_many c s t w (hand_over_refused p) q f x = elim x [ ]
  too_many c s t w (stood_down p) q f x = elim x [ ]

  asked_left : (q : Question) (s t : State m) → Step (ask q) s t → t ≡ s
  asked_left q s t (asked x) = refl

  hand_over_left : (s t : State m) → Step (hand_over None) s t → t ≡ s
  hand_over_left s t (hand_over_refused p) = refl

pub refusals_alter_nothing : (m : Model) → RefusalsAlterNothing m
refusals_alter_nothing m = record { refused = refused; only_refused = only_refused; too_many = too_many; asked = asked_left; hand_over_refused = hand_over_left }
