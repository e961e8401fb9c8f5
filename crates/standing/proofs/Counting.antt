-- Each call stands under one heading at most, and the counts follow the headings.
use Rattle.std.proofs.Common.{◌≡◌, ◌+◌, false, List, [], ◌∷◌, ℤ, refl, ap, ◌∙◌, subst, arith}
use Rattle.standing.specs.Model.{Model}
use Rattle.standing.specs.Call.{Call, Offer, History}
use Rattle.standing.specs.Call.Call.{offer}
use Rattle.standing.specs.Panel.{Counts, Heading, Sheet, Priced, none_yet, raised, total}
use Rattle.standing.specs.Panel.Heading.{HELD, PASSED, DECLINED, CHANGES}
use Rattle.standing.specs.Told.{Opens, Ends, Made, CountOf, IsChange, OffersMeeting, OffersFloor, IsHeld, IsGood, Under, attendant_at, full_at, came_in_watch}
use Rattle.standing.specs.Told.CountOf.{anew, one_more, no_more}
use Rattle.standing.specs.Told.Made.{offer_made, change_made}
use Rattle.standing.specs.Told.IsChange.{taken}
use Rattle.standing.specs.Told.OffersMeeting.{meeting}
use Rattle.standing.specs.Told.OffersFloor.{lawful}
use Rattle.standing.specs.Told.IsHeld.{held_dispatch, held_floor}
use Rattle.standing.specs.Told.IsGood.{good_dispatch, good_prices}
use Rattle.standing.specs.Standing.{CountsStand, ◌⊕◌, over_all}

-- ---- sums of counts

pub counts_path : (a b : Counts) → a.held ≡ b.held → a.passed ≡ b.passed → a.declined ≡ b.declined → a.changes ≡ b.changes → a ≡ b
counts_path a b p q r t = λ i. record { held = p i; passed = q i; declined = r i; changes = t i }

raised-⊕ : (k : Heading) (a b : Counts) → a ⊕ raised k b ≡ raised k (a ⊕ b)
raised-⊕ HELD a b = counts_path _ _ (omega arith) refl refl refl
raised-⊕ PASSED a b = counts_path _ _ refl (omega arith) refl refl
raised-⊕ DECLINED a b = counts_path _ _ refl refl (omega arith) refl
raised-⊕ CHANGES a b = counts_path _ _ refl refl refl (omega arith)

-- one more in the open watch is one more over all
pub raised-over_all : (k : Heading) (n : Counts) (sheets : List Sheet) → over_all (raised k n) sheets ≡ raised k (over_all n sheets)
raised-over_all k n [] = refl
raised-over_all k n (x ∷ sheets) = ap (λ z. x.counts ⊕ z) (raised-over_all k n sheets) ∙ raised-⊕ k x.counts (over_all n sheets)

-- what moves from the watch to its sheet is counted as before
pub moved-over_all : (n : Counts) (sheets : List Sheet) → n ⊕ over_all none_yet sheets ≡ over_all n sheets
moved-over_all n [] = counts_path _ _ (omega arith) (omega arith) (omega arith) (omega arith)
moved-over_all n (x ∷ sheets) =
    counts_path (n ⊕ (x.counts ⊕ over_all none_yet sheets)) (x.counts ⊕ (n ⊕ over_all none_yet sheets)) (omega arith) (omega arith) (omega arith) (omega arith)
    ∙ ap (λ z. x.counts ⊕ z) (moved-over_all n sheets)

pub total-raised : (k : Heading) (n : Counts) → total n + 1 ≡ total (raised k n)
total-raised HELD n = omega arith
total-raised PASSED n = omega arith
total-raised DECLINED n = omega arith
total-raised CHANGES n = omega arith

-- ---- offers and changes made

module _ {m : Model} {h : History m} where
  pub made_room : {c : Call m} → Made h c → full_at h ≡ false
  made_room (offer_made f) = f
  made_room (change_made f) = f

  pub made_one_more : {c : Call m} → Made h c → came_in_watch (c ∷ h) ≡ came_in_watch h + 1
  made_one_more (offer_made f) = refl
  made_one_more (change_made f) = refl

  pub made_opens_none : {c : Call m} → Made h c → Opens c → ⊥
  made_opens_none (offer_made f) p = elim p [ ]
  made_opens_none (change_made f) p = elim p [ ]

  pub made_ends_none : {c : Call m} → Made h c → Ends c → ⊥
  made_ends_none (offer_made f) p = elim p [ ]
  made_ends_none (change_made f) p = elim p [ ]

  pub made_attendant : {c : Call m} → Made h c → attendant_at (c ∷ h) ≡ attendant_at h
  made_attendant (offer_made f) = refl
  made_attendant (change_made f) = refl

-- ---- headings

module _ {m : Model} {start : m.Case} {h : History m} where
  pub offer_no_change : {o : Offer m} → IsChange m start h (offer o) → ⊥
  offer_no_change t = elim t [ ]

  pub meeting_made : {c : Call m} {d : Priced m} → OffersMeeting m start h c d → Made h c
  meeting_made (meeting f k) = offer_made f

  pub floor_made : {c : Call m} {f : ℤ} → OffersFloor m start h c f → Made h c
  floor_made (lawful f k) = offer_made f

  pub good_made : {c : Call m} → IsGood m start h c → Made h c
  good_made (good_dispatch o) = meeting_made o
  good_made (good_prices o) = floor_made o

  pub taken_made : {c : Call m} → IsChange m start h c → Made h c
  taken_made (taken f e) = change_made f

  pub held_good : {c : Call m} → IsHeld m start h c → IsGood m start h c
  held_good (held_dispatch o) = good_dispatch o.offered
  held_good (held_floor o) = good_prices o.offered

  meeting_no_change : {c : Call m} {d : Priced m} → OffersMeeting m start h c d → IsChange m start h c → ⊥
  meeting_no_change (meeting f k) t = offer_no_change t

  floor_no_change : {c : Call m} {f : ℤ} → OffersFloor m start h c f → IsChange m start h c → ⊥
  floor_no_change (lawful f k) t = offer_no_change t

  pub good_no_change : {c : Call m} → IsGood m start h c → IsChange m start h c → ⊥
  good_no_change (good_dispatch o) t = meeting_no_change o t
  good_no_change (good_prices o) t = floor_no_change o t

module _ {m : Model} (start : m.Case) {h : History m} where
  pub under_made : (k : Heading) {c : Call m} → Under m start k h c → Made h c
  under_made HELD u = good_made (held_good u)
  under_made PASSED u = good_made u.good
  under_made DECLINED u = u.made
  under_made CHANGES u = taken_made u

  module _ {Anew : Call m → Type 0} {c : Call m} where
    -- the counts begin anew
    pub counts_anew : Anew c → CountsStand m start Anew (c ∷ h) none_yet
    counts_anew a = record { held = anew a; passed = anew a; declined = anew a; changes = anew a; all = anew a }

    module _ (Going-on : ¬ Anew c) where
      -- a call that is no offer and no change, or that meets a full watch
      pub counts_kept : {n : Counts} → ¬ Made h c → CountsStand m start Anew h n → CountsStand m start Anew (c ∷ h) n
      counts_kept quiet t =
          record {
            held = no_more Going-on (λ u. quiet (under_made HELD u)) t.held;
            passed = no_more Going-on (λ u. quiet (under_made PASSED u)) t.passed;
            declined = no_more Going-on (λ u. quiet (under_made DECLINED u)) t.declined;
            changes = no_more Going-on (λ u. quiet (under_made CHANGES u)) t.changes;
            all = no_more Going-on quiet t.all;
          }

      all_raised : (k : Heading) (n : Counts) → Under m start k h c → CountOf Anew Made h (total n) → CountOf Anew Made (c ∷ h) (total (raised k n))
      all_raised k n u t = subst (CountOf Anew Made (c ∷ h)) (total-raised k n) (one_more Going-on (under_made k u) t)

      -- a call under a heading raises that heading, and no other
      pub counts_raised : (k : Heading) {n : Counts} → Under m start k h c → CountsStand m start Anew h n → CountsStand m start Anew (c ∷ h) (raised k n)
      counts_raised HELD {n} u t =
          record {
            held = one_more Going-on u t.held;
            passed = no_more Going-on (λ p. p.not_held u) t.passed;
            declined = no_more Going-on (λ d. d.not_good (held_good u)) t.declined;
            changes = no_more Going-on (λ x. good_no_change (held_good u) x) t.changes;
            all = all_raised HELD n u t.all;
          }
      counts_raised PASSED {n} u t =
          record {
            held = no_more Going-on u.not_held t.held;
            passed = one_more Going-on u t.passed;
            declined = no_more Going-on (λ d. d.not_good u.good) t.declined;
            changes = no_more Going-on (λ x. good_no_change u.good x) t.changes;
            all = all_raised PASSED n u t.all;
          }
      counts_raised DECLINED {n} u t =
          record {
            held = no_more Going-on (λ x. u.not_good (held_good x)) t.held;
            passed = no_more Going-on (λ p. u.not_good p.good) t.passed;
            declined = one_more Going-on u t.declined;
            changes = no_more Going-on u.not_taken t.changes;
            all = all_raised DECLINED n u t.all;
          }
      counts_raised CHANGES {n} u t =
          record {
            held = no_more Going-on (λ x. good_no_change (held_good x) u) t.held;
            passed = no_more Going-on (λ p. good_no_change p.good u) t.passed;
            declined = no_more Going-on (λ d. d.not_taken u) t.declined;
            changes = one_more Going-on u t.changes;
            all = all_raised CHANGES n u t.all;
          }
