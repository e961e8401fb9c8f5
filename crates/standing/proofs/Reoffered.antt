-- The shown dispatch, offered again, is passed.
use Rattle.std.proofs.Common.{◌≡◌, ◌<ℤ◌, Some, sym, refl, ap, ◌∙◌, subst}
use lib.Signed.{≤ℤ_refl, clash_ℤ}
use Rattle.standing.specs.Model.{Model, Meets, Grounds}
use Rattle.standing.specs.Call.Offer.{dispatch}
use Rattle.standing.specs.Panel.{Heading, Priced, State, Cheaper, priced}
use Rattle.standing.specs.Panel.Heading.{PASSED}
use Rattle.standing.specs.Step.{Improves, Offered}
use Rattle.standing.specs.Step.Offered.{dispatch_held, dispatch_passed, dispatch_declined}
use Rattle.standing.specs.Theorems.{IsPassedOver, ReofferedTheorem}
use Rattle.standing.proofs.Standing.{standing_theorem}

module _ {m : Model} {s : State m} {d : m.Dispatch} (meets : Meets m s.case d) (no-cheaper : ¬ Improves Cheaper (priced s.case d) s.shown) where
  passed_alone : (k : Heading) (t : State m) → Offered s (dispatch (Some d)) k t → (k ≡ PASSED) × (t ≡ s)
  passed_alone k t (dispatch_held x q) = absurd (no-cheaper q)
  passed_alone k t (dispatch_passed x q) = (refl, refl)
  passed_alone k t (dispatch_declined x) = absurd (x meets)

  passed_over : IsPassedOver s d
  passed_over = record { passed = dispatch_passed meets no-cheaper; not_otherwise = passed_alone }

-- what is shown is not cheaper than itself
shown-no_cheaper :
    {m : Model} (s : State m) (d : Priced m) → d.cost ≡ m.counted s.case d.dispatch → s.shown ≡ Some d →
    ¬ Improves Cheaper (priced s.case d.dispatch) s.shown
shown-no_cheaper s d n e =
    subst (λ o. ¬ Improves Cheaper (priced s.case d.dispatch) o) (sym e)
    (λ q. clash_ℤ (subst (λ z. z <ℤ d.cost) (sym n) q) (≤ℤ_refl d.cost))

pub reoffered_theorem : (m : Model) → Grounds m → ReofferedTheorem m
reoffered_theorem m grounds start h sheets s d r e =
    let stands = standing_theorem m grounds start h sheets s r in
    let at-case = sym stands.case_is in
    passed_over
    (subst (λ c. Meets m c d.dispatch) at-case (stands.shown_stands.meets_now d e))
    (shown-no_cheaper s d (stands.shown_stands.at_counted_cost d e ∙ ap (λ c. m.counted c d.dispatch) at-case) e)
