-- The run of the example, step by step.
use Rattle.std.proofs.Common.{ℕ, ◌<◌, ◌≤◌, pos, ◌*ℤ◌, ◌≤ℤ◌, ◌<ℤ◌, refl, arith, lit≤}
use Rattle.std.proofs.lemmas.Int.{ints}
use Rattle.measure.specs.Fraction.{whole, ◌≤ᶠ◌}
use Rattle.standing.specs.Example.{ExampleRun}
use Rattle.standing.specs.Step.Offered.{dispatch_held, dispatch_passed, dispatch_declined, dispatch_faulty, prices_held, prices_declined}
use Rattle.standing.specs.Step.ChangeMade.{change_taken, change_declined}
use Rattle.standing.specs.Step.MayAsk.{trial_manned}
use Rattle.standing.specs.Step.Step.{manned, offer_counted, change_counted, asked, handed_over, hand_over_refused, stood_down}
use Rattle.standing.specs.Run.Run.{new, called}

at_most : (a b : ℕ) → a ≤ b → whole (pos a) ≤ᶠ whole (pos b)
at_most a b h = record { cross = omega (arith, ints, h) }

not_most : (a b : ℕ) → b < a → ¬ (whole (pos a) ≤ᶠ whole (pos b))
not_most a b h k = let c : (pos a *ℤ pos 1) ≤ℤ (pos b *ℤ pos 1) = k.cross in omega (arith, ints, h, c)

not_cheaper : (a b : ℕ) → b ≤ a → ¬ (pos a <ℤ pos b)
not_cheaper a b h k = omega (arith, ints, h, k)

not_within : (a b : ℕ) → b < a → ¬ (a ≤ b)
not_within a b h k = omega (arith, h, k)

pub run : ExampleRun
run =
    called
    (called
    (called
    (called
    (called
    (called
    (called
    (called
    (called
    (called
    (called
    (called
    (called
    (called (new tt) (manned refl))
    (offer_counted refl refl (dispatch_held (record { fits = tt; in_fractions = at_most 5 6 (lit≤ tt) }) tt)))
    (offer_counted refl refl (dispatch_passed (record { fits = tt; in_fractions = at_most 5 9 (lit≤ tt) }) (not_cheaper 9 6 (lit≤ tt)))))
    (offer_counted refl refl (dispatch_declined (λ k. not_most 5 3 (lit≤ tt) k.in_fractions))))
    (offer_counted refl refl dispatch_faulty))
    (offer_counted refl refl (prices_held (lit≤ tt) tt)))
    (asked (trial_manned refl)))
    (change_counted refl refl (change_declined refl)))
    (change_counted refl refl (change_taken refl)))
    (hand_over_refused refl))
    (handed_over refl))
    (offer_counted refl refl (dispatch_held (record { fits = tt; in_fractions = at_most 8 8 (lit≤ tt) }) tt)))
    (offer_counted refl refl (prices_declined (not_within 9 8 (lit≤ tt)))))
    (stood_down refl)
