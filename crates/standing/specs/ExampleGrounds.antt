-- The network of one bus has grounds. An implementation names this proof, so it stands among the definitions.
use Rattle.std.proofs.Common.{ℕ, ◌≤◌, pos, arith}
use lib.Signed.{≤ℤ_refl}
use Rattle.std.proofs.lemmas.Int.{ints}
use Rattle.measure.specs.Fraction.{Fraction, whole, ◌≤ᶠ◌}
use Rattle.measure.proofs.Order.{mul_mono, ≤_trans}
use Rattle.standing.specs.Model.{Grounds}
use Rattle.standing.specs.Example.{one_bus}

-- a floor not above the demand is not above a power that covers it
below : (l c : ℕ) (r : Fraction) → l ≤ c → whole (pos c) ≤ᶠ r → whole (pos l) ≤ᶠ r
below l c r h k = record { cross = ≤_trans (mul_mono (pos l) (pos c) (pos r.den) (omega (arith, ints)) (omega (arith, ints, h))) k.cross }

pub one_bus_grounds : Grounds one_bus
one_bus_grounds =
    record {
      stays = λ c k x d e. tt;
      covers = λ c k d e. record { cross = ≤ℤ_refl _ };
      bounds = λ c k l e r h. below l c r e h;
    }
