-- From the answers of a row that is in range to those of the machine.
use Rattle.std.proofs.Common.{◌≡◌, Bool, true, false, ℤ, pos, ◌≤ℤ◌, sym, refl, ◌∙◌}
use Rattle.std.proofs.lemmas.Bool.{cond-true, both_ways}
use Rattle.measure.specs.Range.{Within}
use Rattle.measure.specs.Fraction.{whole, Between}
use Rattle.machine.specs.Idle.{allowed_if, answer_if}
use Rattle.machine.specs.Limits.{Limits}
use Rattle.measure.proofs.Fractions.{whole_between}
use Rattle.machine.proofs.InRange.{power_within}

allowed-between : (ok : Bool) (lo hi p : ℤ) → ok ≡ true → allowed_if ok (Between lo hi) (whole p) → (lo ≤ℤ p) × (p ≤ℤ hi)
allowed-between true lo hi p t a = whole_between lo hi p a
allowed-between false lo hi p t a = absurd (both_ways false refl t)

pub allowed-within : (ok : Bool) (lo hi p : ℤ) → ok ≡ true → Limits lo hi → allowed_if ok (Between lo hi) (whole p) → Within 100000000 p
allowed-within ok lo hi p t k a = let b = allowed-between ok lo hi p t a in power_within lo hi k p b.0 b.1

pub answer_is : (ok : Bool) (answer : ℤ → ℤ) (z r : ℤ) → ok ≡ true → r ≡ answer z → r ≡ answer_if ok answer z
answer_is ok answer z r t e = e ∙ sym (cond-true ok (answer z) (pos 0) t)
