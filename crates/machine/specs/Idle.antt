-- A machine whose row is out of range stands idle: it allows only 0 W, at cost 0.
use Rattle.std.specs.Prelude.{Bool, cond, ℤ, pos, MatchBool}
use Rattle.measure.specs.Fraction.{Fraction, whole, Same}

abbrev pub allowed_if : Bool → (Fraction → Type 0) → Fraction → Type 0
allowed_if ok Allowed x = MatchBool ok (Allowed x) (Same x (whole (pos 0)))

abbrev pub cost_if : Bool → (Fraction → Fraction) → Fraction → Fraction
cost_if ok cost x = cond ok (cost x) (whole (pos 0))

abbrev pub answer_if : Bool → (ℤ → ℤ) → ℤ → ℤ
answer_if ok answer z = cond ok (answer z) (pos 0)
