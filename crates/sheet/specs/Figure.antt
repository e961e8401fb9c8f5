-- Figures and how they are written: in decimal, with a minus before a negative one; `-` where one is missing.
use Rattle.std.specs.Prelude.{ℕ, ◌^◌, ◌<◌, List, [], ◌∷◌, ◌++◌, ℤ, ◌-ℤ◌, IfSome, Some, None, Option, unsigned_abs}
use Rattle.std.specs.Fmt.{signed_decimal}
use Rattle.measure.specs.declared.Grains.{Grains}
use Rattle.sheet.specs.declared.gap.Gap.{Gap}

-- grains per hour as a number
abbrev pub amount_of : Option Grains → Option ℤ
amount_of None = None
amount_of (Some g) = Some g.0

-- cost less floor, where both stand
abbrev pub gap_of : Option Grains → Option Grains → Option Gap
gap_of None y = None
gap_of (Some x) None = None
gap_of (Some x) (Some y) = Some (record { 0 = x.0 -ℤ y.0 })

-- a gap as a number
abbrev pub excess_of : Option Gap → Option ℤ
excess_of None = None
excess_of (Some g) = Some g.0

abbrev pub shown : Option ℤ → List ℕ
shown None = 45 ∷ []
shown (Some z) = signed_decimal z

-- a word, a space, and a figure
abbrev pub line_of : List ℕ → Option ℤ → List ℕ
line_of word figure = word ++ (32 ∷ shown figure)

-- at most twenty digits
abbrev pub Short : Option ℤ → Type 0
Short figure = IfSome figure (λ z. unsigned_abs z < 2 ^ 64)
