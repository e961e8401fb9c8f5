-- How long a figure is, and how a line follows those before it.
use Rattle.std.proofs.Common.{◌≡◌, ℕ, suc, ◌≤◌, List, [], ◌∷◌, ◌++◌, length, ℤ, pos, negsuc, Some, None, Option, append_assoc, arith, rules}
use Rattle.std.proofs.lemmas.Fmt.{length-decimal-le}
use Rattle.sheet.specs.Figure.{Short, shown}
use Rattle.sheet.specs.Lines.{ended}

pub shown_short : (figure : Option ℤ) → Short figure → length (shown figure) ≤ 21
shown_short None s = omega arith
shown_short (Some (pos n)) s = search (rules, length-decimal-le 20)
shown_short (Some (negsuc n)) s = omega (arith, length-decimal-le 20 (suc n) (omega arith) (omega arith) s)

-- lines written one after another
pub eight_ended : (a b c d e f g h : List ℕ) →
    (((((((a ++ (10 ∷ [])) ++ (b ++ (10 ∷ []))) ++ (c ++ (10 ∷ []))) ++ (d ++ (10 ∷ []))) ++ (e ++ (10 ∷ []))) ++ (f ++ (10 ∷ []))) ++ (g ++ (10 ∷ []))) ++ (h ++ (10 ∷ []))
    ≡ ended (a ∷ b ∷ c ∷ d ∷ e ∷ f ∷ g ∷ h ∷ [])
eight_ended a b c d e f g h = simp append_assoc
