-- A result whose error is told otherwise: the value is the same.
use Rattle.std.proofs.Common.{◌≡◌, subst}
use Rattle.std.proofs.Common.{Result, Ok, Err}
use Rattle.std.specs.Result.{MatchResult, IsErrAnd}

pub value_told : {T E F : Type 0} (r : Result T E) (s : Result T F) (R : E → F → Type 0) (x : T) → s ≡ Ok x → MatchResult r (λ y. s ≡ Ok y) (λ e. IsErrAnd s (R e)) → r ≡ Ok x
value_told (Ok y) s R x e k = cc
value_told (Err d) s R x e k = absurd (subst (λ v. IsErrAnd v (R d)) e k)
