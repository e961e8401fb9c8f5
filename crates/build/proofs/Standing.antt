-- Rows of tables, read by their numbers.
use Rattle.std.proofs.Common.{ℕ, zero, suc, ◌<◌, List, [], ◌∷◌, Option, Some, None, MatchOption, length, get_or, sym, refl, subst, inl, inr, arith}
use Rattle.measure.specs.Rows.{Stands}
use Rattle.network.specs.declared.branch.Branch.{Branch}
use Rattle.network.specs.declared.branch.Ends.{Ends}
use Rattle.build.specs.declared.rows.BusRow.{BusRow}
use Rattle.build.specs.declared.rows.BranchRow.{BranchRow}
use Rattle.build.specs.Raw.{BranchOf}
use Rattle.build.specs.Offer.{Found, EndsFound, EndsUnknown}
use Rattle.build.specs.Build.{Joined}

pub stands_at : {X : Type 0} (xs : List X) (i : ℕ) (d : X) → i < length xs → Stands xs i (get_or xs i d)
unfolding Stands
stands_at [] i d h = absurd (omega arith)
stands_at (x ∷ xs) zero d h = refl
stands_at (x ∷ xs) (suc i) d h = stands_at xs i d (omega arith)

-- ends that are found are not unknown
pub ends-known : (buses : List BusRow) (from to : ℕ) (e : Ends) → EndsFound buses from to e → EndsUnknown buses from to → ⊥
ends-known buses from to e f (inl lacks) = lacks e.from f.from_row.0
ends-known buses from to e f (inr (inl lacks)) = lacks e.to f.to_row.0
ends-known buses from to e f (inr (inr same)) = f.differ same

-- the branch of a row between the ends that are found
pub joined : (buses : List BusRow) (r : BranchRow) (e : Ends) (b : Branch) → EndsFound buses r.name.from r.name.to e → BranchOf r e b → Joined buses r b
joined buses r e b f k = record {
  from = subst (λ (n : Ends). Found buses r.name.from n.from) (sym k.ends) f.from_row;
  to = subst (λ (n : Ends). Found buses r.name.to n.to) (sym k.ends) f.to_row;
  row = subst (λ (n : Ends). BranchOf r n b) (sym k.ends) k;
}

-- the same of an option, said by weaker relations
pub option_as : {X : Type 0} {N N' : Type 0} {S S' : X → Type 0} (r : Option X) → (N → N') → ((x : X) → S x → S' x) → MatchOption r N S → MatchOption r N' S'
option_as None none some h = none h
option_as (Some x) none some h = some x h
