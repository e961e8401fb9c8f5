-- Buses and branches that are made of their rows, one after another.
use Rattle.std.proofs.Common.{◌≡◌, ℕ, ◌+◌, ◌<◌, List, Option, Some, None, MatchOption, length, get_or, set, sym, subst}
use Rattle.std.specs.Option.{IsSome}
use Rattle.measure.specs.Rows.{Lowest}
use Rattle.measure.proofs.Sums.{stands_one}
use Rattle.network.specs.declared.bus.Bus.{Bus}
use Rattle.network.specs.declared.branch.Branch.{Branch}
use Rattle.network.specs.declared.branch.Ends.{Ends}
use Rattle.build.specs.declared.rows.BusRow.{BusRow}
use Rattle.build.specs.declared.rows.BranchRow.{BranchRow}
use Rattle.build.specs.Raw.{BusInRange, BranchInRange, CrossedLimits, BusOf, BranchOf}
use Rattle.build.specs.Offer.{BusOutOfRange, BranchOutOfRange, BranchCrossed}
use Rattle.build.specs.Build.{EndsNamed, Filled, Joined, Matched}
use Rattle.build.proofs.Standing.{stands_at, joined}
use Rattle.build.proofs.Filling.{filled_more, some_made}

module _ (rows : List BusRow) (i : ℕ) (d : BusRow) (r : Option Bus) (made : MatchOption r (BusInRange (get_or rows i d) → ⊥) (λ b. BusOf (get_or rows i d) b)) (within : i < length rows) where
  pub bus_made : Lowest (BusOutOfRange rows) None → IsSome r
  bus_made ranges =
      some_made (λ o. MatchOption o (BusInRange (get_or rows i d) → ⊥) (λ b. BusOf (get_or rows i d) b)) r made
      (λ out. ranges i (record { item = get_or rows i d; stands = stands_at rows i d within; holds = out }))

  pub bus_filled : (before after : List Bus) (b : Bus) → r ≡ Some b → i < length after → Filled BusOf rows before after i → Filled BusOf rows before (set after i b) (i + 1)
  bus_filled before after b is room f =
      filled_more BusOf rows before after i (get_or rows i d) b room (stands_at rows i d within)
      (subst (λ o. MatchOption o (BusInRange (get_or rows i d) → ⊥) (λ c. BusOf (get_or rows i d) c)) is made) f

module _ (rows : List BranchRow) (i : ℕ) (d : BranchRow) (e : Ends) (r : Option Branch) (made : MatchOption r (BranchInRange (get_or rows i d) → (CrossedLimits (get_or rows i d) → ⊥) → ⊥) (λ b. BranchOf (get_or rows i d) e b)) (within : i < length rows) where
  pub branch_made : Lowest (BranchOutOfRange rows) None → Lowest (BranchCrossed rows) None → IsSome r
  branch_made ranges uncrossed =
      let row = get_or rows i d in
      let stands = stands_at rows i d within in
      some_made (λ o. MatchOption o (BranchInRange row → (CrossedLimits row → ⊥) → ⊥) (λ b. BranchOf row e b)) r made
      (λ none. ranges i (record {
        item = row;
        stands = stands;
        holds = λ ranged. none ranged (λ crossed. uncrossed i (record { item = row; stands = stands; holds = crossed }));
      }))

  -- between the ends that were found, in that row of their table
  pub branch_filled : (ends : List Ends) (c : Ends) → e ≡ get_or ends i c → i < length ends → (before after : List Branch) (b : Branch) → r ≡ Some b → i < length after → (buses : List BusRow) → Matched (EndsNamed buses) rows ends → Filled (Joined buses) rows before after i → Filled (Joined buses) rows before (set after i b) (i + 1)
  branch_filled ends c at long before after b is room buses m f =
      let row = get_or rows i d in
      let stands = stands_at rows i d within in
      let found = m.each i row stands in
      let same = stands_one ends i found.item (get_or ends i c) found.stands (stands_at ends i c long) in
      let named : EndsNamed buses row e = subst (EndsNamed buses row) (sym at) (subst (EndsNamed buses row) same found.holds) in
      let branch_of : BranchOf row e b = subst (λ o. MatchOption o (BranchInRange row → (CrossedLimits row → ⊥) → ⊥) (λ k. BranchOf row e k)) is made in
      filled_more (Joined buses) rows before after i row b room stands (joined buses row e b named branch_of) f
