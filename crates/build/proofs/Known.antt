-- Rows whose bus is not offered, counted on through both groups and the branches.
use Rattle.std.proofs.Common.{ℕ, List, ◌+◌, ◌<◌, length, None, sym, refl, ap, ◌∙◌, subst, inl, inr, zero-add, arith}
use Rattle.measure.specs.Rows.{Lowest, Stands, HoldsAt}
use Rattle.measure.proofs.Sums.{holds_below}
use Rattle.machine.specs.Meaning.{Meaning}
use Rattle.network.specs.declared.refusal.Refusal.{Refusal}
use Rattle.network.specs.declared.refusal.Refusal.TheVariants.{UnknownBus}
use Rattle.network.specs.declared.branch.Ends.{Ends}
use Rattle.build.specs.declared.rows.BusRow.{BusRow}
use Rattle.build.specs.declared.rows.BranchRow.{BranchRow}
use Rattle.build.specs.declared.tables.Rows.{Rows}
use Rattle.build.specs.declared.tables.Sizes.{Sizes}
use Rattle.build.specs.declared.tables.Places.{Places}
use Rattle.build.specs.Build.{Placed, EndsNamed, Matched, PlacesFound}
use Rattle.build.proofs.Standing.{ends-known}
use Rattle.build.specs.Offer.{MachineUnknown, BranchUnknown, Unknown, UnknownRow, RangesKept, Uncrossed, SizesKept, NamesKept, Refused}

-- a row of a group whose bus is found is not unknown
pub machine_known : {M : Type 0} (𝓜 : Meaning M) (buses : List BusRow) (machines : List M) (places : List ℕ) (i : ℕ) → ((m : M) → Stands machines i m → HoldsAt (λ p. Placed 𝓜 buses m p.item) places i) → MachineUnknown 𝓜 buses machines i → ⊥
machine_known 𝓜 buses machines places i found h =
    let p = found h.item h.stands in
    h.holds p.item p.holds.0

pub machines_known : {M : Type 0} (𝓜 : Meaning M) (buses : List BusRow) (machines : List M) (places : List ℕ) → Matched (Placed 𝓜 buses) machines places → Lowest (MachineUnknown 𝓜 buses machines) None
machines_known 𝓜 buses machines places f i = machine_known 𝓜 buses machines places i (f.each i)

-- a branch whose ends are found is not unknown
pub branch_known : (buses : List BusRow) (branches : List BranchRow) (ends : List Ends) (i : ℕ) → ((r : BranchRow) → Stands branches i r → HoldsAt (λ e. EndsNamed buses r e.item) ends i) → BranchUnknown buses branches i → ⊥
branch_known buses branches ends i found h =
    let p = found h.item h.stands in
    ends-known buses h.item.name.from h.item.name.to p.item p.holds h.holds

pub ends_known : (buses : List BusRow) (branches : List BranchRow) (ends : List Ends) → Matched (EndsNamed buses) branches ends → Lowest (BranchUnknown buses branches) None
ends_known buses branches ends f i = branch_known buses branches ends i (f.each i)

module _ {M N : Type 0} (𝓜 : Meaning M) (𝓝 : Meaning N) (o : Rows M N) where
  abbrev InFirst : ℕ → Type 0
  InFirst = MachineUnknown 𝓜 o.buses.now o.first.now

  abbrev InSecond : ℕ → Type 0
  InSecond = MachineUnknown 𝓝 o.buses.now o.second.now

  abbrev InBranches : ℕ → Type 0
  InBranches = BranchUnknown o.buses.now o.branches.now

  pub in_first : (e : Refusal) → UnknownRow 0 InFirst e → UnknownRow 0 (Unknown 𝓜 𝓝 o) e
  in_first e f = record { row = f.row; is = f.is; lowest = (inl f.lowest.0, lower) }
    where
      lower : (j : ℕ) → j < f.row → Unknown 𝓜 𝓝 o j → ⊥
      lower j l (inl h) = f.lowest.1 j l h
      lower j l (inr (inl h)) =
          let b = holds_below _ o.first.now f.row f.lowest.0 in
          let e = h.counted in
          omega arith
      lower j l (inr (inr h)) =
          let b = holds_below _ o.first.now f.row f.lowest.0 in
          let e = h.counted in
          omega arith

  pub in_second : (e : Refusal) → Lowest InFirst None → UnknownRow (length o.first.now) InSecond e → UnknownRow 0 (Unknown 𝓜 𝓝 o) e
  in_second e none f = record {
    row = length o.first.now + f.row;
    is = f.is ∙ ap UnknownBus (sym (zero-add _));
    lowest = (inr (inl (record { row = f.row; counted = refl; holds = f.lowest.0 })), lower);
  }
    where
      lower : (j : ℕ) → j < length o.first.now + f.row → Unknown 𝓜 𝓝 o j → ⊥
      lower j l (inl h) = none j h
      lower j l (inr (inl h)) = let e = h.counted in f.lowest.1 h.row (omega arith) h.holds
      lower j l (inr (inr h)) =
          let b = holds_below _ o.second.now f.row f.lowest.0 in
          let e = h.counted in
          omega arith

  pub in_branches : (e : Refusal) → Lowest InFirst None → Lowest InSecond None → UnknownRow (length o.first.now + length o.second.now) InBranches e → UnknownRow 0 (Unknown 𝓜 𝓝 o) e
  in_branches e None-first none-second f = record {
    row = length o.first.now + length o.second.now + f.row;
    is = f.is ∙ ap UnknownBus (sym (zero-add _));
    lowest = (inr (inr (record { row = f.row; counted = refl; holds = f.lowest.0 })), lower);
  }
    where
      lower : (j : ℕ) → j < length o.first.now + length o.second.now + f.row → Unknown 𝓜 𝓝 o j → ⊥
      lower j l (inl h) = None-first j h
      lower j l (inr (inl h)) = none-second h.row h.holds
      lower j l (inr (inr h)) = let e = h.counted in f.lowest.1 h.row (omega arith) h.holds

  pub all_known : Lowest InFirst None → Lowest InSecond None → Lowest InBranches None → Lowest (Unknown 𝓜 𝓝 o) None
  all_known a b c i (inl h) = a i h
  all_known a b c i (inr (inl h)) = b h.row h.holds
  all_known a b c i (inr (inr h)) = c h.row h.holds

  -- and back, of the branches
  pub branches_known : Lowest (Unknown 𝓜 𝓝 o) None → Lowest InBranches None
  branches_known k i h = k (length o.first.now + length o.second.now + i) (inr (inr (record { row = i; counted = refl; holds = h })))

  -- where all are found, none is unknown
  pub found_known : (p : Places) → PlacesFound 𝓜 𝓝 o p → Lowest (Unknown 𝓜 𝓝 o) None
  found_known p f =
      all_known (machines_known 𝓜 o.buses.now o.first.now p.first f.first)
      (machines_known 𝓝 o.buses.now o.second.now p.second f.second)
      (ends_known o.buses.now o.branches.now p.ends f.ends)

  pub unknown_refused : (room : Sizes ℕ) (e : Refusal) → RangesKept o → Uncrossed o → SizesKept o room → NamesKept o → UnknownRow 0 (Unknown 𝓜 𝓝 o) e → Refused 𝓜 𝓝 o room e
  unknown_refused room e ranges uncrossed sizes names u =
      subst (Refused 𝓜 𝓝 o room) (sym (u.is ∙ ap UnknownBus (zero-add u.row))) (ranges, uncrossed, sizes, names, u.lowest)
