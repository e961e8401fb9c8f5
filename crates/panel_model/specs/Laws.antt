-- What a change does to a case, told row by row.
use Rattle.std.specs.Prelude.{◌≡◌, ℕ, Bool, ◌↔◌, Some, None, Option, IsSome}
use Rattle.measure.specs.Range.{Within}
use Rattle.measure.specs.Rows.{HoldsAt, Lowest}
use Rattle.measure.specs.declared.Watts.{Watts}
use Rattle.names.specs.Names.{HasName}
use Rattle.names.specs.declared.branch.BranchName.{BranchName}
use Rattle.network.specs.declared.bus.Bus.{Bus}
use Rattle.network.specs.Model.{Case}
use Rattle.pricing.specs.Outage.{NamedRow}
use Rattle.pricing.specs.Laws.{OneRowChanged, OnlyMark}
use Rattle.panel_model.specs.Change.{changed}
use Rattle.panel_model.specs.Change.Change.{demand, mark}

-- a bus is as before, but draws that power
pub record Demanding (watts : Watts) (before after : Bus) : Type 0 where
  pub demand_is : after.demand ≡ watts
  pub name_kept : after.name ≡ before.name

-- a case is as before, but the bus in row i draws that power
pub record OnlyDemand {M N : Type 0} (watts : Watts) (before : Case M N) (i : ℕ) (after : Case M N) : Type 0 where
  pub buses_changed : OneRowChanged (Demanding watts) before.buses after.buses i
  pub tolerance_kept : after.tolerance ≡ before.tolerance
  pub first_kept : after.first ≡ before.first
  pub second_kept : after.second ≡ before.second
  pub branches_kept : after.branches ≡ before.branches

-- the bus in row i of the case has that name
abbrev pub NamedBus : {M N : Type 0} → Case M N → ℕ → ℕ → Type 0
NamedBus c name = HoldsAt (HasName ◌≡◌ (λ (b : Bus). b.name) name) c.buses

-- what a change makes of a case, given the rows that have its name and what it does to one of them
pub record MadeByName {M N : Type 0} (Named : ℕ → Type 0) (Does : ℕ → Case M N → Type 0) (made : Option (Case M N)) : Type 0 where
  -- it is made exactly if some row has the name
  pub made_if_named : IsSome made ↔ ((i : ℕ) × Named i)
  pub else_none : ((i : ℕ) → ¬ Named i) → made ≡ None
  -- of several rows that have it, the lowest is changed
  pub lowest_changed : (after : Case M N) → made ≡ Some after → (i : ℕ) × Lowest Named (Some i) × Does i after

-- a change of demand alters the demand of the named bus, a change of mark the service mark of the named branch, and neither anything else
pub record ChangesTold (M N : Type 0) : Type 0 where
  pub demand_told :
      (c : Case M N) (name : ℕ) (watts : Watts) (ok : Within 100000000 watts.0) →
      MadeByName (NamedBus c name) (OnlyDemand watts c) (changed c (demand name watts ok))
  pub mark_told :
      (c : Case M N) (name : BranchName) (service : Bool) → MadeByName (NamedRow c name) (OnlyMark service c) (changed c (mark name service))
