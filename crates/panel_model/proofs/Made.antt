-- What becomes of a change, by the row that its name finds.
use Rattle.std.proofs.Common.{◌≡◌, ℕ, Bool, Some, None, Option, ap}
use Rattle.std.specs.Option.{option_map}
use Rattle.measure.specs.Range.{Within}
use Rattle.measure.specs.Rows.{Lowest}
use Rattle.measure.specs.declared.Watts.{Watts}
use Rattle.names.specs.declared.branch.BranchName.{BranchName}
use Rattle.machine.specs.Meaning.{Meaning}
use Rattle.network.specs.Model.{Case}
use Rattle.pricing.specs.Outage.{marked, NamedRow}
use Rattle.panel_model.specs.Change.{changed, demanding, with_row, with_buses, with_branches}
use Rattle.panel_model.specs.Change.Change.{demand, mark}
use Rattle.panel_model.specs.Laws.{NamedBus}
use Rattle.panel_model.specs.Network.{SizedCase, in_place, network}
use Rattle.panel_model.proofs.Lookups.{bus_row_is, branch_row_is}

module _ {M N : Type 0} (c : Case M N) where
  pub demand_made : (name : ℕ) (watts : Watts) (ok : Within 100000000 watts.0) (o : Option ℕ) → Lowest (NamedBus c name) o → changed c (demand name watts ok) ≡ option_map (λ i. with_buses c (with_row (demanding watts ok) c.buses i)) o
  demand_made name watts ok o l =
      ap (option_map (λ (i : ℕ). with_buses c (with_row (demanding watts ok) c.buses i))) (bus_row_is name c.buses o l)

  pub mark_made : (name : BranchName) (service : Bool) (o : Option ℕ) → Lowest (NamedRow c name) o → changed c (mark name service) ≡ option_map (λ i. with_branches c (with_row (marked service) c.branches i)) o
  mark_made name service o l =
      ap (option_map (λ (i : ℕ). with_branches c (with_row (marked service) c.branches i))) (branch_row_is name c.branches o l)

module _ {M N : Type 0} (𝓜 : Meaning M) (𝓝 : Meaning N) (s : SizedCase M N) where
  -- a change of demand, and of mark, is taken where the name is found, and not where it is lacking
  pub demand_taken : (name : ℕ) (watts : Watts) (ok : Within 100000000 watts.0) (i : ℕ) → Lowest (NamedBus s.case name) (Some i) → (network 𝓜 𝓝).changed s (demand name watts ok) ≡ Some (in_place s (with_buses s.case (with_row (demanding watts ok) s.case.buses i)))
  demand_taken name watts ok i l = ap (option_map (in_place s)) (demand_made s.case name watts ok (Some i) l)

  pub demand_lacking : (name : ℕ) (watts : Watts) (ok : Within 100000000 watts.0) → Lowest (NamedBus s.case name) None → (network 𝓜 𝓝).changed s (demand name watts ok) ≡ None
  demand_lacking name watts ok l = ap (option_map (in_place s)) (demand_made s.case name watts ok None l)

  pub mark_taken : (name : BranchName) (service : Bool) (i : ℕ) → Lowest (NamedRow s.case name) (Some i) → (network 𝓜 𝓝).changed s (mark name service) ≡ Some (in_place s (with_branches s.case (with_row (marked service) s.case.branches i)))
  mark_taken name service i l = ap (option_map (in_place s)) (mark_made s.case name service (Some i) l)

  pub mark_lacking : (name : BranchName) (service : Bool) → Lowest (NamedRow s.case name) None → (network 𝓜 𝓝).changed s (mark name service) ≡ None
  mark_lacking name service l = ap (option_map (in_place s)) (mark_made s.case name service None l)
