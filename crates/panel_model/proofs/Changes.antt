-- A change leaves a well-formed case.
use Rattle.std.proofs.Common.{◌≡◌, ℕ, ◌+◌, ◌≤◌, Bool, List, length, Some, None, Option, sym, refl, ap, ◌∙◌, subst}
use Rattle.std.proofs.lemmas.Option.{none-some, same_Some}
use Rattle.std.specs.Option.{option_map}
use Rattle.measure.specs.Range.{Within}
use Rattle.measure.specs.Rows.{Stands}
use Rattle.measure.specs.declared.Watts.{Watts}
use Rattle.names.specs.Names.{Distinct}
use Rattle.names.specs.declared.branch.BranchName.{BranchName}
use Rattle.machine.specs.Meaning.{Meaning}
use Rattle.network.specs.declared.bus.Bus.{Bus}
use Rattle.network.specs.declared.branch.Branch.{Branch}
use Rattle.network.specs.declared.branch.Ends.{Ends}
use Rattle.network.specs.Model.{Case, Group}
use Rattle.build.specs.Build.{WellFormed, TheRow}
use Rattle.pricing.specs.Outage.{marked}
use Rattle.panel_model.specs.Change.{Change, changed, demanding, with_row, with_buses, with_branches, row_where, is_bus, is_branch}
use Rattle.panel_model.specs.Change.Change.{demand, mark}
use Rattle.panel_model.specs.Network.{SizedCase, in_place, WellSized}
use Rattle.panel_model.proofs.Rows.{length_with_row, row_before, row_after}

-- names that differ still differ
still_distinct : {X K : Type 0} (f : X → X) (name : X → K) (keeps : (x : X) → name (f x) ≡ name x) (xs : List X) (i : ℕ) → Distinct ◌≡◌ name xs → Distinct ◌≡◌ name (with_row f xs i)
still_distinct f name keeps xs i d = record {
  one_row = λ j k x y s t e.
      let p = row_before f name keeps xs i j x s in
      let q = row_before f name keeps xs i k y t in
      d.one_row j k p.0 q.0 p.1 q.1 (sym p.2 ∙ e ∙ q.2);
}

module _ (watts : Watts) (ok : Within 100000000 watts.0) (buses : List Bus) (i : ℕ) where
  still_the_row : (name j : ℕ) → TheRow buses name j → TheRow (with_row (demanding watts ok) buses i) name j
  still_the_row name j r =
      let a = row_after (demanding watts ok) (λ b. b.name) (λ b. refl) buses i j r.has.item r.has.stands in
      record {
        has = record { item = a.0; stands = a.1; holds = a.2 ∙ r.has.holds };
        one = λ k h.
            let p = row_before (demanding watts ok) (λ b. b.name) (λ b. refl) buses i k h.item h.stands in
            r.one k (record { item = p.0; stands = p.1; holds = sym p.2 ∙ h.holds });
      }

module _ {M N : Type 0} (𝓜 : Meaning M) (𝓝 : Meaning N) (c : Case M N) (w : WellFormed 𝓜 𝓝 c) where
  demand_formed : (watts : Watts) (ok : Within 100000000 watts.0) (i : ℕ) → WellFormed 𝓜 𝓝 (with_buses c (with_row (demanding watts ok) c.buses i))
  demand_formed watts ok i =
      let row = still_the_row watts ok c.buses i in
      record {
        tolerance = w.tolerance;
        bus_count = subst (λ n. (1 ≤ n) × (n ≤ 100)) (sym (length_with_row (demanding watts ok) c.buses i)) w.bus_count;
        first_count = w.first_count;
        second_count = w.second_count;
        branch_count = w.branch_count;
        bus_names = still_distinct (demanding watts ok) (λ b. b.name) (λ b. refl) c.buses i w.bus_names;
        branch_names = w.branch_names;
        first_places = λ j m s. row (𝓜.bus m) (c.first.place j) (w.first_places j m s);
        second_places = λ j m s. row (𝓝.bus m) (c.second.place j) (w.second_places j m s);
        from_ends = λ j b s. row b.name.from b.ends.from (w.from_ends j b s);
        to_ends = λ j b s. row b.name.to b.ends.to (w.to_ends j b s);
        ends_differ = w.ends_differ;
      }

  -- what the name and the ends of a branch keep, the branch with another mark keeps
  mark_kept : (service : Bool) (i : ℕ) (P : BranchName → Ends → Type 0) → ((j : ℕ) (b : Branch) → Stands c.branches j b → P b.name b.ends) → (j : ℕ) (b : Branch) → Stands (with_row (marked service) c.branches i) j b → P b.name b.ends
  mark_kept service i P all j b s =
      let key : Branch → BranchName × Ends = λ r. (r.name, r.ends) in
      let p = row_before (marked service) key (λ r. refl) c.branches i j b s in
      subst (λ (x : BranchName × Ends). P x.0 x.1) (sym p.2) (all j p.0 p.1)

  mark_formed : (service : Bool) (i : ℕ) → WellFormed 𝓜 𝓝 (with_branches c (with_row (marked service) c.branches i))
  mark_formed service i = record {
    tolerance = w.tolerance;
    bus_count = w.bus_count;
    first_count = w.first_count;
    second_count = w.second_count;
    branch_count = subst (λ n. n ≤ 200) (sym (length_with_row (marked service) c.branches i)) w.branch_count;
    bus_names = w.bus_names;
    branch_names = still_distinct (marked service) (λ b. b.name) (λ b. refl) c.branches i w.branch_names;
    first_places = w.first_places;
    second_places = w.second_places;
    from_ends = mark_kept service i (λ n e. TheRow c.buses n.from e.from) w.from_ends;
    to_ends = mark_kept service i (λ n e. TheRow c.buses n.to e.to) w.to_ends;
    ends_differ = mark_kept service i (λ n e. e.from ≡ e.to → ⊥) w.ends_differ;
  }

module _ {M N : Type 0} (𝓜 : Meaning M) (𝓝 : Meaning N) (s : SizedCase M N) (w : WellSized 𝓜 𝓝 s) where
  -- another case of the same sizes in its place
  sized : (c : Case M N) → WellFormed 𝓜 𝓝 c → length c.buses ≡ length s.case.buses → c.first ≡ s.case.first → c.second ≡ s.case.second → WellSized 𝓜 𝓝 (in_place s c)
  sized c f b p q = record {
    formed = f;
    powers = w.powers ∙ ap (λ (g : Group M). length g.machines + length s.case.second.machines) (sym p) ∙ ap (λ (g : Group N). length c.first.machines + length g.machines) (sym q);
    angles = w.angles ∙ sym b;
  }

  mapped_sized : (f : ℕ → Case M N) → ((i : ℕ) → WellSized 𝓜 𝓝 (in_place s (f i))) → (o : Option ℕ) (k : SizedCase M N) → option_map (in_place s) (option_map f o) ≡ Some k → WellSized 𝓜 𝓝 k
  mapped_sized f all None k e = absurd (none-some _ e)
  mapped_sized f all (Some i) k e = subst (WellSized 𝓜 𝓝) (same_Some _ _ e) (all i)

  pub changed_sized : (x : Change) (k : SizedCase M N) → option_map (in_place s) (changed s.case x) ≡ Some k → WellSized 𝓜 𝓝 k
  changed_sized (demand bus watts ok) k e =
      mapped_sized (λ i. with_buses s.case (with_row (demanding watts ok) s.case.buses i))
      (λ i. sized _ (demand_formed 𝓜 𝓝 s.case w.formed watts ok i) (length_with_row (demanding watts ok) s.case.buses i) refl refl)
      (row_where (is_bus bus) s.case.buses) k e
  changed_sized (mark branch service) k e =
      mapped_sized (λ i. with_branches s.case (with_row (marked service) s.case.branches i))
      (λ i. sized _ (mark_formed 𝓜 𝓝 s.case w.formed service i) refl refl refl)
      (row_where (is_branch branch) s.case.branches) k e
