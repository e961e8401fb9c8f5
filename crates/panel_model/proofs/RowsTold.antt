-- Changes, told row by row.
use Rattle.std.proofs.Common.{ℕ, zero, suc, Bool, ◌≢◌, ◌↔◌, List, [], ◌∷◌, Some, None, Option, refl, ap, subst}
use Rattle.std.specs.Option.{option_map}
use Rattle.std.proofs.lemmas.Bool.{false≢true}
use Rattle.std.proofs.lemmas.Option.{none-some, same_Some}
use Rattle.measure.specs.Range.{Within}
use Rattle.measure.specs.Rows.{Stands, Lowest}
use Rattle.measure.specs.declared.Watts.{Watts}
use Rattle.network.specs.Model.{Case}
use Rattle.pricing.specs.Outage.{marked, NamedRow}
use Rattle.pricing.specs.Laws.{OneRowChanged, Remarked, OnlyMark}
use Rattle.pricing.proofs.RowsTold.{remarked}
use Rattle.panel_model.specs.Change.{row_where, is_bus, is_branch, demanding, with_row, with_buses, with_branches}
use Rattle.panel_model.specs.Laws.{Demanding, OnlyDemand, NamedBus, MadeByName, ChangesTold}
use Rattle.panel_model.proofs.Lookups.{bus_lowest, branch_lowest}
use Rattle.panel_model.proofs.Rows.{length_with_row}

-- ---- one row is changed
module _ {X : Type 0} (f : X → X) where
  changed_there : (xs : List X) (i : ℕ) (x : X) → Stands xs i x → Stands (with_row f xs i) i (f x)
  unfolding with_row Stands
  changed_there [] i x s = absurd s
  changed_there (y ∷ ys) zero x s = ap f s
  changed_there (y ∷ ys) (suc i) x s = changed_there ys i x s

  not_elsewhere : (xs : List X) (i j : ℕ) → j ≢ i → (x : X) → Stands xs j x ↔ Stands (with_row f xs i) j x
  unfolding with_row Stands
  not_elsewhere [] i j n x = (λ s. s, λ s. s)
  not_elsewhere (y ∷ ys) zero zero n x = absurd (n refl)
  not_elsewhere (y ∷ ys) zero (suc j) n x = (λ s. s, λ s. s)
  not_elsewhere (y ∷ ys) (suc i) zero n x = (λ s. s, λ s. s)
  not_elsewhere (y ∷ ys) (suc i) (suc j) n x = not_elsewhere ys i j (λ e. n (ap suc e)) x

  row_changed : (Becomes : X → X → Type 0) → ((x : X) → Becomes x (f x)) → (xs : List X) (i : ℕ) → OneRowChanged Becomes xs (with_row f xs i) i
  row_changed Becomes so xs i =
      record {
        as_long = length_with_row f xs i;
        becomes = λ x s. (f x, changed_there xs i x s, so x);
        others = not_elsewhere xs i;
      }

-- ---- by its name
module _ {M N : Type 0} (Named : ℕ → Type 0) (Does : ℕ → Case M N → Type 0) (f : ℕ → Case M N) (does : (i : ℕ) → Does i (f i)) where
  made_by_name : (o : Option ℕ) → Lowest Named o → MadeByName Named Does (option_map f o)
  made_by_name None l =
      record {
        made_if_named = (λ h. absurd (false≢true h), λ h. absurd (l h.0 h.1));
        else_none = λ h. refl;
        lowest_changed = λ k e. absurd (none-some k e);
      }
  made_by_name (Some i) l =
      record {
        made_if_named = (λ h. (i, l.0), λ h. refl);
        else_none = λ h. absurd (h i l.0);
        lowest_changed = λ k e. (i, l, subst (Does i) (same_Some _ _ e) (does i));
      }

module _ {M N : Type 0} (c : Case M N) where
  only_demand : (watts : Watts) (ok : Within 100000000 watts.0) (i : ℕ) → OnlyDemand watts c i (with_buses c (with_row (demanding watts ok) c.buses i))
  only_demand watts ok i =
      record {
        buses_changed = row_changed (demanding watts ok) (Demanding watts) (λ b. record { demand_is = refl; name_kept = refl }) c.buses i;
        tolerance_kept = refl;
        first_kept = refl;
        second_kept = refl;
        branches_kept = refl;
      }

  only_mark : (service : Bool) (i : ℕ) → OnlyMark service c i (with_branches c (with_row (marked service) c.branches i))
  only_mark service i =
      record {
        branches_changed = row_changed (marked service) (Remarked service) (remarked service) c.branches i;
        tolerance_kept = refl;
        buses_kept = refl;
        first_kept = refl;
        second_kept = refl;
      }

pub changes_told : {M N : Type 0} → ChangesTold M N
changes_told =
    record {
      demand_told = λ c name watts ok. made_by_name (NamedBus c name) (OnlyDemand watts c) (λ i. with_buses c (with_row (demanding watts ok) c.buses i)) (only_demand c watts ok) (row_where (is_bus name) c.buses) (bus_lowest name c.buses);
      mark_told = λ c name service. made_by_name (NamedRow c name) (OnlyMark service c) (λ i. with_branches c (with_row (marked service) c.branches i)) (only_mark c service) (row_where (is_branch name) c.branches) (branch_lowest name c.branches);
    }
