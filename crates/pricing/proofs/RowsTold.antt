-- A branch out of service, told row by row.
use Rattle.std.proofs.Common.{◌≡◌, ℕ, zero, suc, Bool, false, ◌≢◌, ◌↔◌, List, [], ◌∷◌, length, refl, ap}
use Rattle.measure.specs.Rows.{Stands}
use Rattle.network.specs.declared.branch.Branch.{Branch}
use Rattle.pricing.specs.Outage.{marked, with_mark}
use Rattle.pricing.specs.Laws.{OneRowChanged, Remarked, OutageTold}

pub remarked : (m : Bool) (b : Branch) → Remarked m b (marked m b)
remarked m b =
    record {
      service_is = refl;
      name_kept = refl;
      ends_kept = refl;
      susceptance_kept = refl;
      shift_kept = refl;
      rating_kept = refl;
      angmin_kept = refl;
      angmax_kept = refl;
    }

pub length-with_mark : (bs : List Branch) (i : ℕ) (m : Bool) → length (with_mark bs i m) ≡ length bs
unfolding with_mark
length-with_mark [] i m = refl
length-with_mark (b ∷ bs) zero m = refl
length-with_mark (b ∷ bs) (suc i) m = ap suc (length-with_mark bs i m)

-- the row that is marked
marked_there : (bs : List Branch) (i : ℕ) (m : Bool) (x : Branch) → Stands bs i x → Stands (with_mark bs i m) i (marked m x)
unfolding with_mark Stands
marked_there [] i m x s = absurd s
marked_there (b ∷ bs) zero m x s = ap (marked m) s
marked_there (b ∷ bs) (suc i) m x s = marked_there bs i m x s

-- every other row
not_elsewhere : (bs : List Branch) (i : ℕ) (m : Bool) (j : ℕ) → j ≢ i → (x : Branch) → Stands bs j x ↔ Stands (with_mark bs i m) j x
unfolding with_mark Stands
not_elsewhere [] i m j n x = (λ s. s, λ s. s)
not_elsewhere (b ∷ bs) zero m zero n x = absurd (n refl)
not_elsewhere (b ∷ bs) zero m (suc j) n x = (λ s. s, λ s. s)
not_elsewhere (b ∷ bs) (suc i) m zero n x = (λ s. s, λ s. s)
not_elsewhere (b ∷ bs) (suc i) m (suc j) n x = not_elsewhere bs i m j (λ e. n (ap suc e)) x

mark_changed : (bs : List Branch) (i : ℕ) (m : Bool) → OneRowChanged (Remarked m) bs (with_mark bs i m) i
mark_changed bs i m =
    record {
      as_long = length-with_mark bs i m;
      becomes = λ x s. (marked m x, marked_there bs i m x s, remarked m x);
      others = not_elsewhere bs i m;
    }

pub outage_told : {M N : Type 0} → OutageTold M N
outage_told c i =
    record {
      branches_changed = mark_changed c.branches i false;
      tolerance_kept = refl;
      buses_kept = refl;
      first_kept = refl;
      second_kept = refl;
    }
