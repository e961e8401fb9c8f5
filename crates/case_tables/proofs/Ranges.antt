-- The rows of a lawful case keep their ranges, orders and sizes.
use Rattle.std.proofs.Common.{◌≡◌, ℕ, zero, suc, Bool, true, false, cond, eqb, List, [], ◌∷◌, map, length, ℤ, pos, ◌≤ℤ◌, None, sym, refl, ap, ◌∙◌, subst, inl, inr, arith}
use Rattle.std.specs.List.{AllByRecursion}
use Rattle.std.proofs.lemmas.Bool.{false≢true}
use Rattle.std.proofs.lemmas.Int.{ints}
use Rattle.measure.specs.Rows.{Stands, Lowest}
use Rattle.stepped.specs.Piecewise.{stepped_meaning}
use Rattle.stepped.specs.declared.stepped.Stepped.{Stepped}
use Rattle.curved.specs.Quadratic.{curved_meaning}
use Rattle.curved.specs.declared.curved.Curved.{Curved}
use Rattle.network.specs.declared.refusal.Refusal.{Refusal}
use Rattle.network.specs.declared.refusal.Refusal.TheVariants as refusal
use Rattle.build.specs.declared.rows.BusRow.{BusRow}
use Rattle.build.specs.declared.rows.BranchRow.{BranchRow}
use Rattle.build.specs.declared.tables.Rows.{Rows}
use Rattle.build.specs.Raw.{BusInRange, BranchInRange, CrossedLimits}
use Rattle.build.specs.Offer.{BusOutOfRange, BranchOutOfRange, BranchCrossed, RangesKept, Uncrossed, SizesKept, Refused}
use Rattle.build.specs.Build.{room_of}
use Rattle.case_paper.specs.Case.{rank, head_slots, amounts_of, Record, Formed}
use Rattle.case_paper.specs.Order.{InOrder}
use Rattle.case_paper.specs.Rows.{of_rank}
use Rattle.case_paper.specs.CaseFault.{count_rank, LawfulCase}
use Rattle.case_paper.specs.declared.sort.Sort.{Sort}
use Rattle.case_paper.specs.declared.sort.Sort.TheVariants as sort
use Rattle.case_paper.specs.declared.fault.CaseFault.TheVariants.{Repeats, Lacks}
use Rattle.case_tables.specs.Rows.{record_of, bus_row, stepped_row, curved_row, branch_row}
use Rattle.case_tables.specs.Read.{Tables, rows_provided, laid_in, Offered, OfNames}
use Rattle.case_tables.proofs.Sizes.{matches_at, rows-length, count_most, head_some}

-- ---- one record
bus_kept : (q : Sort) (first : ℕ) (xs : List ℕ) → eqb (rank q) 0 ≡ true → Formed (record_of q first xs) → BusInRange (bus_row (record_of q first xs))
bus_kept sort.Bus first xs e f = (f.0.1, (matches_at (amounts_of sort.Bus) xs 0 f.1 (omega arith)).1)
bus_kept (sort.Stepped n) first xs e f = absurd (false≢true e)
bus_kept sort.Curved first xs e f = absurd (false≢true e)
bus_kept sort.Branch first xs e f = absurd (false≢true e)

branch_kept : (q : Sort) (first : ℕ) (xs : List ℕ) → eqb (rank q) 3 ≡ true → Formed (record_of q first xs) → BranchInRange (branch_row (record_of q first xs))
branch_kept sort.Bus first xs e f = absurd (false≢true e)
branch_kept (sort.Stepped n) first xs e f = absurd (false≢true e)
branch_kept sort.Curved first xs e f = absurd (false≢true e)
branch_kept sort.Branch first xs e f =
    record {
      circuit = f.0.1;
      from = f.0.2;
      to = f.0.3;
      susceptance = (matches_at (amounts_of sort.Branch) xs 0 f.1 (omega arith)).1;
      shift = (matches_at (amounts_of sort.Branch) xs 1 f.1 (omega arith)).1;
      rating = (matches_at (amounts_of sort.Branch) xs 2 f.1 (omega arith)).1;
      angmin = (matches_at (amounts_of sort.Branch) xs 3 f.1 (omega arith)).1;
      angmax = (matches_at (amounts_of sort.Branch) xs 4 f.1 (omega arith)).1;
    }

branch_uncrossed : (q : Sort) (first : ℕ) (xs : List ℕ) → eqb (rank q) 3 ≡ true → InOrder q xs → CrossedLimits (branch_row (record_of q first xs)) → ⊥
branch_uncrossed sort.Bus first xs e o crossed = false≢true e
branch_uncrossed (sort.Stepped n) first xs e o crossed = false≢true e
branch_uncrossed sort.Curved first xs e o crossed = false≢true e
branch_uncrossed sort.Branch first xs e o crossed = omega (arith, ints)

-- ---- each row of a sort
first-or : {T : Type 0} (P : T → Type 0) (row : Record → T) (b : Bool) (r : Record) (rs : List Record) → (b ≡ true → P (row r)) → ((i : ℕ) (x : T) → Stands (map row rs) i x → P x) → (i : ℕ) (x : T) → Stands (map row (cond b (r ∷ rs) rs)) i x → P x
unfolding Stands
first-or P row true r rs here later zero x s = subst P (sym s) (here refl)
first-or P row true r rs here later (suc i) x s = later i x s
first-or P row false r rs here later i x s = later i x s

module _ {T : Type 0} (P : T → Type 0) (row : Record → T) (k : ℕ) (Good : Record → Type 0) (keeps : (r : Record) → eqb (rank r.sort) k ≡ true → Good r → P (row r)) where
  each_row : (rs : List Record) → AllByRecursion Good rs → (i : ℕ) (x : T) → Stands (map row (of_rank k rs)) i x → P x
  unfolding Stands
  each_row [] good i x s = absurd s
  each_row (r ∷ rs) good i x s =
      first-or P row (eqb (rank r.sort) k) r (of_rank k rs) (λ e. keeps r e good.0) (each_row rs good.1) i x s

-- ---- what a lawful case offers
module _ (w : List ℕ) (t : Tables) (l : LawfulCase (rows_provided t) w) (o : Rows Stepped Curved) (f : Offered l.form o) where
  pub ranges : RangesKept o
  ranges =
      let rs = l.form.records in
      record {
        buses = subst (λ (xs : List BusRow). Lowest (BusOutOfRange xs) None) (sym f.buses)
            (λ i h. h.holds (each_row BusInRange bus_row 0 Formed (λ r e g. bus_kept r.sort r.first r.amounts e g) rs l.form.formed i h.item h.stands));
        branches = subst (λ (xs : List BranchRow). Lowest (BranchOutOfRange xs) None) (sym f.branches)
            (λ i h. h.holds (each_row BranchInRange branch_row 3 Formed (λ r e g. branch_kept r.sort r.first r.amounts e g) rs l.form.formed i h.item h.stands));
      }

  pub uncrossed : Uncrossed o
  uncrossed =
      let rs = l.form.records in
      subst (λ (xs : List BranchRow). Lowest (BranchCrossed xs) None) (sym f.branches)
      (λ i h. each_row (λ b. CrossedLimits b → ⊥) branch_row 3 (λ r. InOrder r.sort r.amounts) (λ r e g. branch_uncrossed r.sort r.first r.amounts e g) rs l.ordered i h.item h.stands h.holds)

  pub bus_count : length o.buses.now ≡ count_rank 0 l.form.records
  bus_count = ap length f.buses ∙ rows-length bus_row 0 l.form.records

  pub first_count : length o.first.now ≡ count_rank 1 l.form.records
  first_count = ap length f.first ∙ rows-length stepped_row 1 l.form.records

  pub second_count : length o.second.now ≡ count_rank 2 l.form.records
  second_count = ap length f.second ∙ rows-length curved_row 2 l.form.records

  pub branch_count : length o.branches.now ≡ count_rank 3 l.form.records
  branch_count = ap length f.branches ∙ rows-length branch_row 3 l.form.records

  pub sizes : SizesKept o (room_of (laid_in t))
  sizes =
      let h = l.form.head in
      let rs = l.form.records in
      let m = l.form.headed in
      let nb = bus_count in
      let nf = first_count in
      let ns = second_count in
      let nl = branch_count in
      let some = head_some h m in
      let met = l.met 0 (omega arith) in
      let b = count_most h rs sort.Bus m l.met in
      let s = count_most h rs (sort.Stepped 0) m l.met in
      let c = count_most h rs sort.Curved m l.met in
      let r = count_most h rs sort.Branch m l.met in
      let b_fits = l.fitting 0 (omega arith) in
      let s-fits = l.fitting 1 (omega arith) in
      let c-fits = l.fitting 2 (omega arith) in
      let r-fits = l.fitting 3 (omega arith) in
      record {
        tolerance = subst (λ (z : ℤ). (pos 0 ≤ℤ z) × (z ≤ℤ pos 100000)) (sym f.allows) (matches_at head_slots h 1 m (omega arith)).1;
        buses = (omega arith, omega arith);
        first = omega arith;
        second = omega arith;
        branches = omega arith;
        bus_room = omega arith;
        first_room = omega arith;
        second_room = omega arith;
        branch_room = omega arith;
      }

  -- so only its names can be refused
  pub of_names : (e : Refusal) → Refused stepped_meaning curved_meaning o (room_of (laid_in t)) e → OfNames e
  of_names (refusal.OutOfRange i) (inl h) = absurd (ranges.buses i h.0)
  of_names (refusal.OutOfRange i) (inr h) = absurd (ranges.branches i h.1.0)
  of_names (refusal.Crossed i) h = absurd (uncrossed i h.1.0)
  of_names refusal.Size h = absurd (h.2 sizes)
  of_names (refusal.Repeated i) h = (Repeats i, refl)
  of_names (refusal.UnknownBus i) h = (Lacks i, refl)
  of_names refusal.NotInCase h = absurd h
  of_names (refusal.NotAllowed i) h = absurd h
  of_names (refusal.Unbalanced i) h = absurd h
  of_names (refusal.Overloaded i) h = absurd h
  of_names (refusal.Overstretched i) h = absurd h
  of_names (refusal.Unrated i) h = absurd h
  of_names (refusal.Weight i) h = absurd h
  of_names (refusal.Residue i) h = absurd h
