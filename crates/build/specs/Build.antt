-- What the tables hold once a case is laid in them, and what such a case keeps.
use Rattle.std.specs.Prelude.{◌≡◌, ℕ, ◌<◌, ◌≤◌, List, length, take, drop, pos, ◌≤ℤ◌, ◌≢◌, slice_index}
use Rattle.measure.specs.Rows.{Stands, HoldsAt}
use Rattle.names.specs.Names.{HasName, Distinct}
use Rattle.machine.specs.Meaning.{Meaning}
use Rattle.network.specs.declared.bus.Bus.{Bus}
use Rattle.network.specs.declared.branch.Branch.{Branch}
use Rattle.network.specs.declared.branch.Ends.{Ends}
use Rattle.network.specs.declared.refusal.Refusal.{Refusal}
use Rattle.network.specs.Model.{Case}
use Rattle.build.specs.declared.rows.BusRow.{BusRow}
use Rattle.build.specs.declared.rows.BranchRow.{BranchRow}
use Rattle.build.specs.declared.tables.Rows.{Rows}
use Rattle.build.specs.declared.tables.Sizes.{Sizes}
use Rattle.build.specs.declared.tables.LaidCase.{LaidCase}
use Rattle.build.specs.declared.tables.Places.{Places}
use Rattle.build.specs.Raw.{BusOf, BranchOf}
use Rattle.build.specs.Offer.{Found, EndsFound, Counted, Accepted, Refused}

-- The first n rows of the table stand as R says of the rows that were given, and the later ones are as before.
pub record Filled {X Y : Type 0} (R : X → Y → Type 0) (given : List X) (before after : List Y) (n : ℕ) : Type 0 where
  pub first : (i : ℕ) (x : X) → i < n → Stands given i x → HoldsAt (λ y. R x y.item) after i
  pub later : drop n after ≡ drop n before

-- each row that was given has what R says of it, in the table's row of the same number
pub record Matched {X Y : Type 0} (R : X → Y → Type 0) (given : List X) (found : List Y) : Type 0 where
  pub each : (i : ℕ) (x : X) → Stands given i x → HoldsAt (λ y. R x y.item) found i

-- the place is that of the machine's bus
abbrev pub Placed : {M : Type 0} → Meaning M → List BusRow → M → ℕ → Type 0
Placed 𝓜 buses m i = Found buses (𝓜.bus m) i

-- the ends are the rows of the buses that the branch names, which differ
abbrev pub EndsNamed : List BusRow → BranchRow → Ends → Type 0
EndsNamed buses r e = EndsFound buses r.name.from r.name.to e

-- the branch is that of the raw row, its ends in the rows of the buses that it names
pub record Joined (buses : List BusRow) (r : BranchRow) (b : Branch) : Type 0 where
  pub from : Found buses r.name.from b.ends.from
  pub to : Found buses r.name.to b.ends.to
  pub row : BranchOf r b.ends b

-- the lent tables: buses, the rows of the machines' buses in both groups, and branches
pub record Lent : Type 0 where
  pub buses : List Bus
  pub first : List ℕ
  pub second : List ℕ
  pub branches : List Branch

abbrev pub lent : List Bus → List ℕ → List ℕ → List Branch → Lent
lent b f s l = record { buses = b; first = f; second = s; branches = l }

abbrev pub room_of : Lent → Sizes ℕ
room_of l = record { buses = length l.buses; first = length l.first; second = length l.second; branches = length l.branches }

-- the case that the tables then hold
abbrev pub laid_case : {M N : Type 0} → Rows M N → Lent → LaidCase → Case M N
laid_case o l n =
    record {
      tolerance = pos n.tolerance;
      buses = take n.counts.buses l.buses;
      first = record { machines = take n.counts.first o.first.now; place = λ i. slice_index l.first i };
      second = record { machines = take n.counts.second o.second.now; place = λ i. slice_index l.second i };
      branches = take n.counts.branches l.branches;
    }

-- row i is the one row whose bus has the name
pub record TheRow (buses : List Bus) (name i : ℕ) : Type 0 where
  pub has : HoldsAt (HasName ◌≡◌ (λ b. b.name) name) buses i
  pub one : (j : ℕ) → HoldsAt (HasName ◌≡◌ (λ b. b.name) name) buses j → j ≡ i

module _ {M N : Type 0} (𝓜 : Meaning M) (𝓝 : Meaning N) where
  -- the places are those of the buses that are named
  pub record PlacesFound (o : Rows M N) (p : Places) : Type 0 where
    pub first : Matched (Placed 𝓜 o.buses.now) o.first.now p.first
    pub second : Matched (Placed 𝓝 o.buses.now) o.second.now p.second
    pub ends : Matched (EndsNamed o.buses.now) o.branches.now p.ends

  -- what is offered is laid in the tables, at the tolerance that is offered
  pub record Laid (o : Rows M N) (before after : Lent) (n : LaidCase) : Type 0 where
    pub accepted : Accepted 𝓜 𝓝 o (room_of before)
    pub tolerance : pos n.tolerance ≡ o.tolerance.0
    pub counted : Counted o n.counts
    pub buses : Filled BusOf o.buses.now before.buses after.buses n.counts.buses
    pub first : Filled (Placed 𝓜 o.buses.now) o.first.now before.first after.first n.counts.first
    pub second : Filled (Placed 𝓝 o.buses.now) o.second.now before.second after.second n.counts.second
    pub branches : Filled (Joined o.buses.now) o.branches.now before.branches after.branches n.counts.branches

  -- what is offered is refused, and the tables are as they were
  pub record NotLaid (o : Rows M N) (before after : Lent) (e : Refusal) : Type 0 where
    pub refused : Refused 𝓜 𝓝 o (room_of before) e
    pub untouched : after ≡ before

  -- the tolerance and the sizes keep their limits, names are distinct, and every place and every end is the row of the bus that is named
  pub record WellFormed (c : Case M N) : Type 0 where
    pub tolerance : (pos 0 ≤ℤ c.tolerance) × (c.tolerance ≤ℤ pos 100000)
    pub bus_count : (1 ≤ length c.buses) × (length c.buses ≤ 100)
    pub first_count : length c.first.machines ≤ 30
    pub second_count : length c.second.machines ≤ 30
    pub branch_count : length c.branches ≤ 200
    pub bus_names : Distinct ◌≡◌ (λ b. b.name) c.buses
    pub branch_names : Distinct ◌≡◌ (λ b. b.name) c.branches
    pub first_places : (i : ℕ) (m : M) → Stands c.first.machines i m → TheRow c.buses (𝓜.bus m) (c.first.place i)
    pub second_places : (i : ℕ) (m : N) → Stands c.second.machines i m → TheRow c.buses (𝓝.bus m) (c.second.place i)
    pub from_ends : (i : ℕ) (b : Branch) → Stands c.branches i b → TheRow c.buses b.name.from b.ends.from
    pub to_ends : (i : ℕ) (b : Branch) → Stands c.branches i b → TheRow c.buses b.name.to b.ends.to
    pub ends_differ : (i : ℕ) (b : Branch) → Stands c.branches i b → b.ends.from ≢ b.ends.to
