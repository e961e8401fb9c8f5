-- What is offered, and which refusal it meets: the tests in their order, each by the lowest row that fails it.
use Rattle.std.specs.Prelude.{◌≡◌, ℕ, ◌+◌, ◌≤◌, ◌⊎◌, List, length, pos, ◌≤ℤ◌, Some, None}
use Rattle.measure.specs.Rows.{HoldsAt, Lowest}
use Rattle.names.specs.Names.{HasName, Repeats}
use Rattle.machine.specs.Meaning.{Meaning}
use Rattle.network.specs.declared.branch.Ends.{Ends}
use Rattle.network.specs.declared.refusal.Refusal.{Refusal}
use Rattle.network.specs.declared.refusal.Refusal.TheVariants.{OutOfRange, Crossed, Size, Repeated, UnknownBus, NotInCase, NotAllowed, Unbalanced, Overloaded, Overstretched, Unrated, Weight, Residue}
use Rattle.build.specs.declared.rows.BusRow.{BusRow}
use Rattle.build.specs.declared.rows.BranchRow.{BranchRow}
use Rattle.build.specs.declared.tables.Rows.{Rows}
use Rattle.build.specs.declared.tables.Sizes.{Sizes}
use Rattle.build.specs.Raw.{BusInRange, BranchInRange, CrossedLimits}

-- ---- rows that fail a test
abbrev pub BusOutOfRange : List BusRow → ℕ → Type 0
BusOutOfRange = HoldsAt (λ b. BusInRange b.item → ⊥)

abbrev pub BranchOutOfRange : List BranchRow → ℕ → Type 0
BranchOutOfRange = HoldsAt (λ b. BranchInRange b.item → ⊥)

abbrev pub BranchCrossed : List BranchRow → ℕ → Type 0
BranchCrossed = HoldsAt (λ b. CrossedLimits b.item)

abbrev pub BusRepeated : List BusRow → ℕ → Type 0
BusRepeated = Repeats ◌≡◌ (λ b. b.name)

abbrev pub BranchRepeated : List BranchRow → ℕ → Type 0
BranchRepeated = Repeats ◌≡◌ (λ b. b.name)

-- the bus in that row of the table has the name
abbrev pub HasBus : List BusRow → ℕ → ℕ → Type 0
HasBus buses name = HoldsAt (HasName ◌≡◌ (λ b. b.name) name) buses

-- no bus has the name
abbrev pub Lacks : List BusRow → ℕ → Type 0
Lacks buses name = Lowest (HasBus buses name) None

-- the lowest row of the buses that has the name
abbrev pub Found : List BusRow → ℕ → ℕ → Type 0
Found buses name i = Lowest (HasBus buses name) (Some i)

abbrev pub MachineUnknown : {M : Type 0} → Meaning M → List BusRow → List M → ℕ → Type 0
MachineUnknown 𝓜 buses = HoldsAt (λ m. Lacks buses (𝓜.bus m.item))

-- no bus has the name of an end, or both ends are one
abbrev pub EndsUnknown : List BusRow → ℕ → ℕ → Type 0
EndsUnknown buses from to = Lacks buses from ⊎ (Lacks buses to ⊎ (from ≡ to))

-- the rows of both ends, which differ
pub record EndsFound (buses : List BusRow) (from to : ℕ) (e : Ends) : Type 0 where
  pub from_row : Found buses from e.from
  pub to_row : Found buses to e.to
  pub differ : from ≡ to → ⊥

abbrev pub BranchUnknown : List BusRow → List BranchRow → ℕ → Type 0
BranchUnknown buses = HoldsAt (λ b. EndsUnknown buses b.item.name.from b.item.name.to)

-- i counts n rows, and then as far as a row of which P holds
pub record CountedOn (n : ℕ) (P : ℕ → Type 0) (i : ℕ) : Type 0 where
  pub row : ℕ
  pub counted : i ≡ n + row
  pub holds : P row

-- the refusal gives the lowest row of which P holds
pub record RowRefused (refusal : ℕ → Refusal) (P : ℕ → Type 0) (e : Refusal) : Type 0 where
  pub row : ℕ
  pub is : e ≡ refusal row
  pub lowest : Lowest P (Some row)

-- the same of a bus that is not offered, its row counted on from n
abbrev pub UnknownRow : ℕ → (ℕ → Type 0) → Refusal → Type 0
UnknownRow n = RowRefused (λ row. UnknownBus (n + row))

-- ---- the tests passed
module _ {M N : Type 0} (o : Rows M N) where
  -- every number is in its range
  pub record RangesKept : Type 0 where
    pub buses : Lowest (BusOutOfRange o.buses.now) None
    pub branches : Lowest (BranchOutOfRange o.branches.now) None

  -- no limits are crossed
  abbrev pub Uncrossed : Type 0
  Uncrossed = Lowest (BranchCrossed o.branches.now) None

  -- the tolerance and the sizes keep their limits, and the lent tables have room
  pub record SizesKept (room : Sizes ℕ) : Type 0 where
    pub tolerance : (pos 0 ≤ℤ o.tolerance.0) × (o.tolerance.0 ≤ℤ pos 100000)
    pub buses : (1 ≤ length o.buses.now) × (length o.buses.now ≤ 100)
    pub first : length o.first.now ≤ 30
    pub second : length o.second.now ≤ 30
    pub branches : length o.branches.now ≤ 200
    pub bus_room : length o.buses.now ≤ room.buses
    pub first_room : length o.first.now ≤ room.first
    pub second_room : length o.second.now ≤ room.second
    pub branch_room : length o.branches.now ≤ room.branches

  -- no name is repeated
  pub record NamesKept : Type 0 where
    pub buses : Lowest (BusRepeated o.buses.now) None
    pub branches : Lowest (BranchRepeated o.branches.now) None

  -- no table has more rows than the largest case
  pub record Few : Type 0 where
    pub buses : length o.buses.now ≤ 100
    pub first : length o.first.now ≤ 30
    pub second : length o.second.now ≤ 30
    pub branches : length o.branches.now ≤ 200

  -- the counts are those of what is offered
  pub record Counted (n : Sizes ℕ) : Type 0 where
    pub buses : n.buses ≡ length o.buses.now
    pub first : n.first ≡ length o.first.now
    pub second : n.second ≡ length o.second.now
    pub branches : n.branches ≡ length o.branches.now

module _ {M N : Type 0} (𝓜 : Meaning M) (𝓝 : Meaning N) (o : Rows M N) where
  -- the row, counted on through the first group, the second group and the branches, names a bus that is not offered, or has equal ends
  abbrev pub Unknown : ℕ → Type 0
  Unknown i =
      MachineUnknown 𝓜 o.buses.now o.first.now i
      ⊎ (CountedOn (length o.first.now) (MachineUnknown 𝓝 o.buses.now o.second.now) i
      ⊎ CountedOn (length o.first.now + length o.second.now) (BranchUnknown o.buses.now o.branches.now) i)

  -- every test is passed
  pub record Accepted (room : Sizes ℕ) : Type 0 where
    pub ranges : RangesKept o
    pub uncrossed : Uncrossed o
    pub sizes : SizesKept o room
    pub names : NamesKept o
    pub known : Lowest Unknown None

  -- ---- the refusal: every earlier test is passed, and the row is the lowest that fails this one
  abbrev pub Refused : Sizes ℕ → Refusal → Type 0
  Refused room (OutOfRange i) =
      Lowest (BusOutOfRange o.buses.now) (Some i)
      ⊎ (Lowest (BusOutOfRange o.buses.now) None × Lowest (BranchOutOfRange o.branches.now) (Some i))
  Refused room (Crossed i) = RangesKept o × Lowest (BranchCrossed o.branches.now) (Some i)
  Refused room Size = RangesKept o × Uncrossed o × (SizesKept o room → ⊥)
  Refused room (Repeated i) =
      RangesKept o
      × Uncrossed o
      × SizesKept o room
      × (Lowest (BusRepeated o.buses.now) (Some i)
      ⊎ (Lowest (BusRepeated o.buses.now) None × Lowest (BranchRepeated o.branches.now) (Some i)))
  Refused room (UnknownBus i) = RangesKept o × Uncrossed o × SizesKept o room × NamesKept o × Lowest Unknown (Some i)
  Refused room NotInCase = ⊥
  Refused room (NotAllowed i) = ⊥
  Refused room (Unbalanced i) = ⊥
  Refused room (Overloaded i) = ⊥
  Refused room (Overstretched i) = ⊥
  Refused room (Unrated i) = ⊥
  Refused room (Weight i) = ⊥
  Refused room (Residue i) = ⊥
