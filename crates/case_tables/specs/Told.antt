-- A case told by what its rows write.
use Rattle.std.specs.Prelude.{◌≡◌, ℕ, ◌+◌, ◌-◌, ◌*◌, ◌≤◌, true, List, [], ◌∷◌, ◌++◌, map, length, take, ℤ, pos, ◌≤ℤ◌, slice_index}
use Rattle.std.specs.List.{flat_map, AllByRecursion}
use Rattle.word.specs.Word.{word_of, amount_word}
use Rattle.word.specs.declared.kind.Kind.TheVariants as kind
use Rattle.paper.specs.Name.{bus_word, branch_word}
use Rattle.paper.specs.Change.{mark_number}
use Rattle.stepped.specs.Piecewise as piecewise
use Rattle.stepped.specs.declared.stepped.Stepped.{Stepped}
use Rattle.curved.specs.Quadratic as quadratic
use Rattle.curved.specs.declared.curved.Curved.{Curved}
use Rattle.build.specs.Raw.{BusInRange, BranchInRange, CrossedLimits}
use Rattle.build.specs.declared.rows.BusRow.{BusRow}
use Rattle.build.specs.declared.rows.BranchRow.{BranchRow}
use Rattle.build.specs.declared.tables.LaidCase.{LaidCase}
use Rattle.build.specs.declared.tables.Rows.{Rows}
use Rattle.case_paper.specs.CaseFault.{LawfulCase}
use Rattle.case_tables.specs.Rows.{padded, powered}
use Rattle.case_tables.specs.Read.{Tables, rows_provided, Written, CaseRead}

-- the tolerance and the raw rows of a case
pub record RawCase : Type 0 where
  pub tolerance : ℤ
  pub buses : List BusRow
  pub stepped : List Stepped
  pub curved : List Curved
  pub branches : List BranchRow

-- ---- the words
-- a first word, and the words of the amounts after it
abbrev pub with_amounts : ℕ → List ℤ → List ℕ
with_amounts first amounts = first ∷ map amount_word amounts

-- the points that a machine in steps uses, and the slopes between them
abbrev pub points_used : Stepped → List ℤ
points_used m = take m.n (piecewise.powers_of m.points)

abbrev pub slopes_used : Stepped → List ℤ
slopes_used m = take (m.n - 1) m.slopes

-- a bus name; its demand
abbrev pub bus_words : BusRow → List ℕ
bus_words b = with_amounts (bus_word b.name) (b.demand.0 ∷ [])

-- 256 × the number of points + a bus name; limits, first cost, points and slopes
abbrev pub stepped_words : Stepped → List ℕ
stepped_words m =
    with_amounts (word_of kind.Stepped (256 * m.n + m.bus)) (m.lo.0 ∷ m.hi.0 ∷ m.c ∷ (points_used m ++ slopes_used m))

-- a bus name; limits and coefficients
abbrev pub curved_words : Curved → List ℕ
curved_words m = with_amounts (word_of kind.Curved m.bus) (m.lo.0 ∷ m.hi.0 ∷ m.c0 ∷ m.c1 ∷ m.c2 ∷ [])

-- a branch name; susceptance, shift, rating, limits of the angle difference, service mark
abbrev pub branch_words : BranchRow → List ℕ
branch_words b =
    with_amounts (branch_word b.name)
    (b.susceptance ∷ b.shift.0 ∷ b.rating.0 ∷ b.angmin.0 ∷ b.angmax.0 ∷ mark_number b.service ∷ [])

-- the tolerance, and how many buses, stepped machines, curved machines and branches follow
abbrev pub head_numbers : RawCase → List ℤ
head_numbers c =
    c.tolerance ∷ pos (length c.buses) ∷ pos (length c.stepped) ∷ pos (length c.curved) ∷ pos (length c.branches) ∷ []

-- head, buses, stepped machines, curved machines, branches, end
abbrev pub case_words : RawCase → List ℕ
case_words c =
    with_amounts (word_of kind.Head 1) (head_numbers c)
    ++ (flat_map bus_words c.buses ++ (flat_map stepped_words c.stepped ++ (flat_map curved_words c.curved
    ++ (flat_map branch_words c.branches ++ (word_of kind.End 0 ∷ [])))))

-- ---- the rows
-- the row keeps its ranges and orders, and after the points and the slopes that it uses stand zeros
pub record SteppedKept (m : Stepped) : Type 0 where
  pub ranges : piecewise.in_range m ≡ true
  pub points : m.points ≡ map powered (padded 8 (points_used m))
  pub slopes : m.slopes ≡ padded 7 (slopes_used m)

abbrev pub CurvedKept : Curved → Type 0
CurvedKept m = quadratic.in_range m ≡ true

-- the row keeps its ranges, and its limits are not crossed
pub record BranchKept (b : BranchRow) : Type 0 where
  pub ranges : BranchInRange b
  pub uncrossed : CrossedLimits b → ⊥

-- the tolerance and the sizes are in their limits, no table has more rows than are provided (buses, stepped, curved, branches),
-- and every row keeps its ranges and orders
pub record LawfulRows (room : List ℕ) (c : RawCase) : Type 0 where
  pub tolerance : (pos 0 ≤ℤ c.tolerance) × (c.tolerance ≤ℤ pos 100000)
  pub bus_count : (1 ≤ length c.buses) × (length c.buses ≤ 100)
  pub stepped_count : length c.stepped ≤ 30
  pub curved_count : length c.curved ≤ 30
  pub branch_count : length c.branches ≤ 200
  pub bus_room : length c.buses ≤ slice_index room 0
  pub stepped_room : length c.stepped ≤ slice_index room 1
  pub curved_room : length c.curved ≤ slice_index room 2
  pub branch_room : length c.branches ≤ slice_index room 3
  pub buses : AllByRecursion BusInRange c.buses
  pub stepped : AllByRecursion SteppedKept c.stepped
  pub curved : AllByRecursion CurvedKept c.curved
  pub branches : AllByRecursion BranchKept c.branches

-- the words are those of these rows, which are lawful
pub record WrittenBy (room w : List ℕ) (c : RawCase) : Type 0 where
  pub lawful : LawfulRows room c
  pub words : w ≡ case_words c

-- ---- one list of words, one case
-- these rows are offered, and the machines are the first rows of their tables
pub record RowsRead (c : RawCase) (o : Rows Stepped Curved) (before after : Tables) : Type 0 where
  pub tolerance : o.tolerance.0 ≡ c.tolerance
  pub buses : o.buses.now ≡ c.buses
  pub first : o.first.now ≡ c.stepped
  pub second : o.second.now ≡ c.curved
  pub branches : o.branches.now ≡ c.branches
  pub stepped : Written c.stepped before.stepped after.stepped
  pub curved : Written c.curved before.curved after.curved

-- what was read is the case of the lawful rows that write the words
pub record ReadTold (w : List ℕ) (before after : Tables) (v : LaidCase) : Type 0 where
  pub read : CaseRead w before after v
  pub rows : RawCase
  pub written : WrittenBy (rows_provided before) w rows
  pub laid : RowsRead rows read.offer before after

-- a list of words is a lawful case exactly if lawful rows write it; no other rows do; and these are the rows that are read from it
pub record CaseTold : Type 0 where
  pub told : (room w : List ℕ) → LawfulCase room w → (c : RawCase) × WrittenBy room w c
  pub lawful : (room : List ℕ) (c : RawCase) → LawfulRows room c → LawfulCase room (case_words c)
  pub one : (room other : List ℕ) (c d : RawCase) → LawfulRows room c → LawfulRows other d → case_words c ≡ case_words d → c ≡ d
  pub read : (w : List ℕ) (before after : Tables) (v : LaidCase) (r : CaseRead w before after v) (room : List ℕ) (c : RawCase) → WrittenBy room w c → RowsRead c r.offer before after
