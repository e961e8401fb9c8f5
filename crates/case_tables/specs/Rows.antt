-- The raw rows that the records of a case give.
use Rattle.std.specs.Prelude.{◌≡◌, ℕ, ◌+◌, ◌-◌, ◌/◌, ◌%◌, List, ◌++◌, map, length, take, drop, replicate, ℤ, pos, ◌==◌, slice_index}
use Rattle.measure.specs.declared.Watts.{Watts}
use Rattle.word.specs.Word.{payload_of, amount_of}
use Rattle.case_paper.specs.Case.{Record}
use Rattle.case_paper.specs.Order.{amount_at}
use Rattle.case_paper.specs.Rows.{of_rank}
use Rattle.case_paper.specs.declared.sort.Sort.{Sort}
use Rattle.word.specs.Slot.{branch_of}
use Rattle.names.specs.declared.branch.BranchName.{BranchName}
use Rattle.build.specs.declared.rows.BusRow.{BusRow}
use Rattle.build.specs.declared.rows.BranchRow.{BranchRow}
use Rattle.build.specs.declared.tables.Rows.{Rows}
use Rattle.stepped.specs.declared.stepped.Stepped.{Stepped}
use Rattle.curved.specs.declared.curved.Curved.{Curved}

abbrev pub record_of : Sort → ℕ → List ℕ → Record
record_of q first amounts = record { sort = q; first = first; amounts = amounts }

-- ---- one record
-- a bus name; its demand
abbrev pub bus_row : Record → BusRow
bus_row r = record { name = payload_of r.first; demand = record { 0 = amount_at r.amounts 0 } }

-- the number of points of a machine in steps
abbrev pub points_of : Record → ℕ
points_of r = payload_of r.first / 256

-- n numbers: xs, and then zeros
abbrev pub padded : ℕ → List ℤ → List ℤ
padded n xs = xs ++ replicate (n - length xs) (pos 0)

-- a power of so many watts
abbrev pub powered : ℤ → Watts
powered z = record { 0 = z }

-- 256 × the number of points + a bus name; limits, first cost, points and slopes
abbrev pub stepped_row : Record → Stepped
stepped_row r =
    record {
      bus = payload_of r.first % 256;
      lo = record { 0 = amount_at r.amounts 0 };
      hi = record { 0 = amount_at r.amounts 1 };
      c = amount_at r.amounts 2;
      n = points_of r;
      points = map powered (padded 8 (map amount_of (take (points_of r) (drop 3 r.amounts))));
      slopes = padded 7 (map amount_of (drop (3 + points_of r) r.amounts));
    }

-- a bus name; limits and coefficients
abbrev pub curved_row : Record → Curved
curved_row r =
    record {
      bus = payload_of r.first;
      lo = record { 0 = amount_at r.amounts 0 };
      hi = record { 0 = amount_at r.amounts 1 };
      c0 = amount_at r.amounts 2;
      c1 = amount_at r.amounts 3;
      c2 = amount_at r.amounts 4;
    }

-- 65536 × the circuit + 256 × the bus it leaves + the bus it enters
abbrev pub branch_name : ℕ → BranchName
branch_name first = branch_of first

-- a branch name; susceptance, shift, rating, limits of the angle difference, service mark
abbrev pub branch_row : Record → BranchRow
branch_row r =
    record {
      name = branch_name r.first;
      susceptance = amount_at r.amounts 0;
      shift = record { 0 = amount_at r.amounts 1 };
      rating = record { 0 = amount_at r.amounts 2 };
      angmin = record { 0 = amount_at r.amounts 3 };
      angmax = record { 0 = amount_at r.amounts 4 };
      service = (payload_of (slice_index r.amounts 5) == 1);
    }

-- ---- all records, by their sorts and in their order
abbrev pub bus_rows : List Record → List BusRow
bus_rows rs = map bus_row (of_rank 0 rs)

abbrev pub stepped_rows : List Record → List Stepped
stepped_rows rs = map stepped_row (of_rank 1 rs)

abbrev pub curved_rows : List Record → List Curved
curved_rows rs = map curved_row (of_rank 2 rs)

abbrev pub branch_rows : List Record → List BranchRow
branch_rows rs = map branch_row (of_rank 3 rs)

-- ---- a case offered
-- what is offered is this tolerance, and the rows of these records in their order
pub record Offers (tolerance : ℤ) (rs : List Record) (o : Rows Stepped Curved) : Type 0 where
  pub allows : o.tolerance.0 ≡ tolerance
  pub buses : o.buses.now ≡ bus_rows rs
  pub first : o.first.now ≡ stepped_rows rs
  pub second : o.second.now ≡ curved_rows rs
  pub branches : o.branches.now ≡ branch_rows rs
