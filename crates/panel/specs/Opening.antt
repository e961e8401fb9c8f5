-- A new panel: the tables that it is lent, and the case with which it begins.
use Rattle.std.specs.Prelude.{◌≡◌, ℕ, ◌+◌, ◌-◌, List, [], length, take, drop, pos, slice_index}
use Rattle.machine.specs.Meaning.{Meaning}
use Rattle.network.specs.Model.{Case}
use Rattle.stepped.specs.declared.stepped.Stepped.{Stepped}
use Rattle.curved.specs.declared.curved.Curved.{Curved}
use Rattle.build.specs.Build.{Lent, lent, Laid, laid_case}
use Rattle.build.specs.declared.tables.Rows.{Rows}
use Rattle.build.specs.declared.tables.Sizes.{Sizes}
use Rattle.case_tables.specs.Read.{CaseRead, held_case, laid_in}
use Rattle.case_tables.specs.Read as paper
use Rattle.build.specs.declared.tables.LaidCase.{LaidCase}
use Rattle.standing.specs.Panel.{new_panel}
use Rattle.standing.specs.Run.{Run}
use Rattle.panel_model.specs.Network.{network, WellSized}
use Rattle.panel.specs.View.{case_on, sized_case, idle}
use Rattle.panel.specs.declared.panel.Panel.{Panel}
use Rattle.panel.specs.declared.tables.Tables.{Tables}
use Rattle.panel.specs.declared.tables.MachineTables.{MachineTables}
use Rattle.panel.specs.declared.watch.Idle.{Idle}

-- the tables in which a case is laid
abbrev pub lent_in : Tables → Lent
lent_in t = lent t.buses t.first t.second t.branches

-- the tables into which a case is read
abbrev pub tables_in : MachineTables → Tables → paper.Tables
tables_in m t = paper.tables t.buses m.stepped t.first m.curved t.second t.branches

module _ {M N : Type 0} where
  -- the case that the tables and these machines make
  abbrev pub case_in : ℕ → List M → List N → Tables → Sizes ℕ → Case M N
  case_in tolerance first second t n =
      record {
        tolerance = pos tolerance;
        buses = take n.buses t.buses;
        first = record { machines = take n.first first; place = λ i. slice_index t.first i };
        second = record { machines = take n.second second; place = λ i. slice_index t.second i };
        branches = take n.branches t.branches;
      }

  -- the panel's tables are these, whole, and its machines these, and so many rows of each are the case's
  pub record OnTables (ms : List M) (ns : List N) (t : Lent) (n : Sizes ℕ) (p : Panel M N Idle) : Type 0 where
    pub buses : p.buses.now ≡ t.buses
    pub bus_count : p.nb ≡ n.buses
    pub first : p.first.rows.now ≡ ms
    pub first_places : p.first.places.now ≡ t.first
    pub first_count : p.first.count ≡ n.first
    pub second : p.second.rows.now ≡ ns
    pub second_places : p.second.places.now ≡ t.second
    pub second_count : p.second.count ≡ n.second
    pub branches : p.branches.now ≡ t.branches
    pub branch_count : p.nl ≡ n.branches

  -- of the lent powers and angles it takes the first: a power for each machine, and an angle for each bus but the reference;
  -- the others are spare, and as they were
  pub record PlacesTaken (t : Tables) (p : Panel M N Idle) : Type 0 where
    pub powers : p.powers.now ≡ take (length (case_on p).first.machines + length (case_on p).second.machines) t.powers
    pub angles : p.angles.now ≡ take (length (case_on p).buses - 1) t.angles
    pub spare_powers : p.spare_powers.now ≡ drop (length (case_on p).first.machines + length (case_on p).second.machines) t.powers
    pub spare_angles : p.spare_angles.now ≡ drop (length (case_on p).buses - 1) t.angles

module _ {M N : Type 0} (𝓜 : Meaning M) (𝓝 : Meaning N) where
  -- the panel is idle and shows nothing, its case is well formed, and a run of calls begins on it
  pub record Begins (p : Panel M N Idle) : Type 0 where
    pub sized : WellSized 𝓜 𝓝 (sized_case p)
    pub new : idle 𝓜 𝓝 p ≡ new_panel (sized_case p)
    pub run : Run (network 𝓜 𝓝) (sized_case p) [] [] (idle 𝓜 𝓝 p)

  -- what the rows offer is laid in the tables, and is the panel's case
  pub record RowsOpened (o : Rows M N) (before : Tables) (p : Panel M N Idle) : Type 0 where
    pub after : Lent
    pub figures : LaidCase
    pub laid : Laid 𝓜 𝓝 o (lent_in before) after figures
    pub case : case_on p ≡ laid_case o after figures
    pub tables : OnTables o.first.now o.second.now after figures.counts p
    pub places : PlacesTaken before p

-- the words are a lawful case that is read into the tables, and is the panel's case
pub record PaperOpened (w : List ℕ) (before : paper.Tables) (p : Panel Stepped Curved Idle) : Type 0 where
  pub after : paper.Tables
  pub read : LaidCase
  pub said : CaseRead w before after read
  pub case : case_on p ≡ held_case read after
  pub tables : OnTables after.stepped after.curved (laid_in after) read.counts p
