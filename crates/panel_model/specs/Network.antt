-- The network of the DC model, as a panel stands on it: cases of two kinds of machine, and dispatches and price lists as papers give them.
use Rattle.std.specs.Prelude.{◌≡◌, ℕ, ◌+◌, map, length, take, drop, pos, slice_index_or}
use Rattle.std.specs.Option.{option_map}
use Rattle.machine.specs.Meaning.{Meaning}
use Rattle.network.specs.Model.{Case, WholeDispatch, in_fractions, Meets, true_cost, counted}
use Rattle.network.specs.Model as model
use Rattle.network.specs.Floor.{LawfulList, floor}
use Rattle.network.specs.Floor as list
use Rattle.build.specs.Build.{WellFormed}
use Rattle.paper.specs.Dispatch.{Dispatch, LawfulDispatch}
use Rattle.paper.specs.Prices.{Prices, LawfulPrices}
use Rattle.standing.specs.Model.{Model}
use Rattle.panel_model.specs.Change.{Change, changed}

-- a dispatch by rows: the powers of the first group come first
abbrev pub by_rows : {M N : Type 0} → Case M N → Dispatch → WholeDispatch
by_rows c d =
    record {
      first = λ i. slice_index_or (take (length c.first.machines) d.powers) i (pos 0);
      second = λ i. slice_index_or (drop (length c.first.machines) d.powers) i (pos 0);
      angles = λ i. slice_index_or d.angles i (pos 0);
    }

-- a price list by rows
abbrev pub list_by_rows : Prices → list.Prices
list_by_rows l =
    record {
      bus = λ i. slice_index_or l.buses i (pos 0);
      congestion = λ i. slice_index_or (map (λ b. b.congestion) l.branches) i (pos 0);
      angle = λ i. slice_index_or (map (λ b. b.angle) l.branches) i (pos 0);
    }

-- a price list for the case has a price for each bus and two for each branch, each in its range, and is lawful
pub record LawfulFor {M N : Type 0} (c : Case M N) (l : Prices) : Type 0 where
  pub sized : LawfulPrices (length c.buses) (length c.branches) l
  pub counts : LawfulList c (list_by_rows l)

-- a case, and how many powers and angles a dispatch for it has
pub record SizedCase (M N : Type 0) : Type 0 where
  pub case : Case M N
  pub powers : ℕ
  pub angles : ℕ

-- a case in the place of another, of the same sizes
abbrev pub in_place : {M N : Type 0} → SizedCase M N → Case M N → SizedCase M N
in_place s c = record { case = c; powers = s.powers; angles = s.angles }

module _ {M N : Type 0} (𝓜 : Meaning M) (𝓝 : Meaning N) where
  -- the case is well formed, and a dispatch has a power for each machine and an angle for each bus but the reference
  pub record WellSized (s : SizedCase M N) : Type 0 where
    pub formed : WellFormed 𝓜 𝓝 s.case
    pub powers : s.powers ≡ length s.case.first.machines + length s.case.second.machines
    pub angles : s.angles + 1 ≡ length s.case.buses

  abbrev pub network : Model
  network =
      record {
        Case = SizedCase M N;
        Dispatch = Dispatch;
        Rival = model.Dispatch;
        Prices = Prices;
        Change = Change;
        WellFormed = WellSized;
        Fits = λ s d. LawfulDispatch s.powers s.angles d;
        MeetsInFractions = λ s d. Meets 𝓜 𝓝 s.case d;
        in_fractions = λ s d. in_fractions (by_rows s.case d);
        Lawful = λ s l. LawfulFor s.case l;
        changed = λ s x. option_map (in_place s) (changed s.case x);
        counted = λ s d. counted 𝓜 𝓝 s.case (by_rows s.case d);
        true_cost = λ s d. true_cost 𝓜 𝓝 s.case d;
        floor_of = λ s l. floor 𝓜 𝓝 s.case (list_by_rows l);
      }
