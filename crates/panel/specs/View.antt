-- The panel of the code as a state of the network's panel.
use Rattle.std.specs.Prelude.{length, take, ℤ, pos, Some, None, Option}
use Rattle.std.specs.Option.{option_map}
use Rattle.measure.specs.declared.Grains.{Grains}
use Rattle.machine.specs.Meaning.{Meaning}
use Rattle.network.specs.Model.{Case}
use Rattle.network.specs.View.{group_of}
use Rattle.sheet.specs.declared.sheet.Sheet as page
use Rattle.standing.specs.Panel as standing
use Rattle.standing.specs.Panel.{State}
use Rattle.panel_model.specs.Network.{network, SizedCase}
use Rattle.panel.specs.Watch.{watch_of}
use Rattle.panel.specs.declared.watch.Idle.{Idle}
use Rattle.panel.specs.declared.watch.Watch.{Watch}
use Rattle.panel.specs.declared.panel.Panel.{Panel}

-- grains per hour as a number
abbrev pub amount : Option Grains → Option ℤ
amount o = option_map (λ (g : Grains). g.0) o

module _ {M N S : Type 0} where
  -- the case that stands in the panel's tables
  abbrev pub case_on : Panel M N S → Case M N
  case_on p =
      record {
        tolerance = pos p.tolerance;
        buses = take p.nb p.buses.now;
        first = group_of p.first;
        second = group_of p.second;
        branches = take p.nl p.branches.now;
      }

  -- a dispatch has as many powers and angles as the panel has places for
  abbrev pub sized_case : Panel M N S → SizedCase M N
  sized_case p = record { case = case_on p; powers = length p.powers.now; angles = length p.angles.now }

module _ {M N : Type 0} (𝓜 : Meaning M) (𝓝 : Meaning N) where
  -- a cost says that the dispatch in the tables of powers and angles is shown
  abbrev pub state_of : {S : Type 0} → (S → Option standing.Watch) → Panel M N S → State (network 𝓜 𝓝)
  state_of watch p =
      record {
        case = sized_case p;
        shown = option_map (λ (g : Grains). record { dispatch = record { powers = p.powers.now; angles = p.angles.now }; cost = g.0 }) p.cost;
        floor = amount p.floor;
        watch = watch p.state;
      }

  abbrev pub idle : Panel M N Idle → State (network 𝓜 𝓝)
  idle p = state_of (λ s. None) p

  abbrev pub manned : Panel M N Watch → State (network 𝓜 𝓝)
  manned p = state_of (λ w. Some (watch_of w)) p

-- the figures of a sheet
abbrev pub sheet_told : page.Sheet → standing.Sheet
sheet_told x =
    record {
      attendant = x.attendant;
      counts = record { held = x.held; passed = x.passed; declined = x.declined; changes = x.changes };
      cost = amount x.cost;
      floor = amount x.floor;
    }
