-- The small harbour: two buses, a stepped machine at the first, a curved one at the second, and one branch between them.
use Rattle.std.specs.Prelude.{map, ℕ, zero, suc, Bool, [], ◌∷◌, ℤ, pos, negsuc}
use Rattle.std.proofs.Common.{lit≤}
use Rattle.stepped.specs.declared.stepped.Stepped.{Stepped}
use Rattle.curved.specs.declared.curved.Curved.{Curved}
use Rattle.names.specs.declared.branch.BranchName.{BranchName}
use Rattle.network.specs.declared.bus.Bus.{Bus}
use Rattle.network.specs.declared.branch.Branch.{Branch}
use Rattle.network.specs.Model.{Case, WholeDispatch}
use Rattle.network.specs.Floor.{Prices}

abbrev pub stepped : Stepped
stepped =
    record {
      bus = 1;
      lo = record { 0 = pos 0 };
      hi = record { 0 = pos 2000 };
      c = pos 0;
      n = 3;
      points = map (λ p. record { 0 = p }) (pos 0 ∷ (pos 600 ∷ (pos 2000 ∷ (pos 0 ∷ (pos 0 ∷ (pos 0 ∷ (pos 0 ∷ (pos 0 ∷ []))))))));
      slopes = pos 20 ∷ (pos 50 ∷ (pos 0 ∷ (pos 0 ∷ (pos 0 ∷ (pos 0 ∷ (pos 0 ∷ []))))));
    }

abbrev pub curved : Curved
curved = record { bus = 2; lo = record { 0 = pos 0 }; hi = record { 0 = pos 1000 }; c0 = pos 0; c1 = pos 30; c2 = pos 500 }

abbrev pub west : Bus
west = record { name = 1; demand = record { 0 = pos 0 }; ok = ((lit≤ tt, lit≤ tt), (record { le = tt }, record { le = tt })) }

abbrev pub east : Bus
east = record { name = 2; demand = record { 0 = pos 1000 }; ok = ((lit≤ tt, lit≤ tt), (record { le = tt }, record { le = tt })) }

abbrev pub line_name : BranchName
line_name = record { circuit = 1; from = 1; to = 2 }

abbrev pub line : Bool → Branch
line service =
    record {
      name = line_name;
      ends = record { from = 0; to = 1 };
      susceptance = pos 10;
      shift = record { 0 = pos 0 };
      rating = record { 0 = pos 800 };
      angmin = record { 0 = negsuc 6399999 };
      angmax = record { 0 = pos 6400000 };
      service = service;
      named = ((lit≤ tt, lit≤ tt), (lit≤ tt, lit≤ tt), (lit≤ tt, lit≤ tt));
      susceptible = (record { le = tt }, record { le = tt });
      shifted = (record { le = tt }, record { le = tt });
      rated = (record { le = tt }, record { le = tt });
      limited = ((record { le = tt }, record { le = tt }), (record { le = tt }, record { le = tt }), record { le = tt });
    }

-- with that tolerance, and the branch in service or out
abbrev pub harbour : ℕ → Bool → Case Stepped Curved
harbour E service =
    record {
      tolerance = pos E;
      buses = west ∷ (east ∷ []);
      first = record { machines = stepped ∷ []; place = λ i. 0 };
      second = record { machines = curved ∷ []; place = λ i. 1 };
      branches = line service ∷ [];
    }

-- a power for each machine, and the angle of the second bus
abbrev pub dispatch : ℤ → ℤ → ℤ → WholeDispatch
dispatch p₁ p₂ θ = record { first = λ i. p₁; second = λ i. p₂; angles = λ i. θ }

-- x in row 0, y in every other
abbrev pub of_two : ℤ → ℤ → ℕ → ℤ
of_two x y zero = x
of_two x y (suc i) = y

-- a price for each bus, and the branch's congestion price and angle price
abbrev pub prices : ℤ → ℤ → ℤ → ℤ → Prices
prices l₁ l₂ μ ν = record { bus = of_two l₁ l₂; congestion = λ i. μ; angle = λ i. ν }
