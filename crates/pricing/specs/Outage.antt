-- A branch out of service.
use Rattle.std.specs.Prelude.{◌≡◌, ℕ, zero, suc, Bool, false, ◌⊎◌, List, [], ◌∷◌, take, pos, Some, None, Err, Result}
use Rattle.measure.specs.Rows.{HoldsAt, Lowest}
use Rattle.measure.specs.declared.Grains.{Grains}
use Rattle.names.specs.Names.{HasName}
use Rattle.names.specs.declared.branch.BranchName.{BranchName}
use Rattle.machine.specs.Meaning.{Meaning}
use Rattle.network.specs.declared.branch.Branch.{Branch}
use Rattle.pricing.specs.declared.outage.Stations.{Stations}
use Rattle.network.specs.View.{group_of}
use Rattle.network.specs.declared.refusal.Refusal.{Refusal}
use Rattle.network.specs.declared.refusal.Refusal.TheVariants.{NotInCase}
use Rattle.network.specs.Model.{Case}
use Rattle.network.specs.Floor.{Prices}
use Rattle.network.specs.Floored.{Floored}

-- a branch with another service mark
abbrev pub marked : Bool → Branch → Branch
marked m b =
    record {
      name = b.name;
      ends = b.ends;
      susceptance = b.susceptance;
      shift = b.shift;
      rating = b.rating;
      angmin = b.angmin;
      angmax = b.angmax;
      service = m;
      named = b.named;
      susceptible = b.susceptible;
      shifted = b.shifted;
      rated = b.rated;
      limited = b.limited;
    }

-- the branches with the one in row i at the service mark m
unfoldable pub with_mark : List Branch → ℕ → Bool → List Branch
with_mark [] i m = []
with_mark (b ∷ bs) zero m = marked m b ∷ bs
with_mark (b ∷ bs) (suc i) m = b ∷ with_mark bs i m

-- the case with the branch in row i out of service
abbrev pub without : {M N : Type 0} → Case M N → ℕ → Case M N
without c i =
    record { tolerance = c.tolerance; buses = c.buses; first = c.first; second = c.second; branches = with_mark c.branches i false }

-- the branch in row i of the case has that name
abbrev pub NamedRow : {M N : Type 0} → Case M N → BranchName → ℕ → Type 0
NamedRow c name = HoldsAt (HasName ◌≡◌ (λ (b : Branch). b.name) name) c.branches

module _ {M N : Type 0} (𝓜 : Meaning M) (𝓝 : Meaning N) (c : Case M N) (q : Prices) (name : BranchName) (r : Result Grains Refusal) where
  -- no branch of the case has the name
  pub record Absent : Type 0 where
    pub none : Lowest (NamedRow c name) None
    pub refused : r ≡ Err NotInCase

  -- the lowest row that has it is taken out of service
  pub record Tried : Type 0 where
    pub row : ℕ
    pub lowest : Lowest (NamedRow c name) (Some row)
    pub floored : Floored 𝓜 𝓝 (without c row) q r

  -- what becomes of a price list where the branch of that name is out of service
  abbrev pub FlooredWithout : Type 0
  FlooredWithout = Absent ⊎ Tried

-- the case that stations make with branch rows
abbrev pub stations_with : {M N : Type 0} → Stations M N → List Branch → Case M N
stations_with s branches =
    record {
      tolerance = pos s.tolerance;
      buses = take s.nb s.buses.now;
      first = group_of s.first;
      second = group_of s.second;
      branches = take s.nl branches;
    }
