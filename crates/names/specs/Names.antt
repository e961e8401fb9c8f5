-- Names: their sameness, and the rows of a table that have a name, repeat one, or have each a name of their own.
use Rattle.std.specs.Prelude.{◌≡◌, ℕ, ◌<◌, ◌≤◌, List}
use Rattle.measure.specs.Rows.{Row, HoldsAt, Stands}
use Rattle.names.specs.declared.branch.BranchName.{BranchName}

-- a number that may stand in a name
abbrev pub NameRange : ℕ → Type 0
NameRange n = (1 ≤ n) × (n ≤ 255)

-- a branch's name whose numbers are all such
abbrev pub BranchRange : BranchName → Type 0
BranchRange b = NameRange b.circuit × NameRange b.from × NameRange b.to

-- what a kind of name must prove of its sameness
pub record Sameness {K : Type 0} (same : K → K → Type 0) : Type 0 where
  pub itself : (x : K) → same x x
  pub either_way : (x y : K) → same x y → same y x
  pub through : (x y z : K) → same x y → same y z → same x z

-- the row has the name k
abbrev pub HasName : {K R : Type 0} → (K → K → Type 0) → (R → K) → K → Row R → Type 0
HasName same name k r = same (name r.item) k

-- a row before row i has the name k
pub record NamedBefore {K R : Type 0} (same : K → K → Type 0) (name : R → K) (k : K) (xs : List R) (i : ℕ) : Type 0 where
  pub earlier : ℕ
  pub before : earlier < i
  pub named : HoldsAt (HasName same name k) xs earlier

-- row i is in the table, and an earlier row has its name
pub record Repeats {K R : Type 0} (same : K → K → Type 0) (name : R → K) (xs : List R) (i : ℕ) : Type 0 where
  pub item : R
  pub stands : Stands xs i item
  pub earlier : ℕ
  pub before : earlier < i
  pub named : HoldsAt (HasName same name (name item)) xs earlier

-- rows with the same name are one row
pub record Distinct {K R : Type 0} (same : K → K → Type 0) (name : R → K) (xs : List R) : Type 0 where
  pub one_row : (i j : ℕ) (x y : R) → Stands xs i x → Stands xs j y → same (name x) (name y) → i ≡ j
