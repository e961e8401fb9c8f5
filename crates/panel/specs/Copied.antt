-- A table that holds a column's numbers.
use Rattle.std.specs.Prelude.{◌≡◌, ℕ, ◌<◌, List, length, ℤ, pos, slice_index_or}

-- each row has the number that is given for it
abbrev pub Given : (ℕ → ℤ) → List ℤ → Type 0
Given value table = (i : ℕ) → i < length table → slice_index_or table i (pos 0) ≡ value i
