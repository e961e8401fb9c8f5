-- The rows of a table after the case's.
use Rattle.std.proofs.Common.{◌≡◌, ℕ, ◌<◌, List, length, take, drop, set, arith}
use Rattle.std.proofs.lemmas.List.{length-take, drop-set-lt}
use Rattle.measure.specs.Rows.{Row, HoldsAt}
use Rattle.measure.proofs.Sums.{holds_below}

-- they are as they were where a row of the case is set
pub later_rows : {X : Type 0} (P : Row X → Type 0) (n : ℕ) (xs : List X) (i : ℕ) (x : X) → HoldsAt P (take n xs) i → drop n (set xs i x) ≡ drop n xs
later_rows P n xs i x h =
    let l : i < length (take n xs) = holds_below P (take n xs) i h in
    let t = length-take n xs in
    drop-set-lt n xs i x (omega arith)
