-- The records of a case by their sorts, and its tolerance.
use Rattle.std.specs.Prelude.{ℕ, cond, List, [], ◌∷◌, ℤ, ◌==◌, slice_index}
use Rattle.word.specs.Word.{amount_of}
use Rattle.case_paper.specs.Case.{rank, Record, CaseForm}

-- the records of the sort of this rank, in their order
abbrev pub of_rank : ℕ → List Record → List Record
of_rank k [] = []
of_rank k (r ∷ rs) = cond (rank r.sort == k) (r ∷ of_rank k rs) (of_rank k rs)

-- the tolerance that a case in form says
abbrev pub tolerance_of : {w : List ℕ} → CaseForm w → ℤ
tolerance_of c = amount_of (slice_index c.head 1)
