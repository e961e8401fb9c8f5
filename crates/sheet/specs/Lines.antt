-- The bytes of a sheet.
use Rattle.std.specs.Prelude.{ℕ, ◌-◌, List, [], ◌∷◌, ◌++◌, length, replicate, pos, Some, codes}
use Rattle.sheet.specs.Figure.{amount_of, excess_of, gap_of, line_of}
use Rattle.sheet.specs.declared.sheet.Sheet.{Sheet}

-- the eight lines, without what ends them
abbrev pub lines_of : Sheet → List (List ℕ)
lines_of s =
    line_of (codes "WATCH") (Some (pos s.attendant))
    ∷ line_of (codes "HELD") (Some (pos s.held))
    ∷ line_of (codes "PASSED") (Some (pos s.passed))
    ∷ line_of (codes "DECLINED") (Some (pos s.declined))
    ∷ line_of (codes "CHANGES") (Some (pos s.changes))
    ∷ line_of (codes "COST") (amount_of s.cost)
    ∷ line_of (codes "FLOOR") (amount_of s.floor)
    ∷ line_of (codes "GAP") (excess_of (gap_of s.cost s.floor))
    ∷ []

-- each line is ended by byte 10
abbrev pub ended : List (List ℕ) → List ℕ
ended [] = []
ended (l ∷ ls) = l ++ (10 ∷ ended ls)

unfoldable pub sheet_lines : Sheet → List ℕ
sheet_lines s = ended (lines_of s)

-- the lines, and spaces up to 256 bytes
unfoldable pub sheet_bytes : Sheet → List ℕ
sheet_bytes s = sheet_lines s ++ replicate (256 - length (sheet_lines s)) 32
