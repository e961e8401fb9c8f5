-- Reading a sheet: its lines end at each byte 10, and the figure of a line follows its first space.
use Rattle.std.specs.Prelude.{ℕ, cond, List, [], ◌∷◌, ◌++◌, ℤ, pos, neg_ℤ, Some, None, Option, ◌==◌, slice_index_or}
use Rattle.std.specs.Str.Parse.{digits_value}
use Rattle.measure.specs.declared.Grains.{Grains}
use Rattle.sheet.specs.declared.gap.Gap.{Gap}
use Rattle.sheet.specs.declared.sheet.Sheet.{Sheet}

-- the lines in the bytes, after what is already read of the first
abbrev pub lines_after : List ℕ → List ℕ → List (List ℕ)
lines_after read [] = []
lines_after read (b ∷ bs) = cond (b == 10) (read ∷ lines_after [] bs) (lines_after (read ++ (b ∷ [])) bs)

abbrev pub lines_in : List ℕ → List (List ℕ)
lines_in bytes = lines_after [] bytes

-- what follows the first space
abbrev pub after_space : List ℕ → List ℕ
after_space [] = []
after_space (b ∷ bs) = cond (b == 32) bs (after_space bs)

-- what follows a minus: a number below 0, or no figure
abbrev pub read_minus : List ℕ → Option ℤ
read_minus [] = None
read_minus (d ∷ ds) = Some (neg_ℤ (pos (digits_value 10 (d ∷ ds))))

abbrev pub read_figure : List ℕ → Option ℤ
read_figure [] = None
read_figure (c ∷ cs) = cond (c == 45) (read_minus cs) (Some (pos (digits_value 10 (c ∷ cs))))

abbrev pub grains_of : Option ℤ → Option Grains
grains_of None = None
grains_of (Some z) = Some (record { 0 = z })

abbrev pub gap_from : Option ℤ → Option Gap
gap_from None = None
gap_from (Some z) = Some (record { 0 = z })

-- the text of the figure in that line
abbrev pub figure_at : List (List ℕ) → ℕ → List ℕ
figure_at lines k = after_space (slice_index_or lines k [])

abbrev pub sheet_from : List (List ℕ) → Sheet
sheet_from lines = record {
  attendant = digits_value 10 (figure_at lines 0);
  held = digits_value 10 (figure_at lines 1);
  passed = digits_value 10 (figure_at lines 2);
  declined = digits_value 10 (figure_at lines 3);
  changes = digits_value 10 (figure_at lines 4);
  cost = grains_of (read_figure (figure_at lines 5));
  floor = grains_of (read_figure (figure_at lines 6));
}

unfoldable pub read_sheet : List ℕ → Sheet
read_sheet bytes = sheet_from (lines_in bytes)

unfoldable pub read_gap : List ℕ → Option Gap
read_gap bytes = gap_from (read_figure (figure_at (lines_in bytes) 7))
