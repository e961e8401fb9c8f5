-- A sheet's figures read again from its bytes.
use Rattle.std.proofs.Common.{◌≡◌, ℕ, zero, suc, ◌-◌, ◌^◌, ◌<◌, false, cond, eqb, List, [], ◌∷◌, ◌++◌, length, replicate, ℤ, pos, negsuc, neg_ℤ, Some, None, codes, decimal, Option, sym, refl, ap, ◌∙◌, append_assoc, append-nil, arith, ne_eqb, All}
use Rattle.std.proofs.lemmas.Fmt.{decimal_is_IsNumeral}
use Rattle.std.proofs.lemmas.Str.Parse.{digit_from_value, digit_at}
use Rattle.std.proofs.lemmas.List.Elements.{All-nil, All-cons, All-head, All-tail, All-append, All-from_get_or, All-from_recursion}
use Rattle.std.specs.List.{AllByRecursion}
use Rattle.std.specs.Str.Parse.{digits_value, AllDigits}
use Rattle.measure.specs.declared.Grains.{Grains}
use Rattle.sheet.specs.declared.gap.Gap.{Gap}
use Rattle.sheet.specs.declared.sheet.Sheet.{Sheet}
use Rattle.sheet.specs.Figure.{Short, shown, line_of, amount_of, excess_of, gap_of}
use Rattle.sheet.specs.Lines.{ended, lines_of, sheet_lines, sheet_bytes}
use Rattle.sheet.specs.Reading.{lines_after, lines_in, read_minus, read_figure, grains_of, gap_from, figure_at, sheet_from, read_sheet, read_gap}

-- no byte of the text ends a line
abbrev pub InLine : List ℕ → Type 0
InLine l = All (λ b. 10 < b) l

in_line_digits : (ds : List ℕ) → AllDigits 10 ds → InLine ds
in_line_digits ds d = All-from_get_or (λ b. 10 < b) ds 0 (λ i h. omega (arith, digit_at ds i d h))

in_line_decimal : (n : ℕ) → n < 2 ^ 64 → InLine (decimal n)
in_line_decimal n h = in_line_digits (decimal n) (decimal_is_IsNumeral n h).0.1

in_line_shown : (figure : Option ℤ) → Short figure → InLine (shown figure)
in_line_shown None s = All-cons (λ b. 10 < b) 45 [] (omega arith) (All-nil (λ b. 10 < b))
in_line_shown (Some (pos n)) s = in_line_decimal n s
in_line_shown (Some (negsuc n)) s = All-cons (λ b. 10 < b) 45 (decimal (suc n)) (omega arith) (in_line_decimal (suc n) s)

line-cut : (read l rest : List ℕ) → InLine l → lines_after read (l ++ (10 ∷ rest)) ≡ (read ++ l) ∷ lines_in rest
line-cut read [] rest p = ap (λ r. r ∷ lines_in rest) (sym (append-nil read))
line-cut read (b ∷ bs) rest p =
    let other : eqb b 10 ≡ false = ne_eqb b 10 (omega (arith, All-head (λ c. 10 < c) b bs p)) in
    ap (λ t. cond t (read ∷ lines_in (bs ++ (10 ∷ rest))) (lines_after (read ++ (b ∷ [])) (bs ++ (10 ∷ rest)))) other
    ∙ line-cut (read ++ (b ∷ [])) bs rest (All-tail (λ c. 10 < c) b bs p)
    ∙ ap (λ r. r ∷ lines_in rest) (append_assoc read (b ∷ []) bs)

no_line : (read : List ℕ) (n : ℕ) → lines_after read (replicate n 32) ≡ []
no_line read zero = refl
no_line read (suc n) = no_line (read ++ (32 ∷ [])) n

pub lines_cut : (ls : List (List ℕ)) (n : ℕ) → All InLine ls → lines_in (ended ls ++ replicate n 32) ≡ ls
lines_cut [] n p = no_line [] n
lines_cut (l ∷ ls) n p =
    ap (lines_after []) (append_assoc l (10 ∷ ended ls) (replicate n 32)) ∙ line-cut [] l (ended ls ++ replicate n 32) (All-head InLine l ls p) ∙ ap (λ r. l ∷ r) (lines_cut ls n (All-tail InLine l ls p))

read_plain : (ds : List ℕ) → 0 < length ds → AllDigits 10 ds → read_figure ds ≡ Some (pos (digits_value 10 ds))
read_plain [] some d = absurd (omega arith)
read_plain (c ∷ cs) some d =
    let other : eqb c 45 ≡ false = ne_eqb c 45 (omega (arith, digit_from_value c d.0)) in
    ap (λ t. cond t (read_minus cs) (Some (pos (digits_value 10 (c ∷ cs))))) other

read_below : (ds : List ℕ) → 0 < length ds → read_minus ds ≡ Some (neg_ℤ (pos (digits_value 10 ds)))
read_below [] some = absurd (omega arith)
read_below (c ∷ cs) some = refl

pub read_shown : (figure : Option ℤ) → Short figure → read_figure (shown figure) ≡ figure
read_shown None s = refl
read_shown (Some (pos n)) s = let k = decimal_is_IsNumeral n s in read_plain (decimal n) k.0.0 k.0.1 ∙ ap (λ m. Some (pos m)) k.1
read_shown (Some (negsuc n)) s = let k = decimal_is_IsNumeral (suc n) s in read_below (decimal (suc n)) k.0.0 ∙ ap (λ m. Some (neg_ℤ (pos m))) k.1

grains-same : (o : Option Grains) → grains_of (amount_of o) ≡ o
grains-same None = refl
grains-same (Some g) = refl

gap-same : (o : Option Gap) → gap_from (excess_of o) ≡ o
gap-same None = refl
gap-same (Some g) = refl

-- each figure has at most twenty digits
pub record Shorts (s : Sheet) : Type 0 where
  pub attendant : Short (Some (pos s.attendant))
  pub held : Short (Some (pos s.held))
  pub passed : Short (Some (pos s.passed))
  pub declined : Short (Some (pos s.declined))
  pub changes : Short (Some (pos s.changes))
  pub cost : Short (amount_of s.cost)
  pub floor : Short (amount_of s.floor)
  pub gap : Short (excess_of (gap_of s.cost s.floor))

pub in_line_of : (word : List ℕ) (figure : Option ℤ) → AllByRecursion (λ b. 10 < b) word → Short figure → InLine (line_of word figure)
in_line_of word figure w s =
    All-append (λ b. 10 < b) word (32 ∷ shown figure) (All-from_recursion (λ b. 10 < b) word w) (All-cons (λ b. 10 < b) 32 (shown figure) (omega arith) (in_line_shown figure s))

pub in_lines_of : (s : Sheet) → Shorts s → All InLine (lines_of s)
in_lines_of s h = All-from_recursion InLine (lines_of s) (
  in_line_of (codes "WATCH") (Some (pos s.attendant)) (omega arith) h.attendant,
  (
    in_line_of (codes "HELD") (Some (pos s.held)) (omega arith) h.held,
    (
      in_line_of (codes "PASSED") (Some (pos s.passed)) (omega arith) h.passed,
      (
        in_line_of (codes "DECLINED") (Some (pos s.declined)) (omega arith) h.declined,
        (
          in_line_of (codes "CHANGES") (Some (pos s.changes)) (omega arith) h.changes,
          (
            in_line_of (codes "COST") (amount_of s.cost) (omega arith) h.cost,
            (
              in_line_of (codes "FLOOR") (amount_of s.floor) (omega arith) h.floor,
              (
                in_line_of (codes "GAP") (excess_of (gap_of s.cost s.floor)) (omega arith) h.gap,
                tt,
              ),
            ),
          ),
        ),
      ),
    ),
  ),
)

lines_again : (s : Sheet) → Shorts s → lines_in (sheet_bytes s) ≡ lines_of s
unfolding sheet_lines sheet_bytes
lines_again s h = lines_cut (lines_of s) (256 - length (sheet_lines s)) (in_lines_of s h)

-- the lines may be followed by others
pub sheet_from_lines : (s : Sheet) (rest : List (List ℕ)) → Shorts s → sheet_from (lines_of s ++ rest) ≡ s
sheet_from_lines s rest h i = record {
  attendant = (decimal_is_IsNumeral s.attendant h.attendant).1 i;
  held = (decimal_is_IsNumeral s.held h.held).1 i;
  passed = (decimal_is_IsNumeral s.passed h.passed).1 i;
  declined = (decimal_is_IsNumeral s.declined h.declined).1 i;
  changes = (decimal_is_IsNumeral s.changes h.changes).1 i;
  cost = (ap grains_of (read_shown (amount_of s.cost) h.cost) ∙ grains-same s.cost) i;
  floor = (ap grains_of (read_shown (amount_of s.floor) h.floor) ∙ grains-same s.floor) i;
}

pub sheet_again : (s : Sheet) → Shorts s → read_sheet (sheet_bytes s) ≡ s
unfolding read_sheet
sheet_again s h = ap sheet_from (lines_again s h) ∙ sheet_from_lines s [] h

pub gap_again : (s : Sheet) → Shorts s → read_gap (sheet_bytes s) ≡ gap_of s.cost s.floor
unfolding read_gap
gap_again s h =
    let gap = gap_of s.cost s.floor in
    ap (λ ls. gap_from (read_figure (figure_at ls 7))) (lines_again s h) ∙ ap gap_from (read_shown (excess_of gap) h.gap) ∙ gap-same gap
