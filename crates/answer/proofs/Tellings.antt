-- An answer read again from its lines.
use Rattle.std.proofs.Common.{◌≡◌, ℕ, ◌<◌, false, cond, eqb, List, [], ◌∷◌, ◌++◌, get_or, ℤ, pos, Some, None, Option, IfSome, codes, decimal, All, sym, refl, ap, ◌∙◌, append_assoc, append-nil, arith, ne_eqb}
use Rattle.std.proofs.lemmas.Fmt.{decimal_is_IsNumeral}
use Rattle.std.proofs.lemmas.Int.{ints}
use Rattle.std.proofs.lemmas.List.{append_cancel_left}
use Rattle.std.proofs.lemmas.List.Elements.{All-nil, All-cons, All-head, All-tail, All-append, All-from_recursion, recursion_from_All}
use Rattle.std.proofs.lemmas.Str.Parse.{digit_from_value}
use Rattle.std.specs.List.{AllByRecursion, flat_map}
use Rattle.std.specs.Str.Parse.{digits_value, AllDigits}
use Rattle.measure.specs.declared.Grains.{Grains}
use Rattle.case_paper.specs.declared.shown.Shown.{Shown}
use Rattle.sheet.proofs.Readings.{InLine, Shorts, in_line_of, in_lines_of, lines_cut, read_shown, sheet_from_lines}
use Rattle.sheet.specs.declared.sheet.Sheet.{Sheet}
use Rattle.sheet.specs.Figure.{Short, shown, line_of, amount_of, excess_of, gap_of}
use Rattle.sheet.specs.Lines.{ended}
use Rattle.sheet.specs.Reading.{lines_in, after_space, read_figure, sheet_from}
use Rattle.answer.specs.Laws.{GrainsFit, ShownFits, SheetFits, AnswerFits, PrintedTells}
use Rattle.answer.specs.Printed.{answer_lines, printed}
use Rattle.answer.specs.declared.answer.Answer.{Answer}
use Rattle.answer.specs.declared.answer.Answer.TheVariants as answer

grains_short : (g : Grains) → GrainsFit g → Short (Some g.0)
grains_short g f = omega (arith, ints)

amount_short : (o : Option Grains) → IfSome o GrainsFit → Short (amount_of o)
amount_short None f = tt
amount_short (Some g) f = grains_short g f

gap_short : (x y : Option Grains) → IfSome x GrainsFit → IfSome y GrainsFit → Short (excess_of (gap_of x y))
gap_short None y f g = tt
gap_short (Some x) None f g = tt
gap_short (Some x) (Some y) f g = omega (arith, ints)

shorts : (s : Sheet) → SheetFits s → Shorts s
shorts s f = record {
  attendant = omega arith;
  held = omega arith;
  passed = omega arith;
  declined = omega arith;
  changes = omega arith;
  cost = amount_short s.cost f.cost;
  floor = amount_short s.floor f.floor;
  gap = gap_short s.cost s.floor f.cost f.floor;
}

one_line : (l : List ℕ) → InLine l → All InLine (l ∷ [])
one_line l p = All-cons InLine l [] p (All-nil InLine)

grains_line : (word : List ℕ) (g : Grains) → AllByRecursion (λ b. 10 < b) word → GrainsFit g → All InLine (line_of word (Some g.0) ∷ [])
grains_line word g w f = one_line (line_of word (Some g.0)) (in_line_of word (Some g.0) w (grains_short g f))

shown_line : (s : Shown) → ShownFits s → All InLine (answer_lines (answer.Refused s))
shown_line s f =
    let front = line_of (codes "REFUSED") (Some (pos s.number)) in
    let first : InLine front = in_line_of (codes "REFUSED") (Some (pos s.number)) (omega arith) (omega arith) in
    one_line (line_of front (Some (pos s.place))) (in_line_of front (Some (pos s.place)) (recursion_from_All (λ b. 10 < b) front first) (omega arith))

in_answer_lines : (a : Answer) → AnswerFits a → All InLine (answer_lines a)
in_answer_lines answer.Case f = one_line (codes "CASE") (All-from_recursion (λ b. 10 < b) (codes "CASE") (omega arith))
in_answer_lines (answer.Held g) f = grains_line (codes "HELD") g (omega arith) f
in_answer_lines (answer.Passed g) f = grains_line (codes "PASSED") g (omega arith) f
in_answer_lines answer.Changed f = one_line (codes "CHANGED") (All-from_recursion (λ b. 10 < b) (codes "CHANGED") (omega arith))
in_answer_lines (answer.Trial g) f = grains_line (codes "TRIAL") g (omega arith) f
in_answer_lines (answer.Refused s) f = shown_line s f
in_answer_lines (answer.Sheet s) f = in_lines_of s (shorts s f)

all_in_lines : (xs : List Answer) → All AnswerFits xs → All InLine (flat_map answer_lines xs)
all_in_lines [] f = All-nil InLine
all_in_lines (a ∷ xs) f =
    All-append InLine (answer_lines a) (flat_map answer_lines xs) (in_answer_lines a (All-head AnswerFits a xs f))
    (all_in_lines xs (All-tail AnswerFits a xs f))

ended-append : (ls ms : List (List ℕ)) → ended (ls ++ ms) ≡ ended ls ++ ended ms
ended-append [] ms = refl
ended-append (l ∷ ls) ms = ap (λ t. l ++ (10 ∷ t)) (ended-append ls ms) ∙ sym (append_assoc l (10 ∷ ended ls) (ended ms))

ended_all : (xs : List Answer) → flat_map printed xs ≡ ended (flat_map answer_lines xs)
ended_all [] = refl
ended_all (a ∷ xs) = ap (λ t. printed a ++ t) (ended_all xs) ∙ sym (ended-append (answer_lines a) (flat_map answer_lines xs))

lines_again : (xs : List Answer) → All AnswerFits xs → lines_in (flat_map printed xs) ≡ flat_map answer_lines xs
lines_again xs f =
    let ls = flat_map answer_lines xs in
    ap lines_in (ended_all xs ∙ sym (append-nil (ended ls))) ∙ lines_cut ls 0 (all_in_lines xs f)

abbrev grains_read : Option ℤ → Grains
grains_read None = record { 0 = pos 0 }
grains_read (Some z) = record { 0 = z }

-- what stands before the first space
abbrev before_space : List ℕ → List ℕ
before_space [] = []
before_space (b ∷ bs) = cond (eqb b 32) [] (b ∷ before_space bs)

abbrev shown_read : List ℕ → Shown
shown_read figures = record { number = digits_value 10 (before_space figures); place = digits_value 10 (after_space figures) }

-- by the first two letters of a line, what follows its first space, and all lines from that line on
abbrev read_by : ℕ → ℕ → List ℕ → List (List ℕ) → Answer
read_by c d figures ls =
    cond (eqb c 67) (cond (eqb d 65) answer.Case answer.Changed) (cond (eqb c 72) (answer.Held (grains_read (read_figure figures)))
    (cond (eqb c 80) (answer.Passed (grains_read (read_figure figures))) (cond (eqb c 84) (answer.Trial (grains_read (read_figure figures)))
    (cond (eqb c 82) (answer.Refused (shown_read figures)) (answer.Sheet (sheet_from ls))))))

-- the answer that the lines begin with
abbrev first_answer : List (List ℕ) → Answer
first_answer [] = answer.Case
first_answer (l ∷ ls) = read_by (get_or l 0 0) (get_or l 1 0) (after_space l) (l ∷ ls)

no_space : (d : ℕ) (ds : List ℕ) → AllDigits 10 (d ∷ ds) → eqb d 32 ≡ false
no_space d ds p = ne_eqb d 32 (omega (arith, digit_from_value d p.0))

before_digits : (ds rest : List ℕ) → AllDigits 10 ds → before_space (ds ++ (32 ∷ rest)) ≡ ds
before_digits [] rest p = refl
before_digits (d ∷ ds) rest p =
    ap (λ t. cond t [] (d ∷ before_space (ds ++ (32 ∷ rest)))) (no_space d ds p) ∙ ap (λ es. d ∷ es) (before_digits ds rest p.1)

after_digits : (ds rest : List ℕ) → AllDigits 10 ds → after_space (ds ++ (32 ∷ rest)) ≡ rest
after_digits [] rest p = refl
after_digits (d ∷ ds) rest p =
    ap (λ t. cond t (ds ++ (32 ∷ rest)) (after_space (ds ++ (32 ∷ rest)))) (no_space d ds p) ∙ after_digits ds rest p.1

grains_again : (g : Grains) → GrainsFit g → grains_read (read_figure (shown (Some g.0))) ≡ g
grains_again g f = ap grains_read (read_shown (Some g.0) (grains_short g f))

shown_again : (s : Shown) → ShownFits s → shown_read (decimal s.number ++ (32 ∷ decimal s.place)) ≡ s
shown_again s f =
    let n = decimal_is_IsNumeral s.number (omega arith) in
    let p = decimal_is_IsNumeral s.place (omega arith) in
    λ i. record {
      number = (ap (digits_value 10) (before_digits (decimal s.number) (decimal s.place) n.0.1) ∙ n.1) i;
      place = (ap (digits_value 10) (after_digits (decimal s.number) (decimal s.place) n.0.1) ∙ p.1) i;
    }

first_again : (a : Answer) (rest : List (List ℕ)) → AnswerFits a → first_answer (answer_lines a ++ rest) ≡ a
first_again answer.Case rest f = refl
first_again (answer.Held g) rest f = ap answer.Held (grains_again g f)
first_again (answer.Passed g) rest f = ap answer.Passed (grains_again g f)
first_again answer.Changed rest f = refl
first_again (answer.Trial g) rest f = ap answer.Trial (grains_again g f)
first_again (answer.Refused s) rest f = ap answer.Refused (shown_again s f)
first_again (answer.Sheet s) rest f = ap answer.Sheet (sheet_from_lines s rest (shorts s f))

no_lines : (a : Answer) (rest : List (List ℕ)) → answer_lines a ++ rest ≡ [] → ⊥
no_lines answer.Case rest e = cc
no_lines (answer.Held g) rest e = cc
no_lines (answer.Passed g) rest e = cc
no_lines answer.Changed rest e = cc
no_lines (answer.Trial g) rest e = cc
no_lines (answer.Refused s) rest e = cc
no_lines (answer.Sheet s) rest e = cc

same_lines : (xs ys : List Answer) → All AnswerFits xs → All AnswerFits ys → flat_map answer_lines xs ≡ flat_map answer_lines ys → xs ≡ ys
same_lines [] [] f g e = refl
same_lines [] (b ∷ ys) f g e = absurd (no_lines b (flat_map answer_lines ys) (sym e))
same_lines (a ∷ xs) [] f g e = absurd (no_lines a (flat_map answer_lines xs) e)
same_lines (a ∷ xs) (b ∷ ys) f g e =
    let rest_x = flat_map answer_lines xs in
    let rest_y = flat_map answer_lines ys in
    let first : a ≡ b = sym (first_again a rest_x (All-head AnswerFits a xs f)) ∙ ap first_answer e ∙ first_again b rest_y (All-head AnswerFits b ys g) in
    let rest : rest_x ≡ rest_y = append_cancel_left (answer_lines a) rest_x rest_y (e ∙ ap (λ c. answer_lines c ++ rest_y) (sym first)) in
    ap (λ c. c ∷ xs) first ∙ ap (λ cs. b ∷ cs) (same_lines xs ys (All-tail AnswerFits a xs f) (All-tail AnswerFits b ys g) rest)

several : (xs ys : List Answer) → All AnswerFits xs → All AnswerFits ys → flat_map printed xs ≡ flat_map printed ys → xs ≡ ys
several xs ys f g e = same_lines xs ys f g (sym (lines_again xs f) ∙ ap lines_in e ∙ lines_again ys g)

abbrev first_of : Answer → List Answer → Answer
first_of d [] = d
first_of d (a ∷ xs) = a

one : (a b : Answer) → AnswerFits a → AnswerFits b → printed a ≡ printed b → a ≡ b
one a b f g e =
    let only = λ (c : Answer) (h : AnswerFits c). All-cons AnswerFits c [] h (All-nil AnswerFits) in
    ap (first_of a) (several (a ∷ []) (b ∷ []) (only a f) (only b g) (ap (λ t. t ++ []) e))

pub printed-tells : PrintedTells
printed-tells = record { one = one; several = several }
