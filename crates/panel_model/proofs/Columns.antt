-- The numbers that columns of words give are those of the paper, by rows.
use Rattle.std.proofs.Common.{◌≡◌, ℕ, ◌+◌, ◌<◌, ◌≤◌, min, List, [], ◌++◌, length, get_or, take, drop, ℤ, pos, sym, ap, ◌∙◌, drop_of_length-le, arith}
use native.Mathlib.Decide.{dec_lt}
use Rattle.std.proofs.lemmas.List.{take_all, length-take, length-drop, take-append-drop, ext_get_or}
use Rattle.word.specs.Column.{value_of, Gives}
use Rattle.word.specs.declared.column.WordColumn.{WordColumn}
use Rattle.network.specs.declared.dispatch.Dispatch as view
use Rattle.network.specs.declared.prices.Prices as view_prices
use Rattle.network.specs.Model.{Case, WholeDispatch}
use Rattle.network.specs.View.{dispatch_of}
use Rattle.network.specs.Floor as list
use Rattle.pricing.specs.Kept.{prices_of}
use Rattle.paper.specs.Dispatch.{Dispatch}
use Rattle.paper.specs.Prices.{Prices, GivesPrices}
use Rattle.panel_model.specs.Network.{by_rows, list_by_rows}

-- a dispatch
pub same_dispatch : {M N : Type 0} (c : Case M N) (d : view.Dispatch WordColumn) (p : Dispatch) → Gives d.first.column (take (length c.first.machines) p.powers) → Gives d.second.column (drop (length c.first.machines) p.powers) → Gives d.angles.column p.angles → ◌≡◌ {A = WholeDispatch} (dispatch_of value_of d) (by_rows c p)
same_dispatch c d p first second angles = λ i. record { first = λ j. first j i; second = λ j. second j i; angles = λ j. angles j i }

-- a price list
pub same_prices : (q : view_prices.Prices WordColumn) (l : Prices) → GivesPrices l q → ◌≡◌ {A = list.Prices} (prices_of value_of q) (list_by_rows l)
same_prices q l g = λ i. record { bus = λ j. g.prices j i; congestion = λ j. g.congestion j i; angle = λ j. g.angle j i }

-- ---- the first and the later rows of a list whose length is known
pub take_short : {X : Type 0} (a n : ℕ) (xs : List X) → length xs ≡ n → n ≤ a → take a xs ≡ xs
take_short a n xs e h = take_all a xs (omega arith)

pub drop_short : {X : Type 0} (a n : ℕ) (xs : List X) → length xs ≡ n → n ≤ a → drop a xs ≡ []
drop_short a n xs e h = drop_of_length-le xs (omega arith)

-- the least of the two: as many rows as there are
pub take_least : {X : Type 0} (a n : ℕ) (xs : List X) → length xs ≡ n → take (min a n) xs ≡ take a xs
take_least a n xs e =
    elim (dec_lt a n) [
      | yes h ↦ let k : min a n ≡ a = omega arith in ap (λ (m : ℕ). take m xs) k
      | no h ↦ take_short (min a n) n xs e (omega arith) ∙ sym (take_short a n xs e (omega arith))
    ]

pub drop_least : {X : Type 0} (a n : ℕ) (xs : List X) → length xs ≡ n → drop (min a n) xs ≡ drop a xs
drop_least a n xs e =
    elim (dec_lt a n) [
      | yes h ↦ let k : min a n ≡ a = omega arith in ap (λ (m : ℕ). drop m xs) k
      | no h ↦ drop_short (min a n) n xs e (omega arith) ∙ sym (drop_short a n xs e (omega arith))
    ]

-- ---- the numbers of a column copied row by row
pub filled : (c : WordColumn) (zs xs : List ℤ) → Gives c zs → length xs ≡ length zs → ((i : ℕ) → i < length xs → get_or xs i (pos 0) ≡ value_of c i) → xs ≡ zs
filled c zs xs g e copied = ext_get_or (pos 0) xs zs e (λ i l. copied i l ∙ g i)

-- those of two columns, one after the other, where the first gives the first n numbers
pub both_filled : (n : ℕ) (c d : WordColumn) (zs xs ys : List ℤ) → Gives c (take n zs) → Gives d (drop n zs) → length xs ≡ n → n + length ys ≡ length zs → ((i : ℕ) → i < length xs → get_or xs i (pos 0) ≡ value_of c i) → ((i : ℕ) → i < length ys → get_or ys i (pos 0) ≡ value_of d i) → xs ++ ys ≡ zs
both_filled n c d zs xs ys g h e f first second =
    let t = length-take n zs in
    let u = length-drop n zs in
    let p : xs ≡ take n zs = filled c (take n zs) xs g (omega arith) first in
    let q : ys ≡ drop n zs = filled d (drop n zs) ys h (omega arith) second in
    (λ i. p i ++ q i) ∙ take-append-drop n zs
