-- The places of a price list say what its words say.
use Rattle.std.proofs.Common.{◌≡◌, ℕ, zero, suc, ◌+◌, ◌*◌, ◌<◌, List, [], ◌∷◌, ◌++◌, map, length, get_or, replicate, pos, negsuc, sym, refl, ap, ◌∙◌, subst, inl, inr, arith}
use Rattle.std.specs.List.{flat_map, AllByRecursion}
use Rattle.std.proofs.lemmas.List.{length-append, length-map, length-replicate, append_assoc, get_or-append-add, get_or_past}
use Rattle.std.proofs.ByRecursion.{All-weaker}
use Rattle.std.proofs.lemmas.Bool.{cases_lt}
use Rattle.std.proofs.lemmas.Int.{ints}
use Rattle.word.specs.Word.{amount_of, word_of, amount_word}
use Rattle.word.specs.Laws.{Short}
use Rattle.word.specs.Fault.{RefusedWord}
use Rattle.word.specs.declared.fault.WordFault.{WordFault}
use Rattle.word.specs.Slot.{Matches}
use Rattle.word.specs.Run.{in_turn}
use Rattle.word.specs.Column.{column_value}
use Rattle.word.specs.declared.kind.Kind.TheVariants as kind
use Rattle.word.specs.declared.slot.Slot.{Slot}
use Rattle.word.specs.declared.slot.Slot.TheVariants.{Head, Branch, End}
use Rattle.word.proofs.Words.{amount_same, amount_back}
use Rattle.word.proofs.Columns.{value_in, value_out}
use Rattle.word.proofs.Fillings.{head_word, head_fits, end_fits, last_word, run_words, words_run, column_run, amount_fits}
use Rattle.word.proofs.Slots.{matches_join, matches_parts}
use Rattle.names.specs.declared.branch.BranchName.{BranchName}
use Rattle.paper.specs.Range.{Priced, price_slot, angle_price_slot}
use Rattle.paper.specs.Name.{branch_word, Named}
use Rattle.word.specs.Slot.{branch_of}
use Rattle.paper.specs.Prices.{BranchPrices, Prices, pair_words, list_words, prices_words, PairPriced, LawfulPrices, PricesForm, GivesPrices, ReadsPrices, ColumnsFrom}
use Rattle.paper.specs.Trial.{trial_words, TrialForm, ReadsTrial}
use Rattle.network.specs.declared.prices.Prices as view
use Rattle.word.specs.declared.column.WordColumn.{WordColumn}
use Rattle.paper.proofs.Layouts.{Layout, refused, all_same, price-short, angle-price_short}
use Rattle.paper.proofs.Names.{branch_word-branch_of, branch_named, branch_fits}

-- words in turn are those of pairs
record PairsOf (m : ℕ) (u : List ℕ) : Type 0 where
  pairs : List BranchPrices
  words : u ≡ flat_map pair_words pairs
  counted : length pairs ≡ m
  priced : AllByRecursion PairPriced pairs

double : (m : ℕ) → 2 * suc m ≡ suc (suc (2 * m))
double m = omega arith

pairs_step : (m : ℕ) → ((v : List ℕ) → Matches (in_turn (2 * m) price_slot angle_price_slot) v → PairsOf m v) → (u : List ℕ) → Matches (in_turn (suc (suc (2 * m))) price_slot angle_price_slot) u → PairsOf (suc m) u
pairs_step m rest [] t = absurd t
pairs_step m rest (x ∷ []) t = absurd t.1
pairs_step m rest (x ∷ y ∷ v) t =
    let r = rest v t.1.1 in
    let ex : x ≡ amount_word (amount_of x) = sym (amount_same x t.0.0) in
    let ey : y ≡ amount_word (amount_of y) = sym (amount_same y t.1.0.0) in
    record {
      pairs = record { congestion = amount_of x; angle = amount_of y } ∷ r.pairs;
      words = λ i. ex i ∷ ey i ∷ r.words i;
      counted = ap suc r.counted;
      priced = ((t.0.1, t.1.0.1), r.priced);
    }

pairs_words : (m : ℕ) (u : List ℕ) → Matches (in_turn (2 * m) price_slot angle_price_slot) u → PairsOf m u
pairs_words zero [] s = record { pairs = []; words = refl; counted = refl; priced = tt }
pairs_words zero (x ∷ u) s = absurd s
pairs_words (suc m) u s = pairs_step m (pairs_words m) u (subst (λ (k : ℕ). Matches (in_turn k price_slot angle_price_slot) u) (double m) s)

words_pairs : (bs : List BranchPrices) → AllByRecursion PairPriced bs → Matches (in_turn (2 * length bs) price_slot angle_price_slot) (flat_map pair_words bs)
words_pairs [] a = tt
words_pairs (b ∷ bs) a =
    subst (λ (k : ℕ). Matches (in_turn k price_slot angle_price_slot) (flat_map pair_words (b ∷ bs))) (sym (double (length bs))) (
      amount_fits (negsuc 999999) (pos 1000000) b.congestion (price-short b.congestion a.0.0) a.0.0,
      (amount_fits (negsuc 99999999) (pos 100000000) b.angle (angle-price_short b.angle a.0.1) a.0.1, words_pairs bs a.1),
    )

-- the prices and the end
abbrev pub list_slots : ℕ → ℕ → List Slot
list_slots n m = in_turn n price_slot price_slot ++ (in_turn (2 * m) price_slot angle_price_slot ++ (End ∷ []))

list_to : (n m : ℕ) (w : List ℕ) → Matches (list_slots n m) w → (l : Prices) × LawfulPrices n m l × (w ≡ list_words l)
list_to n m w s =
    let p = matches_parts (in_turn n price_slot price_slot) (in_turn (2 * m) price_slot angle_price_slot ++ (End ∷ [])) w s in
    let q = matches_parts (in_turn (2 * m) price_slot angle_price_slot) (End ∷ []) p.right p.rights in
    let x = run_words (negsuc 999999) (pos 1000000) n p.left p.lefts in
    let y = pairs_words m q.left q.lefts in
    let l = last_word q.right q.rights in (
      record { buses = map amount_of p.left; branches = y.pairs },
      record { buses = x.1; branches = y.counted; prices = x.2; pairs = y.priced },
      p.whole ∙ (λ j. x.0 j ++ (q.whole ∙ (λ k. y.words k ++ l k)) j),
    )

list_from : (n m : ℕ) (l : Prices) → LawfulPrices n m l → Matches (list_slots n m) (list_words l)
list_from n m l h =
    let x = words_run (negsuc 999999) (pos 1000000) price-short l.buses h.prices in
    let y = words_pairs l.branches h.pairs in
    let x' = subst (λ (k : ℕ). Matches (in_turn k price_slot price_slot) (map amount_word l.buses)) h.buses x in
    let y' = subst (λ (k : ℕ). Matches (in_turn (2 * k) price_slot angle_price_slot) (flat_map pair_words l.branches)) h.branches y in
    matches_join (in_turn n price_slot price_slot) (in_turn (2 * m) price_slot angle_price_slot ++ (End ∷ [])) (map amount_word l.buses) (flat_map pair_words l.branches ++ (word_of kind.End 0 ∷ [])) x'
    (matches_join (in_turn (2 * m) price_slot angle_price_slot) (End ∷ []) (flat_map pair_words l.branches) (word_of kind.End 0 ∷ []) y' (end_fits, tt))

-- the numbers at the places of the pairs
get_or-first : (bs : List BranchPrices) (rest : List ℕ) (i j : ℕ) → j ≡ 2 * i → i < length bs → AllByRecursion PairPriced bs → amount_of (get_or (flat_map pair_words bs ++ rest) j 0) ≡ get_or (map (λ b. b.congestion) bs) i (pos 0)
get_or-first [] rest i j e h a = absurd (omega arith)
get_or-first (b ∷ bs) rest zero zero e h a = amount_back b.congestion (price-short b.congestion a.0.0)
get_or-first (b ∷ bs) rest zero (suc j) e h a = absurd (omega arith)
get_or-first (b ∷ bs) rest (suc i) zero e h a = absurd (omega arith)
get_or-first (b ∷ bs) rest (suc i) (suc zero) e h a = absurd (omega arith)
get_or-first (b ∷ bs) rest (suc i) (suc (suc j)) e h a = get_or-first bs rest i j (omega arith) (omega arith) a.1

get_or-second : (bs : List BranchPrices) (rest : List ℕ) (i j : ℕ) → j ≡ 2 * i + 1 → i < length bs → AllByRecursion PairPriced bs → amount_of (get_or (flat_map pair_words bs ++ rest) j 0) ≡ get_or (map (λ b. b.angle) bs) i (pos 0)
get_or-second [] rest i j e h a = absurd (omega arith)
get_or-second (b ∷ bs) rest zero zero e h a = absurd (omega arith)
get_or-second (b ∷ bs) rest zero (suc zero) e h a = amount_back b.angle (angle-price_short b.angle a.0.1)
get_or-second (b ∷ bs) rest zero (suc (suc j)) e h a = absurd (omega arith)
get_or-second (b ∷ bs) rest (suc i) zero e h a = absurd (omega arith)
get_or-second (b ∷ bs) rest (suc i) (suc zero) e h a = absurd (omega arith)
get_or-second (b ∷ bs) rest (suc i) (suc (suc j)) e h a = get_or-second bs rest i j (omega arith) (omega arith) a.1

module _ (w pre : List ℕ) (bs : List BranchPrices) (rest : List ℕ) (m i : ℕ) (e : w ≡ pre ++ (flat_map pair_words bs ++ rest)) (n : length bs ≡ m) (a : AllByRecursion PairPriced bs) where
  read_at : (j k : ℕ) → k ≡ length pre + j → amount_of (get_or w k 0) ≡ amount_of (get_or (flat_map pair_words bs ++ rest) j 0)
  read_at j k h =
      ap (λ (x : ℕ). amount_of (get_or w x 0)) h ∙ ap (λ (v : List ℕ). amount_of (get_or v (length pre + j) 0)) e
      ∙ ap amount_of (get_or-append-add pre (flat_map pair_words bs ++ rest) j 0)

  column_first : (start : ℕ) → length pre ≡ start → column_value w start m 2 i ≡ get_or (map (λ b. b.congestion) bs) i (pos 0)
  column_first start l =
      elim (cases_lt i m) [
        | inl h ↦ value_in w start m 2 i h ∙ read_at (2 * i) (start + 2 * i) (omega arith) ∙ get_or-first bs rest i (2 * i) refl (omega arith) a
        | inr h ↦ value_out w start m 2 i h ∙ sym (get_or_past (map (λ b. b.congestion) bs) i (pos 0) (omega (arith, length-map bs (λ b. b.congestion))))
      ]

  column_second : (start : ℕ) → length pre + 1 ≡ start → column_value w start m 2 i ≡ get_or (map (λ b. b.angle) bs) i (pos 0)
  column_second start l =
      elim (cases_lt i m) [
        | inl h ↦ value_in w start m 2 i h ∙ read_at (2 * i + 1) (start + 2 * i) (omega arith) ∙ get_or-second bs rest i (2 * i + 1) refl (omega arith) a
        | inr h ↦ value_out w start m 2 i h ∙ sym (get_or_past (map (λ b. b.angle) bs) i (pos 0) (omega (arith, length-map bs (λ b. b.angle))))
      ]

list_gives : (n m start : ℕ) (w pre : List ℕ) (l : Prices) (p : view.Prices WordColumn) → LawfulPrices n m l → w ≡ pre ++ list_words l → length pre ≡ start → ColumnsFrom start n m w p → GivesPrices l p
list_gives n m start w pre l p h e k c =
    let A : List ℕ = map amount_word l.buses in
    let B : List ℕ = flat_map pair_words l.branches in
    let E : List ℕ = word_of kind.End 0 ∷ [] in
    let la : length A ≡ n = length-map l.buses amount_word ∙ h.buses in
    let lp : length (pre ++ A) ≡ start + n = length-append pre A ∙ (λ i. k i + la i) in
    let e' : w ≡ (pre ++ A) ++ (B ++ E) = e ∙ sym (append_assoc pre A (B ++ E)) in
    record {
      prices = λ i. c.prices i ∙ column_run w pre l.buses (B ++ E) start n i e k h.buses (All-weaker Priced Short price-short l.buses h.prices);
      congestion = λ i. c.congestion i ∙ column_first w (pre ++ A) l.branches E m i e' h.branches h.pairs (start + n) lp;
      angle = λ i. c.angle i ∙ column_second w (pre ++ A) l.branches E m i e' h.branches h.pairs (start + n + 1) (ap (λ x. x + 1) lp);
    }

-- price lists
abbrev pub prices_slots : ℕ → ℕ → List Slot
prices_slots n m = Head 3 ∷ list_slots n m

prices-to : (n m : ℕ) (w : List ℕ) → Matches (prices_slots n m) w → PricesForm n m w
prices-to n m [] s = absurd s
prices-to n m (h ∷ w) s =
    let eh = head_word 3 h s.0 in
    let t = list_to n m w s.1 in
    (t.0, t.1, λ i. eh i ∷ t.2 i)

prices-from : (n m : ℕ) (w : List ℕ) → PricesForm n m w → Matches (prices_slots n m) w
prices-from n m w (l, h, e) =
    subst (λ (v : List ℕ). Matches (prices_slots n m) v) (sym e) (head_fits 3 (omega arith), list_from n m l h)

-- a list with no price but 0
free : ℕ → ℕ → Prices
free n m = record { buses = replicate n (pos 0); branches = replicate m (record { congestion = pos 0; angle = pos 0 }) }

free-lawful : (n m : ℕ) → (l : Prices) × LawfulPrices n m l
unfolding free
free-lawful n m = (
  free n m,
  record {
    buses = length-replicate n (pos 0);
    branches = length-replicate m (record { congestion = pos 0; angle = pos 0 });
    prices = all_same Priced (pos 0) (omega (arith, ints), omega (arith, ints)) n;
    pairs = all_same PairPriced (record { congestion = pos 0; angle = pos 0 }) ((omega (arith, ints), omega (arith, ints)), (omega (arith, ints), omega (arith, ints))) m;
  },
)

prices-some : (n m : ℕ) → (w : List ℕ) × PricesForm n m w
prices-some n m = let l = free-lawful n m in (prices_words l.0, (l.0, l.1, refl))

pub reads_prices : (n m : ℕ) (w : List ℕ) (p : view.Prices WordColumn) → Matches (prices_slots n m) w → ColumnsFrom 1 n m w p → ReadsPrices n m w p
reads_prices n m w p s c =
    let l = prices-to n m w s in
    record { list = l.0; lawful = l.1; words = l.2; gives = list_gives n m 1 w (word_of kind.Head 3 ∷ []) l.0 p l.1 l.2 refl c }

pub prices_layout : (n m : ℕ) → Layout (PricesForm n m) (prices_slots n m)
prices_layout n m = record { to = prices-to n m; from = prices-from n m; some = prices-some n m }

-- trials
abbrev pub trial_slots : ℕ → ℕ → List Slot
trial_slots n m = Head 6 ∷ Branch ∷ list_slots n m

trial_read : (n m : ℕ) (w : List ℕ) → Matches (trial_slots n m) w → (l : Prices) × Named (branch_of (get_or w 1 0)) × LawfulPrices n m l × (w ≡ trial_words (branch_of (get_or w 1 0)) l)
trial_read n m [] s = absurd s
trial_read n m (h ∷ []) s = absurd s.1
trial_read n m (h ∷ x ∷ w) s =
    let eh = head_word 6 h s.0 in
    let ex = branch_word-branch_of x s.1.0 in
    let t = list_to n m w s.1.1 in
    (t.0, branch_named x s.1.0, t.1, λ i. eh i ∷ ex i ∷ t.2 i)

trial_to : (n m : ℕ) (w : List ℕ) → Matches (trial_slots n m) w → TrialForm n m w
trial_to n m w s = let t = trial_read n m w s in (branch_of (get_or w 1 0), t.0, t.1, t.2, t.3)

trial_from : (n m : ℕ) (w : List ℕ) → TrialForm n m w → Matches (trial_slots n m) w
trial_from n m w (b, l, k, h, e) =
    subst (λ (v : List ℕ). Matches (trial_slots n m) v) (sym e) (head_fits 6 (omega arith), (branch_fits b k, list_from n m l h))

trial_some : (n m : ℕ) → (w : List ℕ) × TrialForm n m w
trial_some n m =
    let l = free-lawful n m in
    let b : BranchName = record { circuit = 1; from = 1; to = 1 } in
    (trial_words b l.0, (b, l.0, record { circuits = (omega arith, omega arith); froms = (omega arith, omega arith); tos = (omega arith, omega arith) }, l.1, refl))

pub trial_layout : (n m : ℕ) → Layout (TrialForm n m) (trial_slots n m)
trial_layout n m = record { to = trial_to n m; from = trial_from n m; some = trial_some n m }

pub reads_trial : (n m : ℕ) (w : List ℕ) (p : view.Prices WordColumn) → Matches (trial_slots n m) w → ColumnsFrom 2 n m w p → ReadsTrial n m w (record { branch = branch_of (get_or w 1 0); list = p })
reads_trial n m w p s c =
    let t = trial_read n m w s in
    record {
      list = t.0;
      named = t.1;
      lawful = t.2;
      words = t.3;
      gives = list_gives n m 2 w (word_of kind.Head 6 ∷ branch_word (branch_of (get_or w 1 0)) ∷ []) t.0 p t.2 t.3 refl c;
    }

pub prices_refused : (n m : ℕ) (w : List ℕ) (f : WordFault) → RefusedWord (Matches (prices_slots n m)) w f → RefusedWord (PricesForm n m) w f
prices_refused n m w f r = refused _ _ (prices_layout n m) w f r

pub trial_refused : (n m : ℕ) (w : List ℕ) (f : WordFault) → RefusedWord (Matches (trial_slots n m)) w f → RefusedWord (TrialForm n m) w f
trial_refused n m w f r = refused _ _ (trial_layout n m) w f r
