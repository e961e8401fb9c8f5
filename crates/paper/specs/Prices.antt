-- The paper of a price list.
use Rattle.std.specs.Prelude.{◌≡◌, ℕ, ◌+◌, ◌*◌, List, [], ◌∷◌, ◌++◌, map, length, ℤ}
use Rattle.std.specs.List.{flat_map, AllByRecursion}
use Rattle.word.specs.Word.{word_of, amount_word}
use Rattle.word.specs.Form.{Form}
use Rattle.word.specs.Column.{column_value, value_of, Gives}
use Rattle.word.specs.declared.kind.Kind.TheVariants as kind
use Rattle.word.specs.declared.run.Run.{Run}
use Rattle.word.specs.declared.column.WordColumn.{WordColumn}
use Rattle.network.specs.declared.prices.Prices as view
use Rattle.paper.specs.Range.{Priced, AnglePriced, price_slot, angle_price_slot}

-- the two prices of a branch
pub record BranchPrices : Type 0 where
  pub congestion : ℤ
  pub angle : ℤ

-- a price for each bus, two for each branch
pub record Prices : Type 0 where
  pub buses : List ℤ
  pub branches : List BranchPrices

abbrev pub pair_words : BranchPrices → List ℕ
pair_words b = amount_word b.congestion ∷ amount_word b.angle ∷ []

-- the prices of the buses, those of each branch in turn, end
abbrev pub list_words : Prices → List ℕ
list_words l = map amount_word l.buses ++ (flat_map pair_words l.branches ++ (word_of kind.End 0 ∷ []))

abbrev pub prices_words : Prices → List ℕ
prices_words l = word_of kind.Head 3 ∷ list_words l

abbrev pub PairPriced : BranchPrices → Type 0
PairPriced b = Priced b.congestion × AnglePriced b.angle

-- a list for n buses and m branches, each price in its range
pub record LawfulPrices (n m : ℕ) (l : Prices) : Type 0 where
  pub buses : length l.buses ≡ n
  pub branches : length l.branches ≡ m
  pub prices : AllByRecursion Priced l.buses
  pub pairs : AllByRecursion PairPriced l.branches

abbrev pub PricesForm : ℕ → ℕ → Form
PricesForm n m w = (l : Prices) × LawfulPrices n m l × (w ≡ prices_words l)

-- the paper's columns give the list's numbers
pub record GivesPrices (l : Prices) (p : view.Prices WordColumn) : Type 0 where
  pub prices : Gives p.bus.column l.buses
  pub congestion : Gives p.congestion.column (map (λ b. b.congestion) l.branches)
  pub angle : Gives p.angle.column (map (λ b. b.angle) l.branches)

-- the words are those of a lawful list, and the paper's columns give its numbers
pub record ReadsPrices (n m : ℕ) (w : List ℕ) (p : view.Prices WordColumn) : Type 0 where
  pub list : Prices
  pub lawful : LawfulPrices n m list
  pub words : w ≡ prices_words list
  pub gives : GivesPrices list p

-- the places of the branches' prices
abbrev pub branch_run : ℕ → Run
branch_run m = record { count = 2 * m; slot = price_slot; other = angle_price_slot }

-- the columns of the words from a place on
pub record ColumnsFrom (start n m : ℕ) (w : List ℕ) (p : view.Prices WordColumn) : Type 0 where
  pub prices : (i : ℕ) → value_of p.bus.column i ≡ column_value w start n 1 i
  pub congestion : (i : ℕ) → value_of p.congestion.column i ≡ column_value w (start + n) m 2 i
  pub angle : (i : ℕ) → value_of p.angle.column i ≡ column_value w (start + n + 1) m 2 i
