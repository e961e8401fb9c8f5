-- The paper of a trial.
use Rattle.std.specs.Prelude.{◌≡◌, ℕ, List, ◌∷◌}
use Rattle.word.specs.Word.{word_of}
use Rattle.word.specs.Form.{Form}
use Rattle.word.specs.declared.kind.Kind.TheVariants as kind
use Rattle.names.specs.declared.branch.BranchName.{BranchName}
use Rattle.paper.specs.Name.{branch_word, Named}
use Rattle.paper.specs.Prices.{Prices, list_words, LawfulPrices, GivesPrices}
use Rattle.paper.specs.declared.trial.TrialPaper.{TrialPaper}

-- head, branch name, then as a price list
abbrev pub trial_words : BranchName → Prices → List ℕ
trial_words b l = word_of kind.Head 6 ∷ branch_word b ∷ list_words l

abbrev pub TrialForm : ℕ → ℕ → Form
TrialForm n m w = (b : BranchName) × (l : Prices) × Named b × LawfulPrices n m l × (w ≡ trial_words b l)

-- the words are those of a trial of the paper's branch with a lawful list, whose numbers its columns give
pub record ReadsTrial (n m : ℕ) (w : List ℕ) (p : TrialPaper) : Type 0 where
  pub list : Prices
  pub named : Named p.branch
  pub lawful : LawfulPrices n m list
  pub words : w ≡ trial_words p.branch list
  pub gives : GivesPrices list p.list
