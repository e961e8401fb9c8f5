-- What holds of all papers of fixed length.
use Rattle.std.specs.Prelude.{ℕ}
use Rattle.word.specs.Form.{Exact}
use Rattle.paper.specs.Change.{DemandForm, MarkForm}
use Rattle.paper.specs.HandOver.{HandOverForm}
use Rattle.paper.specs.Dispatch.{DispatchForm}
use Rattle.paper.specs.Prices.{PricesForm}
use Rattle.paper.specs.Trial.{TrialForm}

-- a paper of the form is not refused, and a list of words is refused for one reason at one place
pub record PapersExact : Type 0 where
  pub dispatch : (powers angles : ℕ) → Exact (DispatchForm powers angles)
  pub prices : (buses branches : ℕ) → Exact (PricesForm buses branches)
  pub demand : Exact DemandForm
  pub mark : Exact MarkForm
  pub trial : (buses branches : ℕ) → Exact (TrialForm buses branches)
  pub hand_over : Exact HandOverForm
