-- Each form of paper is read in one way.
use Rattle.std.proofs.Common.{ℕ}
use Rattle.word.specs.Form.{Exact}
use Rattle.paper.specs.Change.{DemandForm, MarkForm}
use Rattle.paper.specs.HandOver.{HandOverForm}
use Rattle.paper.specs.Dispatch.{DispatchForm}
use Rattle.paper.specs.Prices.{PricesForm}
use Rattle.paper.specs.Trial.{TrialForm}
use Rattle.paper.proofs.Layouts.{form_exact}
use Rattle.paper.proofs.Changes.{demand_layout, mark_layout}
use Rattle.paper.proofs.HandOvers.{hand_over_layout}
use Rattle.paper.proofs.Dispatches.{dispatch_layout}
use Rattle.paper.proofs.Lists.{prices_layout, trial_layout}

pub dispatch_exact : (powers angles : ℕ) → Exact (DispatchForm powers angles)
dispatch_exact n m = form_exact _ _ (dispatch_layout n m)

pub prices_exact : (buses branches : ℕ) → Exact (PricesForm buses branches)
prices_exact n m = form_exact _ _ (prices_layout n m)

pub demand_exact : Exact DemandForm
demand_exact = form_exact _ _ demand_layout

pub mark_exact : Exact MarkForm
mark_exact = form_exact _ _ mark_layout

pub trial_exact : (buses branches : ℕ) → Exact (TrialForm buses branches)
trial_exact n m = form_exact _ _ (trial_layout n m)

pub hand_over_exact : Exact HandOverForm
hand_over_exact = form_exact _ _ hand_over_layout
