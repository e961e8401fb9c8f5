-- A paper with a fault of form says nothing.
use Rattle.std.proofs.Common.{ℕ, List}
use Rattle.word.specs.Form.{Form, Exact}
use Rattle.word.specs.Fault.{RefusedWord}
use Rattle.word.specs.declared.fault.WordFault.{WordFault}
use Rattle.paper.specs.Dispatch.{DispatchForm}
use Rattle.paper.specs.Prices.{PricesForm}
use Rattle.paper.specs.Change.{DemandForm, MarkForm}
use Rattle.paper.specs.HandOver.{HandOverForm}
use Rattle.paper.proofs.Layouts.{form_exact}
use Rattle.paper.proofs.Dispatches.{dispatch_layout}
use Rattle.paper.proofs.Lists.{prices_layout}
use Rattle.paper.proofs.Changes.{demand_layout, mark_layout}
use Rattle.paper.proofs.HandOvers.{hand_over_layout}

pub says_none : (F : Form) → Exact F → (w : List ℕ) (f : WordFault) → RefusedWord F w f → F w → ⊥
says_none F e w f r h = e.accepted w f.refusal f.place h r.0

module _ (w : List ℕ) (f : WordFault) where
  pub says_none_dispatch : (n m : ℕ) → RefusedWord (DispatchForm n m) w f → DispatchForm n m w → ⊥
  says_none_dispatch n m = says_none (DispatchForm n m) (form_exact _ _ (dispatch_layout n m)) w f

  pub says_none_prices : (n m : ℕ) → RefusedWord (PricesForm n m) w f → PricesForm n m w → ⊥
  says_none_prices n m = says_none (PricesForm n m) (form_exact _ _ (prices_layout n m)) w f

  pub says_none_demand : RefusedWord DemandForm w f → DemandForm w → ⊥
  says_none_demand = says_none DemandForm (form_exact _ _ demand_layout) w f

  pub says_none_mark : RefusedWord MarkForm w f → MarkForm w → ⊥
  says_none_mark = says_none MarkForm (form_exact _ _ mark_layout) w f

  pub says_none_hand_over : RefusedWord HandOverForm w f → HandOverForm w → ⊥
  says_none_hand_over = says_none HandOverForm (form_exact _ _ hand_over_layout) w f
