-- What the words of a paper say: a value exactly if they are what the lawful value writes. A paper with a fault of form says none.
use Rattle.std.specs.Prelude.{◌≡◌, ℕ, ◌<◌, List, Some, None, Option}
use Rattle.paper.specs.Dispatch.{Dispatch, dispatch_words, LawfulDispatch, DispatchForm}
use Rattle.paper.specs.Prices.{Prices, prices_words, LawfulPrices, PricesForm}
use Rattle.paper.specs.Change.{demand_words, LawfulDemand, DemandForm, mark_words, LawfulMark, MarkForm}
use Rattle.paper.specs.HandOver.{hand_over_words, HandOverForm}
use Rattle.paper.specs.declared.change.DemandChange.{DemandChange}
use Rattle.paper.specs.declared.change.MarkChange.{MarkChange}
use Rattle.panel_model.specs.Change.{Change}
use Rattle.panel_model.specs.Change.Change.{demand, mark}

-- a dispatch of n powers and m angles
abbrev pub SaysDispatch : ℕ → ℕ → List ℕ → Option Dispatch → Type 0
SaysDispatch n m w (Some d) = LawfulDispatch n m d × (w ≡ dispatch_words d)
SaysDispatch n m w None = DispatchForm n m w → ⊥

-- a price list for n buses and m branches
abbrev pub SaysPrices : ℕ → ℕ → List ℕ → Option Prices → Type 0
SaysPrices n m w (Some l) = LawfulPrices n m l × (w ≡ prices_words l)
SaysPrices n m w None = PricesForm n m w → ⊥

-- a change of demand
pub record DemandSaid (w : List ℕ) (x : Change) : Type 0 where
  pub paper : DemandChange
  pub lawful : LawfulDemand paper
  pub words : w ≡ demand_words paper
  pub says : x ≡ demand paper.bus paper.demand lawful.1

abbrev pub SaysDemand : List ℕ → Option Change → Type 0
SaysDemand w (Some x) = DemandSaid w x
SaysDemand w None = DemandForm w → ⊥

-- a change of mark
pub record MarkSaid (w : List ℕ) (x : Change) : Type 0 where
  pub paper : MarkChange
  pub lawful : LawfulMark paper
  pub words : w ≡ mark_words paper
  pub says : x ≡ mark paper.branch paper.in_service

abbrev pub SaysMark : List ℕ → Option Change → Type 0
SaysMark w (Some x) = MarkSaid w x
SaysMark w None = MarkForm w → ⊥

-- the next attendant
abbrev pub SaysAttendant : List ℕ → Option ℕ → Type 0
SaysAttendant w (Some a) = (a < 65536) × (w ≡ hand_over_words a)
SaysAttendant w None = HandOverForm w → ⊥
