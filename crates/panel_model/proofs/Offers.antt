-- What becomes of an offer, in the words of a panel: a dispatch that is read and judged, and a price list that is read and whose floor is taken.
use Rattle.std.proofs.Common.{◌≡◌, ℕ, ◌+◌, min, length, List, take, drop, Some, ap, ◌∙◌, subst}
use Rattle.measure.specs.declared.Grains.{Grains}
use Rattle.machine.specs.Meaning.{Meaning}
use Rattle.network.specs.declared.dispatch.Dispatch as view
use Rattle.network.specs.declared.prices.Prices as view_prices
use Rattle.network.specs.View.{dispatch_of}
use Rattle.network.specs.Model.{WholeDispatch}
use Rattle.network.specs.Floor as list
use Rattle.network.specs.Judged.{Taken}
use Rattle.pricing.specs.Kept.{prices_of}
use Rattle.word.specs.Column.{value_of, Gives}
use Rattle.word.specs.declared.column.WordColumn.{WordColumn}
use Rattle.paper.specs.Dispatch.{Dispatch, LawfulDispatch, ReadsDispatch}
use Rattle.paper.specs.Prices.{ReadsPrices}
use Rattle.standing.specs.Model.{Meets}
use Rattle.panel_model.specs.Network.{SizedCase, by_rows, list_by_rows, network}
use Rattle.panel_model.specs.Says.{SaysDispatch, SaysPrices}
use Rattle.panel_model.proofs.Columns.{same_dispatch, same_prices, take_least, drop_least}

module _ {M N : Type 0} (𝓜 : Meaning M) (𝓝 : Meaning N) (s : SizedCase M N) where
  -- ---- what is read
  -- a dispatch of the case's sizes, which its words say and its columns give; it has no more powers of the first group than powers
  pub dispatch_read : (n k m : ℕ) (w : List ℕ) (d : view.Dispatch WordColumn) → n ≡ min (length s.case.first.machines) s.powers → n + k ≡ s.powers → m ≡ s.angles → (r : ReadsDispatch n k m w d) → SaysDispatch s.powers s.angles w (Some r.dispatch) × ◌≡◌ {A = WholeDispatch} (dispatch_of value_of d) (by_rows s.case r.dispatch)
  dispatch_read n k m w d e f g r =
      let a = length s.case.first.machines in
      let p = r.dispatch in
      let l : LawfulDispatch s.powers s.angles p = subst (λ (i : ℕ). LawfulDispatch s.powers i p) g (subst (λ (i : ℕ). LawfulDispatch i m p) f r.lawful) in
      let first : take n p.powers ≡ take a p.powers = ap (λ (i : ℕ). take i p.powers) e ∙ take_least a s.powers p.powers l.machines in
      let second : drop n p.powers ≡ drop a p.powers = ap (λ (i : ℕ). drop i p.powers) e ∙ drop_least a s.powers p.powers l.machines in
      ((l, r.words), same_dispatch s.case d p (subst (Gives d.first.column) first r.first) (subst (Gives d.second.column) second r.second) r.angles)

  -- a price list for the buses and branches of the case
  pub prices_read : (w : List ℕ) (q : view_prices.Prices WordColumn) → (r : ReadsPrices (length s.case.buses) (length s.case.branches) w q) → SaysPrices (length s.case.buses) (length s.case.branches) w (Some r.list) × ◌≡◌ {A = list.Prices} (prices_of value_of q) (list_by_rows r.list)
  prices_read w q r = ((r.lawful, r.words), same_prices q r.list r.gives)

  -- ---- what becomes of it
  -- a dispatch of the case's sizes that is taken meets the case
  pub dispatch_meets : (p : Dispatch) (g : Grains) → LawfulDispatch s.powers s.angles p → Taken 𝓜 𝓝 s.case (by_rows s.case p) g → Meets (network 𝓜 𝓝) s p
  dispatch_meets p g l t = record { fits = l; in_fractions = t.meets }

  -- and its cost is the one that a panel counts
  pub dispatch_costs : (p : Dispatch) (g : Grains) → Taken 𝓜 𝓝 s.case (by_rows s.case p) g → g.0 ≡ (network 𝓜 𝓝).counted s p
  dispatch_costs p g t = t.cost
