-- What is found of a paper by the case as it stands, before anything is counted or shown.
use Rattle.std.specs.Prelude.{ℕ, List, length, take, drop, Some}
use Rattle.measure.specs.declared.Grains.{Grains}
use Rattle.machine.specs.Meaning.{Meaning}
use Rattle.network.specs.declared.dispatch.Dispatch as view
use Rattle.network.specs.declared.refusal.Refusal.{Refusal}
use Rattle.network.specs.Judged.{Taken, Declined}
use Rattle.network.specs.Floored as floored
use Rattle.network.specs.Floored.{FloorGiven}
use Rattle.word.specs.Column.{Gives}
use Rattle.word.specs.Fault.{RefusedWord}
use Rattle.word.specs.declared.column.WordColumn.{WordColumn}
use Rattle.paper.specs.Dispatch.{Dispatch, DispatchForm}
use Rattle.paper.specs.Prices.{Prices, PricesForm}
use Rattle.panel_model.specs.Network.{by_rows, list_by_rows}
use Rattle.panel_model.specs.Says.{SaysDispatch, SaysPrices}
use Rattle.panel.specs.View.{case_on}
use Rattle.panel.specs.declared.judged.Judged.{Judged}
use Rattle.panel.specs.declared.panel.Panel.{Panel}
use Rattle.panel.specs.declared.refusal.PaperRefusal.{PaperRefusal}
use Rattle.panel.specs.declared.refusal.PaperRefusal.TheVariants.{Words, Case}

-- the columns give the dispatch, of which the first n powers are the first group's
pub record GivesDispatch (n : ℕ) (p : Dispatch) (d : view.Dispatch WordColumn) : Type 0 where
  pub first : Gives d.first.column (take n p.powers)
  pub second : Gives d.second.column (drop n p.powers)
  pub angles : Gives d.angles.column p.angles

module _ {M N S : Type 0} (𝓜 : Meaning M) (𝓝 : Meaning N) (p : Panel M N S) (w : List ℕ) where
  -- the words say this dispatch
  abbrev pub SaidDispatch : Dispatch → Type 0
  SaidDispatch d = SaysDispatch (length p.powers.now) (length p.angles.now) w (Some d)

  -- the words say a dispatch that meets the case, and its columns and its cost are found
  pub record JudgedDispatch (j : Judged) : Type 0 where
    pub dispatch : Dispatch
    pub said : SaidDispatch dispatch
    pub gives : GivesDispatch (length (case_on p).first.machines) dispatch j.dispatch
    pub taken : Taken 𝓜 𝓝 (case_on p) (by_rows (case_on p) dispatch) j.cost

  -- they say one that breaks a limit of the case
  pub record MissingDispatch (e : Refusal) : Type 0 where
    pub dispatch : Dispatch
    pub said : SaidDispatch dispatch
    pub declined : Declined 𝓜 𝓝 (case_on p) (by_rows (case_on p) dispatch) e

  abbrev pub DispatchRefused : PaperRefusal → Type 0
  DispatchRefused (Words f) = RefusedWord (DispatchForm (length p.powers.now) (length p.angles.now)) w f
  DispatchRefused (Case e) = MissingDispatch e

  -- the words say this list
  abbrev pub SaidPrices : Prices → Type 0
  SaidPrices l = SaysPrices (length (case_on p).buses) (length (case_on p).branches) w (Some l)

  -- the words say a lawful list, and its floor is found
  pub record JudgedPrices (g : Grains) : Type 0 where
    pub list : Prices
    pub said : SaidPrices list
    pub given : FloorGiven 𝓜 𝓝 (case_on p) (list_by_rows list) g.0

  -- they say one that is not lawful
  pub record UnlawfulPrices (e : Refusal) : Type 0 where
    pub list : Prices
    pub said : SaidPrices list
    pub refused : floored.Refused (case_on p) (list_by_rows list) e

  abbrev pub PricesRefused : PaperRefusal → Type 0
  PricesRefused (Words f) = RefusedWord (PricesForm (length (case_on p).buses) (length (case_on p).branches)) w f
  PricesRefused (Case e) = UnlawfulPrices e
