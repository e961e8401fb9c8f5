-- What is read and judged of a paper is told by the case of the panel.
use Rattle.std.proofs.Common.{◌≡◌, ℕ, ◌+◌, List, length, take, drop, min, Some, Result, ap, subst, ◌∙◌}
use Rattle.measure.specs.declared.Grains.{Grains}
use Rattle.machine.specs.Meaning.{Meaning}
use Rattle.network.specs.Model.{Case, WholeDispatch}
use Rattle.network.specs.View.{dispatch_of}
use Rattle.network.specs.declared.dispatch.Dispatch as view
use Rattle.network.specs.declared.prices.Prices as list
use Rattle.network.specs.declared.refusal.Refusal.{Refusal}
use Rattle.network.specs.Judged.{Taken, Declined}
use Rattle.network.specs.Floor as floor
use Rattle.network.specs.Floored as floored
use Rattle.network.specs.Floored.{FloorGiven}
use Rattle.pricing.specs.Kept.{prices_of}
use Rattle.word.specs.Column.{Gives, value_of}
use Rattle.word.specs.declared.column.WordColumn.{WordColumn}
use Rattle.paper.specs.Dispatch.{ReadsDispatch}
use Rattle.paper.specs.Prices.{ReadsPrices, LawfulPrices}
use Rattle.paper.specs.Trial.{ReadsTrial}
use Rattle.paper.specs.declared.trial.TrialPaper.{TrialPaper}
use Rattle.pricing.specs.Outage.{FlooredWithout}
use Rattle.panel_model.specs.Network.{by_rows}
use Rattle.panel_model.specs.Says.{SaysDispatch}
use Rattle.panel_model.proofs.Columns.{take_least, drop_least, same_prices}
use Rattle.panel_model.proofs.Offers.{dispatch_read, prices_read}
use Rattle.panel.specs.View.{case_on, sized_case, manned}
use Rattle.panel.specs.Questions.{Tried}
use Rattle.panel.specs.declared.watch.Watch.{Watch}
use Rattle.panel.specs.Judged.{GivesDispatch, JudgedDispatch, MissingDispatch, JudgedPrices, UnlawfulPrices}
use Rattle.panel.specs.declared.panel.Panel.{Panel}

module _ {M N S : Type 0} (𝓜 : Meaning M) (𝓝 : Meaning N) (p : Panel M N S) (w : List ℕ) where
  module _ (n k m : ℕ) (d : view.Dispatch WordColumn) (first : n ≡ min (length (case_on p).first.machines) (length p.powers.now)) (all : n + k ≡ length p.powers.now) (buses : m ≡ length p.angles.now) (r : ReadsDispatch n k m w d) (c : Case M N) (is : c ≡ case_on p) where
    said : SaysDispatch (length p.powers.now) (length p.angles.now) w (Some r.dispatch) × ◌≡◌ {A = WholeDispatch} (dispatch_of value_of d) (by_rows (case_on p) r.dispatch)
    said = dispatch_read 𝓜 𝓝 (sized_case p) n k m w d first all buses r

    long : length r.dispatch.powers ≡ length p.powers.now
    long = r.lawful.machines ∙ all

    gives : GivesDispatch (length (case_on p).first.machines) r.dispatch d
    gives = record {
      first = subst (Gives d.first.column) (ap (λ i. take i r.dispatch.powers) first ∙ take_least (length (case_on p).first.machines) (length p.powers.now) r.dispatch.powers long) r.first;
      second = subst (Gives d.second.column) (ap (λ i. drop i r.dispatch.powers) first ∙ drop_least (length (case_on p).first.machines) (length p.powers.now) r.dispatch.powers long) r.second;
      angles = r.angles;
    }

    pub judged_dispatch : (g : Grains) → Taken 𝓜 𝓝 c (dispatch_of value_of d) g → JudgedDispatch 𝓜 𝓝 p w (record { dispatch = d; cost = g })
    judged_dispatch g t = record {
      dispatch = r.dispatch;
      said = said.0;
      gives = gives;
      taken = subst (λ (x : WholeDispatch). Taken 𝓜 𝓝 (case_on p) x g) said.1 (subst (λ (x : Case M N). Taken 𝓜 𝓝 x (dispatch_of value_of d) g) is t);
    }

    pub missing_dispatch : (e : Refusal) → Declined 𝓜 𝓝 c (dispatch_of value_of d) e → MissingDispatch 𝓜 𝓝 p w e
    missing_dispatch e t = record {
      dispatch = r.dispatch;
      said = said.0;
      declined = subst (λ (x : WholeDispatch). Declined 𝓜 𝓝 (case_on p) x e) said.1 (subst (λ (x : Case M N). Declined 𝓜 𝓝 x (dispatch_of value_of d) e) is t);
    }

  module _ (n m : ℕ) (q : list.Prices WordColumn) (buses : n ≡ length (case_on p).buses) (branches : m ≡ length (case_on p).branches) (r : ReadsPrices n m w q) (c : Case M N) (is : c ≡ case_on p) where
    exactly : ReadsPrices (length (case_on p).buses) (length (case_on p).branches) w q
    exactly = subst (λ (i : ℕ). ReadsPrices (length (case_on p).buses) i w q) branches (subst (λ (i : ℕ). ReadsPrices i m w q) buses r)

    pub judged_prices : (g : Grains) → FloorGiven 𝓜 𝓝 c (prices_of value_of q) g.0 → JudgedPrices 𝓜 𝓝 p w g
    judged_prices g t =
        let s = prices_read 𝓜 𝓝 (sized_case p) w q exactly in
        record {
          list = exactly.list;
          said = s.0;
          given = subst (λ (x : floor.Prices). FloorGiven 𝓜 𝓝 (case_on p) x g.0) s.1 (subst (λ (x : Case M N). FloorGiven 𝓜 𝓝 x (prices_of value_of q) g.0) is t);
        }

    pub unlawful_prices : (e : Refusal) → floored.Refused c (prices_of value_of q) e → UnlawfulPrices 𝓜 𝓝 p w e
    unlawful_prices e t =
        let s = prices_read 𝓜 𝓝 (sized_case p) w q exactly in
        record {
          list = exactly.list;
          said = s.0;
          refused = subst (λ (x : floor.Prices). floored.Refused (case_on p) x e) s.1 (subst (λ (x : Case M N). floored.Refused x (prices_of value_of q) e) is t);
        }

module _ {M N : Type 0} (𝓜 : Meaning M) (𝓝 : Meaning N) (p : Panel M N Watch) (w : List ℕ) (n m : ℕ) (t : TrialPaper) (buses : n ≡ length (case_on p).buses) (branches : m ≡ length (case_on p).branches) (r : ReadsTrial n m w t) where
  sized_list : LawfulPrices (length (case_on p).buses) (length (case_on p).branches) r.list
  sized_list = subst (λ (i : ℕ). LawfulPrices (length (case_on p).buses) i r.list) branches (subst (λ (i : ℕ). LawfulPrices i m r.list) buses r.lawful)

  pub tried : (x : Result Grains Refusal) → FlooredWithout 𝓜 𝓝 (case_on p) (prices_of value_of t.list) t.branch x → Tried 𝓜 𝓝 w (manned 𝓜 𝓝 p) x
  tried x f = record {
    branch = t.branch;
    list = r.list;
    named = r.named;
    lawful = sized_list;
    words = r.words;
    floored = subst (λ (q : floor.Prices). FlooredWithout 𝓜 𝓝 (case_on p) q t.branch x) (same_prices t.list r.list r.gives) f;
  }
