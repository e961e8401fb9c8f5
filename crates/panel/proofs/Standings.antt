-- What stands after every run of calls that led to a panel.
use Rattle.std.proofs.Common.{◌≡◌, ℕ, [], ◌∷◌, length, get_or, Some, sym, refl, ap, subst, ◌∙◌}
use Rattle.machine.specs.Meaning.{Meaning, Keeps}
use Rattle.paper.specs.Dispatch.{LawfulDispatch}
use Rattle.paper.proofs.Dispatches.{reads_back}
use Rattle.standing.specs.Model.{Meets}
use Rattle.standing.specs.Panel.{Watch, Sheet, State, sheet_of}
use Rattle.standing.specs.Standing.{SheetStands, OnWatch}
use Rattle.standing.proofs.Standing.{standing_theorem}
use Rattle.standing.proofs.Reoffered.{reoffered_theorem}
use Rattle.panel_model.specs.Network.{network, SizedCase}
use Rattle.panel_model.proofs.Grounds.{grounds}
use Rattle.panel.specs.Standing.{StandsOn, SheetStandsOn, ShownAgainOn}

module _ {M N : Type 0} (𝓜 : Meaning M) (𝓝 : Meaning N) (k : Keeps 𝓜) (l : Keeps 𝓝) (s : State (network 𝓜 𝓝)) where
  pub stands_on : StandsOn 𝓜 𝓝 s
  stands_on start h sheets r = standing_theorem (network 𝓜 𝓝) (grounds 𝓜 𝓝 k l) start h sheets s r

  pub sheet_stands_on : (w : Watch) → s.watch ≡ Some w → (x : Sheet) → sheet_of w s ∷ [] ≡ x ∷ [] → SheetStandsOn 𝓜 𝓝 s x
  sheet_stands_on w m x e start h sheets r =
      let st = stands_on start h sheets r in
      subst (SheetStands (network 𝓜 𝓝) start h) (ap (λ l. get_or l 0 x) e)
      (record {
        watch_stands = subst (OnWatch (network 𝓜 𝓝) start h) m st.watch_stands;
        shown = s.shown;
        shown_stands = st.shown_stands;
        cost_is = refl;
        floor_stands = st.floor_stands;
      })

  pub shown_again_on : ShownAgainOn 𝓜 𝓝 s
  shown_again_on start h sheets r d e =
      let st = stands_on start h sheets r in
      let case = sym st.case_is in
      let meets = subst (λ (c : SizedCase M N). Meets (network 𝓜 𝓝) c d.dispatch) case (st.shown_stands.meets_now d e) in
      let fits : LawfulDispatch s.case.powers s.case.angles d.dispatch = meets.fits in
      record {
        said = (fits, refl);
        only = λ o said.
            (reads_back d.dispatch fits.units).same o
            (subst (λ (n : ℕ). LawfulDispatch n (length d.dispatch.angles) o) (sym fits.machines) (subst (λ (n : ℕ). LawfulDispatch s.case.powers n o) (sym fits.buses) said.0))
            (sym said.1);
        passed = reoffered_theorem (network 𝓜 𝓝) (grounds 𝓜 𝓝 k l) start h sheets s d r e;
        cost = ap (λ (c : SizedCase M N). (network 𝓜 𝓝).counted c d.dispatch) st.case_is ∙ sym (st.shown_stands.at_counted_cost d e);
      }
