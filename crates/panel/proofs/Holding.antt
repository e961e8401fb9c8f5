-- An offer that is held: what the panel then shows.
use Rattle.std.proofs.Common.{◌≡◌, ℕ, false, List, length, ℤ, ◌<ℤ◌, Some, None, Option, refl, ap, subst, ◌∙◌}
use Rattle.measure.specs.declared.Grains.{Grains}
use Rattle.machine.specs.Meaning.{Meaning}
use Rattle.paper.specs.Dispatch.{Dispatch}
use Rattle.std.specs.Option.{option_map}
use Rattle.standing.specs.Panel as standing
use Rattle.standing.specs.Panel.{State, Cheaper, total, is_full, raised, priced, showing, counting}
use Rattle.standing.specs.Panel.Heading.{HELD}
use Rattle.standing.specs.Step.{Improves}
use Rattle.panel_model.specs.Network.{network}
use Rattle.panel_model.proofs.Offers.{dispatch_meets, dispatch_costs}
use Rattle.panel.specs.Calls.{DispatchHeld}
use Rattle.panel.specs.Judged.{JudgedDispatch}
use Rattle.panel.specs.View.{amount, case_on, sized_case, manned}
use Rattle.panel.specs.Watch.{counts_of, watch_of}
use Rattle.panel.specs.declared.judged.Judged.{Judged}
use Rattle.panel.specs.declared.panel.Panel.{Panel}
use Rattle.panel.specs.declared.watch.Watch.{Watch}

module _ {M N : Type 0} (𝓜 : Meaning M) (𝓝 : Meaning N) (p : Panel M N Watch) where
  -- the panel with these powers and angles at this cost, and these counts
  abbrev pub with_dispatch : List ℤ → List ℤ → Grains → standing.Counts → State (network 𝓜 𝓝)
  with_dispatch powers angles cost n =
      record {
        case = record { case = case_on p; powers = length powers; angles = length angles };
        shown = Some (record { dispatch = record { powers = powers; angles = angles }; cost = cost.0 });
        floor = amount p.floor;
        watch = Some (record { attendant = p.state.attendant; counts = n });
      }

  shown_held : (d : Dispatch) (powers angles : List ℤ) (cost : Grains) (z : ℤ) (n : standing.Counts) → powers ≡ d.powers → angles ≡ d.angles → length d.powers ≡ length p.powers.now → length d.angles ≡ length p.angles.now → cost.0 ≡ z → n ≡ raised HELD (counts_of p.state.counts) → ◌≡◌ {A = State (network 𝓜 𝓝)} (with_dispatch powers angles cost n) (counting HELD (watch_of p.state) (showing (record { dispatch = d; cost = z }) (manned 𝓜 𝓝 p)))
  shown_held d powers angles cost z n e f h k q r = λ i. record {
    case = record { case = case_on p; powers = (ap length e ∙ h) i; angles = (ap length f ∙ k) i };
    shown = Some (record { dispatch = record { powers = e i; angles = f i }; cost = q i });
    floor = amount p.floor;
    watch = Some (record { attendant = p.state.attendant; counts = r i });
  }

  shown_cost : (z : ℤ) (o : Option Grains) (d : Dispatch) (held : Dispatch) → Improves (λ a b. a <ℤ b) z (amount o) → Improves {A = standing.Priced (network 𝓜 𝓝)} Cheaper (record { dispatch = d; cost = z }) (option_map (λ (g : Grains). record { dispatch = held; cost = g.0 }) o)
  shown_cost z None d held h = h
  shown_cost z (Some g) d held h = h

  pub held_dispatch : (w : List ℕ) (j : Judged) (x : JudgedDispatch 𝓜 𝓝 p w j) (powers angles : List ℤ) (n : standing.Counts) → powers ≡ x.dispatch.powers → angles ≡ x.dispatch.angles → is_full (total (counts_of p.state.counts)) ≡ false → Improves (λ a b. a <ℤ b) j.cost.0 (amount p.cost) → n ≡ raised HELD (counts_of p.state.counts) → DispatchHeld 𝓜 𝓝 w (manned 𝓜 𝓝 p) (with_dispatch powers angles j.cost n) j.cost
  held_dispatch w j x powers angles n e f room better r =
      let q = dispatch_costs 𝓜 𝓝 (sized_case p) x.dispatch j.cost x.taken in
      record {
        dispatch = x.dispatch;
        said = x.said;
        meets = dispatch_meets 𝓜 𝓝 (sized_case p) x.dispatch j.cost x.said.0 x.taken;
        cost = q;
        cheaper =
            shown_cost ((network 𝓜 𝓝).counted (sized_case p) x.dispatch) p.cost x.dispatch (record { powers = p.powers.now; angles = p.angles.now })
            (subst (λ (z : ℤ). Improves (λ a b. a <ℤ b) z (amount p.cost)) q better);
        counted = record {
          watch = watch_of p.state;
          manned = refl;
          room = room;
          after = shown_held x.dispatch powers angles j.cost ((network 𝓜 𝓝).counted (sized_case p) x.dispatch) n e f x.said.0.machines x.said.0.buses q r;
        };
      }
