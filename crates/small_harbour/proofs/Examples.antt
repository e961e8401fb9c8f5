-- The small harbour, all together.
use Rattle.std.proofs.Common.{◌≡◌, ℕ, true, false, ℤ, pos, Ok, Err, sym, refl, ap, ◌∙◌, subst, inl, inr, arith}
use Rattle.measure.specs.Fraction.{whole, ◌≤ᶠ◌}
use Rattle.measure.specs.Rows.{Stands}
use Rattle.measure.proofs.Sums.{holds_below}
use Rattle.pricing.specs.Outage.{with_mark, without, NamedRow, FlooredWithout}
use Rattle.stepped.specs.Piecewise.{stepped_meaning}
use Rattle.stepped.specs.Keeping.{stepped_lawful}
use Rattle.curved.specs.Quadratic.{curved_meaning}
use Rattle.curved.specs.Keeping.{curved_lawful}
use Rattle.network.specs.declared.refusal.Refusal.TheVariants.{Unbalanced, Overloaded}
use Rattle.network.specs.Floor.{Prices, LawfulList, floor}
use Rattle.network.specs.Judged.{Judged}
use Rattle.network.specs.Floored.{Floored}
use Rattle.network.specs.Model.{Case, WholeDispatch, in_fractions, Meets, true_cost, counted}
use Rattle.network.proofs.Counted.{counted-covers}
use Rattle.network.proofs.Duality.{floor_stands}
use Rattle.network.proofs.Pinned.{judged_taken, judged_unbalanced}
use Rattle.stepped.specs.declared.stepped.Stepped.{Stepped}
use Rattle.curved.specs.declared.curved.Curved.{Curved}
use Rattle.small_harbour.specs.Harbour.{line_name, line, harbour, prices}
use Rattle.small_harbour.specs.Example.{Answer, grains, Answered, Example}
use Rattle.small_harbour.proofs.Dispatches as dispatches
use Rattle.small_harbour.proofs.Floors as floors

-- a dispatch that meets the case is taken at its counted cost
taken : (E : ℕ) (d : WholeDispatch) (z : ℤ) → Meets stepped_meaning curved_meaning (harbour E true) (in_fractions d) → counted stepped_meaning curved_meaning (harbour E true) d ≡ z → Answered (Judged stepped_meaning curved_meaning (harbour E true) d) (λ r. r ≡ grains z)
taken E d z meets e =
    record {
      only = λ r j. judged_taken stepped_meaning curved_meaning _ _ meets r j ∙ ap grains e;
      possible = (
        grains z,
        refl,
        record {
          meets = meets;
          cost = sym e;
          covers = subst (λ (k : ℤ). true_cost stepped_meaning curved_meaning (harbour E true) (in_fractions d) ≤ᶠ whole k) e (counted-covers stepped_meaning curved_meaning stepped_lawful curved_lawful (harbour E true) d meets);
        },
      );
    }

-- the floor of a lawful list is the answer
floor_only : (c : Case Stepped Curved) (q : Prices) (z : ℤ) → LawfulList c q → floor stepped_meaning curved_meaning c q ≡ z → (r : Answer) → Floored stepped_meaning curved_meaning c q r → r ≡ grains z
floor_only c q z lawful e (Ok g) h = ap grains (h.exact ∙ e)
floor_only c q z lawful e (Err x) h = absurd (h.unlawful lawful)

floor_possible : (c : Case Stepped Curved) (q : Prices) (z : ℤ) → LawfulList c q → floor stepped_meaning curved_meaning c q ≡ z → Floored stepped_meaning curved_meaning c q (grains z)
floor_possible c q z lawful e =
    record {
      lawful = lawful;
      exact = sym e;
      below = λ d m. subst (λ (k : ℤ). whole k ≤ᶠ true_cost stepped_meaning curved_meaning c d) e (floor_stands stepped_meaning curved_meaning stepped_lawful curved_lawful c q d lawful m);
    }

floored : (c : Case Stepped Curved) (q : Prices) (z : ℤ) → LawfulList c q → floor stepped_meaning curved_meaning c q ≡ z → Answered (Floored stepped_meaning curved_meaning c q) (λ r. r ≡ grains z)
floored c q z lawful e =
    record { only = floor_only c q z lawful e; possible = (grains z, refl, floor_possible c q z lawful e) }

-- the one branch of that name is in row 0
first-row : (i : ℕ) → NamedRow (harbour 0 true) line_name i → i ≡ 0
first-row i h = let l = holds_below _ (harbour 0 true).branches i h in omega arith

named : NamedRow (harbour 0 true) line_name 0
unfolding Stands
named = record { item = line true; stands = refl; holds = refl }

-- without it
abbrev out_prices : Prices
out_prices = prices (pos 20) (pos 31) (pos 0) (pos 0)

out_only : (r : Answer) → FlooredWithout stepped_meaning curved_meaning (harbour 0 true) out_prices line_name r → r ≡ grains (pos 30500)
unfolding with_mark
out_only r (inl a) = absurd (a.none 0 named)
out_only r (inr t) =
    floor_only (harbour 0 false) _ _ floors.out_lawful floors.out_floor r
    (subst (λ i. Floored stepped_meaning curved_meaning (without (harbour 0 true) i) out_prices r) (first-row t.row t.lowest.0) t.floored)

out_possible : FlooredWithout stepped_meaning curved_meaning (harbour 0 true) out_prices line_name (grains (pos 30500))
unfolding with_mark
out_possible =
    inr (record {
      row = 0;
      lowest = (named, λ j l h. absurd (omega arith));
      floored = floor_possible (harbour 0 false) out_prices (pos 30500) floors.out_lawful floors.out_floor;
    })

pub example : Example
example =
    record {
      even_share = taken _ _ _ dispatches.cheapest_meets dispatches.cheapest_cost;
      dearer = taken _ _ _ dispatches.dearer_meets dispatches.dearer_cost;
      uneven =
          record {
            only = λ r j. let a = judged_unbalanced stepped_meaning curved_meaning _ _ dispatches.uneven-angles dispatches.uneven-powers dispatches.uneven-unbalanced r j in record { refusal = a.refusal; is = a.is; number = a.number };
            possible = (Err (Unbalanced 0), record { refusal = Unbalanced 0; is = refl; number = refl }, dispatches.uneven-declined);
          };
      tolerated = taken _ _ _ dispatches.tolerated_meets dispatches.tolerated_cost;
      heavy = record { only = dispatches.heavy-row; possible = (Err (Overloaded 0), refl, dispatches.heavy-declined) };
      even_prices = floored _ _ _ floors.even_lawful floors.even_floor;
      even_prices_tolerated = floored _ _ _ floors.tolerated_lawful floors.tolerated_floor;
      uneven_prices = floored _ _ _ floors.uneven-lawful floors.uneven-floor;
      priced_angle = floored _ _ _ floors.angle-lawful floors.angle-floor;
      branch_out = record { only = out_only; possible = (grains (pos 30500), refl, out_possible) };
    }
