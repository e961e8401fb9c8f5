-- The dispatches of the small harbour.
use Rattle.std.proofs.Common.{◌≡◌, ℕ, ◌<◌, true, T, ℤ, pos, negsuc, ◌*ℤ◌, Err, refl, ap, ◌∙◌, arith}
use lib.Signed.{le_z}
use Rattle.measure.specs.Fraction.{Fraction, ◌+ᶠ◌, ◌-ᶠ◌, ◌·ᶠ◌, Between}
use Rattle.measure.specs.Rows.{numbered, total, totalᶠ, All, Stands}
use Rattle.stepped.specs.Piecewise.{stepped_meaning}
use Rattle.curved.specs.Quadratic.{curved_meaning}
use Rattle.network.specs.Model.{WholeDispatch, in_fractions, angle, flow, leaving, arriving, injection, mismatch, Meets, counted}
use Rattle.measure.proofs.Sums.{holds_below}
use Rattle.network.specs.declared.refusal.Refusal.{Refusal}
use Rattle.network.specs.declared.refusal.Refusal.TheVariants.{OutOfRange, Crossed, Size, Repeated, UnknownBus, NotInCase, NotAllowed, Unbalanced, Overloaded, Overstretched, Unrated, Weight, Residue}
use Rattle.network.specs.Refusals.{number_of}
use Rattle.network.specs.Judged.{AnglesKept, PowersAllowed, InBalance, WithinRating, Balanced, RatingsKept, Refused, Declined, Judged}
use Rattle.network.proofs.Pinned.{judged_overloaded}
use Rattle.small_harbour.specs.Example.{Answer}
use Rattle.small_harbour.specs.Harbour.{west, line, harbour, dispatch}

-- a fraction between two whole numbers, by computing both comparisons
inside : {a b : ℤ} {x : Fraction} → T (le_z (a *ℤ pos x.den) (x.num *ℤ pos 1)) → T (le_z (x.num *ℤ pos 1) (b *ℤ pos x.den)) → Between a b x
inside l h = record { low = record { cross = record { le = l } }; high = record { cross = record { le = h } } }

-- ---- three that meet the case
pub cheapest_cost : counted stepped_meaning curved_meaning (harbour 0 true) (dispatch (pos 600) (pos 400) (negsuc 59)) ≡ pos 24080
unfolding counted total numbered
cheapest_cost = refl

pub cheapest_meets : Meets stepped_meaning curved_meaning (harbour 0 true) (in_fractions (dispatch (pos 600) (pos 400) (negsuc 59)))
unfolding All numbered ◌+ᶠ◌ ◌-ᶠ◌ ◌·ᶠ◌ totalᶠ angle flow leaving arriving injection mismatch
cheapest_meets =
    record {
      first_allowed = (inside tt tt, tt);
      second_allowed = (inside tt tt, tt);
      balance = (inside tt tt, (inside tt tt, tt));
      ratings = ((λ on rated. inside tt tt), tt);
      differences = ((λ on. inside tt tt), tt);
      angle_range = (inside tt tt, (inside tt tt, tt));
    }

pub dearer_cost : counted stepped_meaning curved_meaning (harbour 0 true) (dispatch (pos 800) (pos 200) (negsuc 79)) ≡ pos 28020
unfolding counted total numbered
dearer_cost = refl

pub dearer_meets : Meets stepped_meaning curved_meaning (harbour 0 true) (in_fractions (dispatch (pos 800) (pos 200) (negsuc 79)))
unfolding All numbered ◌+ᶠ◌ ◌-ᶠ◌ ◌·ᶠ◌ totalᶠ angle flow leaving arriving injection mismatch
dearer_meets =
    record {
      first_allowed = (inside tt tt, tt);
      second_allowed = (inside tt tt, tt);
      balance = (inside tt tt, (inside tt tt, tt));
      ratings = ((λ on rated. inside tt tt), tt);
      differences = ((λ on. inside tt tt), tt);
      angle_range = (inside tt tt, (inside tt tt, tt));
    }

pub tolerated_cost : counted stepped_meaning curved_meaning (harbour 1 true) (dispatch (pos 801) (pos 199) (negsuc 79)) ≡ pos 28040
unfolding counted total numbered
tolerated_cost = refl

pub tolerated_meets : Meets stepped_meaning curved_meaning (harbour 1 true) (in_fractions (dispatch (pos 801) (pos 199) (negsuc 79)))
unfolding All numbered ◌+ᶠ◌ ◌-ᶠ◌ ◌·ᶠ◌ totalᶠ angle flow leaving arriving injection mismatch
tolerated_meets =
    record {
      first_allowed = (inside tt tt, tt);
      second_allowed = (inside tt tt, tt);
      balance = (inside tt tt, (inside tt tt, tt));
      ratings = ((λ on rated. inside tt tt), tt);
      differences = ((λ on. inside tt tt), tt);
      angle_range = (inside tt tt, (inside tt tt, tt));
    }

-- ---- one out of balance by a watt
abbrev uneven : WholeDispatch
uneven = dispatch (pos 801) (pos 199) (negsuc 79)

pub uneven-angles : AnglesKept (harbour 0 true) uneven
uneven-angles i l = (record { le = tt }, record { le = tt })

pub uneven-powers : PowersAllowed stepped_meaning curved_meaning (harbour 0 true) uneven
unfolding All numbered
uneven-powers = ((inside tt tt, tt), (inside tt tt, tt))

uneven-west : InBalance (harbour 0 true) uneven (record { item = west; row = 0 }) → ⊥
unfolding numbered ◌+ᶠ◌ ◌-ᶠ◌ ◌·ᶠ◌ totalᶠ angle flow leaving arriving injection mismatch
uneven-west b = b.high.cross.le

pub uneven-unbalanced : Balanced (harbour 0 true) uneven → ⊥
unfolding All numbered
uneven-unbalanced b = uneven-west b.0

-- both buses are out of balance, and the refusal may name either
pub uneven-declined : Declined stepped_meaning curved_meaning (harbour 0 true) uneven (Unbalanced 0)
unfolding Stands
uneven-declined =
    record {
      refused = (uneven-angles, uneven-powers, record { item = west; stands = refl; holds = uneven-west });
      misses = λ m. uneven-unbalanced m.balance;
    }

-- ---- one over the rating of the branch
abbrev heavy : WholeDispatch
heavy = dispatch (pos 900) (pos 100) (negsuc 89)

pub heavy-angles : AnglesKept (harbour 0 true) heavy
heavy-angles i l = (record { le = tt }, record { le = tt })

pub heavy-powers : PowersAllowed stepped_meaning curved_meaning (harbour 0 true) heavy
unfolding All numbered
heavy-powers = ((inside tt tt, tt), (inside tt tt, tt))

pub heavy-balanced : Balanced (harbour 0 true) heavy
unfolding All numbered ◌+ᶠ◌ ◌-ᶠ◌ ◌·ᶠ◌ totalᶠ angle flow leaving arriving injection mismatch
heavy-balanced = (inside tt tt, (inside tt tt, tt))

heavy-line : WithinRating (harbour 0 true) heavy (line true) → ⊥
unfolding ◌+ᶠ◌ ◌-ᶠ◌ ◌·ᶠ◌ angle flow
heavy-line w = w.high.cross.le

pub heavy-overloads : RatingsKept (harbour 0 true) heavy → ⊥
unfolding All
heavy-overloads r = heavy-line (r.0 tt (record { lt = tt }))

pub heavy-declined : Declined stepped_meaning curved_meaning (harbour 0 true) heavy (Overloaded 0)
unfolding Stands
heavy-declined =
    record {
      refused = (heavy-angles, heavy-powers, heavy-balanced, record { item = line true; stands = refl; holds = (tt, record { lt = tt }, heavy-line) });
      misses = λ m. heavy-overloads m.ratings;
    }

-- the one branch is the one that is over
pub heavy-row : (r : Answer) → Judged stepped_meaning curved_meaning (harbour 0 true) heavy r → r ≡ Err (Overloaded 0)
heavy-row r j =
    let a = judged_overloaded stepped_meaning curved_meaning (harbour 0 true) heavy heavy-angles heavy-powers heavy-balanced heavy-overloads r j in
    a.is ∙ ap Err (only_row a.refusal a.number a.due)
  where
    row_zero : (i : ℕ) → i < 1 → i ≡ 0
    row_zero i l = omega arith

    only_row : (e : Refusal) → number_of e ≡ 13 → Refused stepped_meaning curved_meaning (harbour 0 true) heavy e → e ≡ Overloaded 0
    only_row (Overloaded i) n f = ap Overloaded (row_zero i (holds_below _ (harbour 0 true).branches i f.3))
    only_row (OutOfRange i) n f = absurd (omega arith)
    only_row (NotAllowed i) n f = absurd (omega arith)
    only_row (Unbalanced i) n f = absurd (omega arith)
    only_row (Overstretched i) n f = absurd (omega arith)
    only_row (Crossed i) n f = absurd f
    only_row Size n f = absurd f
    only_row (Repeated i) n f = absurd f
    only_row (UnknownBus i) n f = absurd f
    only_row NotInCase n f = absurd f
    only_row (Unrated i) n f = absurd f
    only_row (Weight i) n f = absurd f
    only_row (Residue i) n f = absurd f
