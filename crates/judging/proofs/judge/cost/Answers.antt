use Rattle.std.proofs.Common.{◌≡◌, ℕ, ◌≤◌, List, length, ℤ, ◌+ℤ◌, sym, ap, ◌∙◌, subst, ap₂, arith, w64, to_z, of_z}
use borrow.Author.Differences.{ints}
use Rattle.std.proofs.lemmas.Result.{MatchResult-at_ok}
use Rattle.measure.specs.Range.{Within}
use Rattle.measure.proofs.Results.{value_told}
use Rattle.measure.proofs.Sums.{holds_below}
use Rattle.machine.specs.Meaning.{Meaning, Keeps}
use Rattle.machine.specs.Group.{Counted, AllowedAll, counted_cost}
use Rattle.machine.proofs.Totals.{counted_cost_within}
use Rattle.network.specs.Model.{counted}
use Rattle.judging.proofs.judge.cost.Goals as goal

pub overflow_add-result : goal.overflow_add-result
overflow_add-result g c =
    let h = holds_below _ _ c.in-Err.row c.in-Err.ensures in
    let k = c.used-first.ensures.few in
    let l = c.used-second.ensures.few in
    omega (arith, h, k, l)

-- one group's cost is within 255 × 10^15
within : {K : Type 0} (𝓚 : Meaning K) → Keeps 𝓚 → (ms : List K) (p : ℕ → ℤ) (t : ℤ) → length ms ≤ 255 → Counted 𝓚 ms p t → Within 255000000000000000 t
within 𝓚 keeps ms p t few h = subst (Within 255000000000000000) (sym h.counted) (counted_cost_within 𝓚 keeps ms 255 few p h.allowed)

pub overflow_add-result-in-Ok : goal.overflow_add-result-in-Ok
overflow_add-result-in-Ok g c =
    let a = within g.M.Machine.meaning g.met.M.Machine.lawful _ _ _ c.used-first.ensures.few (MatchResult-at_ok _ _ c.in_ok-one.one (value_told c.total_cost.result c.map_err.result _ c.in_ok-one.one c.in_ok-one.was c.map_err.ensures.cases) c.total_cost.ensures) in
    let b = within g.N.Machine.meaning g.met.N.Machine.lawful _ _ _ c.used-second.ensures.few c.in-Ok.ensures in
    omega (arith, ints, a.0, a.1, b.0, b.1)

pub returns-in-Ok : goal.returns-in-Ok
unfolding counted
returns-in-Ok g c =
    let first = MatchResult-at_ok _ _ c.in_ok-one.one (value_told c.total_cost.result c.map_err.result _ c.in_ok-one.one c.in_ok-one.was c.map_err.ensures.cases) c.total_cost.ensures in
    let second = c.in-Ok.ensures in
    let a = within g.M.Machine.meaning g.met.M.Machine.lawful _ _ _ c.used-first.ensures.few first in
    let b = within g.N.Machine.meaning g.met.N.Machine.lawful _ _ _ c.used-second.ensures.few second in
    let e : to_z w64 (of_z w64 (to_z w64 (of_z w64 c.in_ok-one.one.0) +ℤ to_z w64 (of_z w64 c.in-Ok.other.0))) ≡ c.in_ok-one.one.0 +ℤ c.in-Ok.other.0 = omega (arith, ints, a.0, a.1, b.0, b.1) in (
      (
        subst (λ ms. AllowedAll g.M.Machine.meaning ms (g.C.Column.value c.args.dispatch.now.first.column)) c.used-first.ensures.exact first.allowed,
        subst (λ ms. AllowedAll g.N.Machine.meaning ms (g.C.Column.value c.args.dispatch.now.second.column)) c.used-second.ensures.exact second.allowed,
      ),
      e ∙ ap₂ ◌+ℤ◌ (first.counted ∙ ap (λ ms. counted_cost g.M.Machine.meaning ms (g.C.Column.value c.args.dispatch.now.first.column)) c.used-first.ensures.exact) (second.counted ∙ ap (λ ms. counted_cost g.N.Machine.meaning ms (g.C.Column.value c.args.dispatch.now.second.column)) c.used-second.ensures.exact),
    )
