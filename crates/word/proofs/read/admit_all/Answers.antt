use Rattle.std.proofs.Common.{◌≡◌, length, Some, get_or, refl, subst, rules, add-one, arith}
use Rattle.std.proofs.lemmas.Result.{err_from_is_err_and}
use Rattle.word.specs.Slot.{Fits, Misfits}
use Rattle.word.specs.Run.{slots_of, Due}
use Rattle.word.specs.declared.slot.Slot.{Slot}
use Rattle.word.specs.declared.slot.Slot.TheVariants.{End}
use Rattle.word.proofs.Slots.{matches_more, refused_stops, refused_misfit}
use Rattle.word.proofs.read.admit_all.Goals as goal

pub returns-in_err-admit : goal.returns-in_err-admit
returns-in_err-admit c =
    let p = err_from_is_err_and c.from_residual.result c.from_residual.ensures.1 in
    let f = c.in_err-admit.ensures in
    let due : Due (slots_of c.args.runs.now) c.loop-place.place (Some c.in-Some.slot) = search rules in
    let m = subst (λ (s : Slot). Misfits s (get_or c.args.words.now c.loop-place.place 0) c.in_err-admit.field-0.0.refusal) due.1 f.0 in
    let g = refused_misfit (slots_of c.args.runs.now) c.args.words.now c.loop-place.place c.requires c.loop-place.invariant.1
    End (omega arith) due.0 c.in_err-admit.field-0.0.refusal m in
    rw (p.1, p.2) (rw f.1 g, f.2)

pub loop-place-preserved : goal.loop-place-preserved
loop-place-preserved c =
    let due : Due (slots_of c.args.runs.now) c.loop-place.place (Some c.in-Some.slot) = search rules in
    let f = subst (λ (s : Slot). Fits s (get_or c.args.words.now c.loop-place.place 0)) due.1 c.in_ok-admit.ensures in (
      omega arith,
      rw add-one
          (matches_more (slots_of c.args.runs.now) c.args.words.now c.loop-place.place End 0 c.loop-place.invariant.1
          due.0 (omega arith) f),
    )

pub returns-then-is_some : goal.returns-then-is_some
returns-then-is_some c =
    let e : c.loop-place.place ≡ length c.args.words.now = omega arith in
    let due = c.slot_at-2.ensures in
    let at = c.at-then-is_some.ensures in
    rw at (rw e at (refused_stops (slots_of c.args.runs.now) c.args.words.now c.loop-place.place c.requires c.loop-place.invariant.1 (omega arith) (search rules)), refl)
