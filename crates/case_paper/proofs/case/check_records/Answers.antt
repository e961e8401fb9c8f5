use Rattle.std.proofs.Common.{None, ◌≡◌, length, refl, ap, ◌∙◌, subst, arith}
use Rattle.std.proofs.lemmas.Result.{err_from_is_err_and}
use Rattle.case_paper.specs.declared.state.State.{State}
use Rattle.case_paper.specs.declared.count.Tally.{Tally}
use Rattle.case_paper.proofs.Progress.{Progress, refused_early, refused_misstep, refused_stops, refused_closed, progress_closed, progress_same, progress_all, refused_as}
use Rattle.word.specs.declared.fault.WordRefusal.TheVariants.{Kind}
use Rattle.case_paper.specs.State.{open_first}
use Rattle.case_paper.proofs.case.check_records.Goals as goal
use Rattle.case_paper.proofs.case.check_records.Goals.{in-Some+in_ok-complete, in_default}

pub returns-in_err-end_in_time : goal.returns-in_err-end_in_time
returns-in_err-end_in_time c =
    let i = c.loop-place.invariant in
    let p = err_from_is_err_and c.from_residual.result c.from_residual.ensures.1 in
    let f = rw i.1 at c.in_err-end_in_time.ensures in
    rw (p.1, p.2)
    (refused_as c.args.rows.now c.args.words.now c.in_err-end_in_time.field-0.0 Kind c.loop-place.place None f.2 f.3 f.4
    (refused_early c.args.rows.now c.args.words.now c.loop-place.place c.loop-place.state c.loop-place.tally.counts i.0 (omega arith) f.0 f.1))

pub returns-in_err-step : goal.returns-in_err-step
returns-in_err-step c =
    let i = c.loop-place.invariant in
    let p = err_from_is_err_and c.from_residual-in_err-step.result c.from_residual-in_err-step.ensures.1 in
    let f = c.in_err-step.ensures in
    let t = rw i.1 at c.in_ok-end_in_time.ensures in
    rw (p.1, p.2)
    (refused_as c.args.rows.now c.args.words.now c.in_err-step.field-0.0 c.in_err-step.field-0.0.refusal c.loop-place.place (open_first c.loop-place.state) refl f.2 f.3
    (refused_misstep c.args.rows.now c.args.words.now c.loop-place.place c.loop-place.state c.loop-place.tally.counts i.0 (omega arith) t c.in_err-step.field-0.0.refusal f.1))

pub returns-in_err-complete : goal.returns-in_err-complete
returns-in_err-complete c =
    let i = c.loop-place.invariant in
    let d = c.in-Some.ensures in
    let t = c.in_ok-step.ensures in
    let v = c.in-Some.closed in
    let p = err_from_is_err_and c.from_residual-in_err-complete.result c.from_residual-in_err-complete.ensures.1 in
    let f = rw (i.1, i.2) at c.in_err-complete.ensures in
    rw (p.1, p.2)
    (refused_closed c.args.rows.now c.args.words.now c.loop-place.place c.loop-place.state c.step.new.self c.loop-place.tally.counts i.0 (omega arith) t.0 t.1 v d.0 d.1.0 d.1.1
    c.in_err-complete.field-0.0 f.0)

pub loop-place-preserved : goal.loop-place-preserved
loop-place-preserved c =
    let i = c.loop-place.invariant in
    let t = c.in_ok-step.ensures in
    elim c.match-closed_by.branch [
      | in-Some+in_ok-complete w ↦
          let d = w.in-Some.ensures in
          let v = w.in-Some.closed in
          let k = rw (i.1, i.2) at w.in_ok-complete.ensures in
          let e = w.tally-is ∙ k.2 in (
            progress_closed c.args.rows.now c.args.words.now c.loop-place.place c.loop-place.state c.step.new.self c.loop-place.tally.counts i.0 (omega arith) t.0 t.1 v d.0 d.1.0 d.1.1
                c.match-closed_by.tally.counts k.0 k.1 (ap (λ (z : Tally). z.counts) e),
            ap (λ (z : Tally). z.words.now) e,
            ap (λ (z : Tally). z.rows.now) e,
          )
      | in_default w ↦
          rw w.tally-is (
            progress_same c.args.rows.now c.args.words.now c.loop-place.place c.loop-place.state c.step.new.self c.loop-place.tally.counts i.0 (omega arith) t.0 t.1
                (rw i.1 at c.in_ok-end_in_time.ensures) w.in_default.ensures,
            i.1,
            i.2,
          )
    ]

pub returns-in_default-state : goal.returns-in_default-state
returns-in_default-state c =
    let e : c.loop-place.place ≡ length c.args.words.now = omega arith in
    let f = refused_stops c.args.rows.now c.args.words.now c.loop-place.place c.loop-place.state c.loop-place.tally.counts c.loop-place.invariant.0 e c.in_default-state.not-Done in
    rw (c.from.ensures, c.fault.ensures) (rw e at f)

pub returns-in-Done : goal.returns-in-Done
returns-in-Done c =
    progress_all c.args.rows.now c.args.words.now c.loop-place.place c.loop-place.tally.counts
    (subst (λ (s : State). Progress c.args.rows.now c.args.words.now c.loop-place.place s c.loop-place.tally.counts) c.in-Done.is c.loop-place.invariant.0)
    (omega arith)
