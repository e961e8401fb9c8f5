use Rattle.std.proofs.Common.{◌≡◌, List, drop, Some, None, sym, subst, arith}
use Rattle.std.proofs.lemmas.List.{drop_all}
use Rattle.word.specs.Run.{slots_of, Due}
use Rattle.word.specs.declared.run.Run.{Run}
use Rattle.word.specs.declared.slot.Slot.{Slot}
use Rattle.word.proofs.Runs.{due_here, due_later}
use Rattle.word.proofs.run.slot_at.Goals as goal

pub returns-then-left-run : goal.returns-then-left-run
returns-then-left-run c =
    let d = due_here c.args.runs.now c.loop-run.run-index c.loop-run.left _ c.loop-run-test.true c.if-left-run.true in
    c.loop-run.invariant (Some c.slot_in.result) (subst (λ (s : Slot). Due (slots_of (drop c.loop-run.run-index c.args.runs.now)) c.loop-run.left (Some s)) (sym c.slot_in.ensures) d)

pub loop-run-preserved : goal.loop-run-preserved
loop-run-preserved c o d =
    c.loop-run.invariant o (due_later c.args.runs.now c.loop-run.run-index c.loop-run.left _ o c.loop-run-test.true c.if-left-run.false d)

pub returns : goal.returns
returns c =
    let e : drop c.loop-run.run-index c.args.runs.now ≡ _ = drop_all c.loop-run.run-index c.args.runs.now c.loop-run-test.false in
    c.loop-run.invariant None (subst (λ (rs : List Run). Due (slots_of rs) c.loop-run.left None) (sym e) (omega arith))
