use Rattle.std.proofs.Common.{◌≡◌, ◌++◌, inl, inr, sym, ◌∙◌}
use Rattle.std.proofs.lemmas.Bool.{eqb-true}
use Rattle.std.proofs.lemmas.List.{take-append-drop, nil_from_length}
use Rattle.wire_read.specs.Framing.{framing}
use Rattle.wire_read.proofs.AwaitedLemmas.{quiet_followed, part_followed, end_followed}
use Rattle.wire_read.proofs.progress.read_on.Goals as goal
use Rattle.wire_read.proofs.progress.read_on.Goals.{then-loop-read-test+else-not-is_empty, else-loop-read-test}

pub returns-in-Quiet-clause-framing : goal.returns-in-Quiet-clause-framing
returns-in-Quiet-clause-framing c =
    quiet_followed c.loop-read.read.awaited c.loop-read.read.frames.items c.loop-read.read.kept c.append.new.self c.loop-read.left.now c.loop-read.read.failed
    c.loop-read-test.true c.in_ok-append-in-Quiet.ensures.ok c.in-Quiet.ensures
    ∙ c.loop-read.invariant.0

pub loop-read-preserved : goal.loop-read-preserved
loop-read-preserved c =
    let cut : c.split_at.result.0.now ++ c.split_at.result.1.now ≡ c.loop-read.left.now =
    rw (c.split_at.ensures.front, c.split_at.ensures.back) (take-append-drop c.in-Takes.len c.loop-read.left.now) in (
      part_followed
          (framing c.in_ok-read-in-Takes.read.frames.items c.in_ok-read-in-Takes.read.kept c.in_ok-read-in-Takes.read.failed)
          c.loop-read.read.frames.items c.loop-read.read.kept c.split_at.result.0.now c.split_at.result.1.now c.loop-read.left.now c.loop-read.read.failed
          c.loop-read-test.true cut c.in_ok-read-in-Takes.ensures.framing
          ∙ c.loop-read.invariant.0,
      c.in_ok-read-in-Takes.ensures.awaited,
    )

pub returns-clause-framing : goal.returns-clause-framing
returns-clause-framing c =
    sym (end_followed c.loop-read.read.awaited c.loop-read.read.frames.items c.loop-read.read.kept c.loop-read.left.now c.loop-read.read.failed c.loop-read.invariant.1
    (elim c.loop-read-test.branch [
      | then-loop-read-test+else-not-is_empty w ↦ inr (nil_from_length c.loop-read.left.now (eqb-true _ 0 (sym w.is_empty.ensures ∙ w.if-not-is_empty.false)))
      | else-loop-read-test w ↦ inl w.loop-read-test.false
    ]))
    ∙ c.loop-read.invariant.0
