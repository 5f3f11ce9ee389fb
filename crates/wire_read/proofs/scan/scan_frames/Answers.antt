use Rattle.std.proofs.Common.{◌≡◌, ◌+◌, List, ℕ, [], ◌∷◌, ◌++◌, ap, ◌∙◌, subst, arith, length, length-drop}
use Rattle.wire_read.specs.Front.{Whole, front}
use Rattle.wire_read.specs.Plain.{plain_frame}
use Rattle.wire_read.specs.Framing.{behind, frames_of}
use Rattle.wire_read.proofs.FramingLemmas.{front_len, scan_more, scan_wrong, scan_whole}
use Rattle.wire_read.proofs.AwaitedLemmas.{nothing_awaits, found_more, found_wrong, found_whole}
use Rattle.wire_read.proofs.scan.scan_frames.Goals as goal

pub loop-at-preserved-in-Some : goal.loop-at-preserved-in-Some
loop-at-preserved-in-Some c =
    let at = c.in-Some.at in
    let taken : ℕ = at.start + at.total + 2 in
    let found = subst (λ (t : List ℕ). front t ≡ Whole (plain_frame at t) taken) c.as_slice.ensures c.in-Some.ensures.whole in
    rw c.advance.ensures
    (scan_whole (behind c.args.frames.items (frames_of c.args.bytes)) c.loop-at.left c.loop-at.frames.items c.push_plain.new.frames.items (plain_frame at c.loop-at.left) taken c.loop-at.invariant found
    c.in_ok-push_plain-in-Some.ensures)

pub returns-in-More-clause-framing : goal.returns-in-More-clause-framing
returns-in-More-clause-framing c =
    scan_more (behind c.args.frames.items (frames_of c.args.bytes)) c.loop-at.left c.loop-at.frames.items c.loop-at.invariant
    (found_more c.in_ok-awaited-in-None.field-0 c.in-More.awaited c.loop-at.left c.in_ok-awaited-in-None.ensures c.in-More.is)

pub returns-in-Wrong-clause-framing : goal.returns-in-Wrong-clause-framing
returns-in-Wrong-clause-framing c =
    rw c.truncate.ensures
    (scan_wrong (behind c.args.frames.items (frames_of c.args.bytes)) c.loop-at.left c.loop-at.frames.items c.push.new.self.items c.in-Wrong.fault c.loop-at.invariant
    (found_wrong c.in_ok-awaited-in-None.field-0 c.in-Wrong.fault c.loop-at.left c.in_ok-awaited-in-None.ensures c.in-Wrong.is) c.in_ok-push-in-Wrong.ensures.items)

pub returns-in-Wrong-clause-awaited : goal.returns-in-Wrong-clause-awaited
returns-in-Wrong-clause-awaited c = rw c.truncate.ensures nothing_awaits

pub advance-requires-in-Whole : goal.advance-requires-in-Whole
advance-requires-in-Whole c =
    (front_len c.loop-at.left c.in-Whole.frame c.in-Whole.len
    (found_whole c.in_ok-awaited-in-None.field-0 c.in-Whole.frame c.in-Whole.len c.loop-at.left c.in_ok-awaited-in-None.ensures c.in-Whole.is)).1

pub loop-at-smaller : goal.loop-at-smaller
loop-at-smaller c =
    let e = found_whole c.in_ok-awaited-in-None.field-0 c.in-Whole.frame c.in-Whole.len c.loop-at.left c.in_ok-awaited-in-None.ensures c.in-Whole.is in
    omega (arith, front_len c.loop-at.left c.in-Whole.frame c.in-Whole.len e, ap length c.advance-in-Whole.ensures, length-drop c.in-Whole.len c.loop-at.left)

pub loop-at-preserved : goal.loop-at-preserved
loop-at-preserved c =
    rw c.advance-in-Whole.ensures
    (scan_whole (behind c.args.frames.items (frames_of c.args.bytes)) c.loop-at.left c.loop-at.frames.items c.push_reserved.new.self.items c.in-Whole.frame c.in-Whole.len c.loop-at.invariant
    (found_whole c.in_ok-awaited-in-None.field-0 c.in-Whole.frame c.in-Whole.len c.loop-at.left c.in_ok-awaited-in-None.ensures c.in-Whole.is) (c.push_reserved.ensures.items ∙ ap (λ fs. fs ++ c.in-Whole.frame ∷ []) c.reserve.ensures.items))
