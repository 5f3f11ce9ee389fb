-- one more is noted
use Rattle.std.proofs.Common.{◌∙◌, ◌-◌, ◌++◌, List, ℕ, length, take, ap, arith, sym}
use Rattle.shared_waits.specs.Waiting.{under}
use Rattle.shared_waits.proofs.Lists.{noted_next}
use Rattle.shared_waits.proofs.waits.note_first.Goals as goal

pub loop-publisher-preserved-then-receiver-other : goal.loop-publisher-preserved-then-receiver-other
loop-publisher-preserved-then-receiver-other c = record {
  next = tt;
  ends = tt;
  noted =
      ap (λ (l : List ℕ). l ++ take (c.loop-publisher.left - 1) (under c.args.receiver c.next.new.self)) c.push_reserved.ensures.items
      ∙ noted_next c.loop-publisher.freed.items c.loop-publisher.left c.in-Some.publisher.now c.args.receiver c.in-Some.other.now c.next.new.self _
      c.if-left-gt0.true c.if-receiver-other.true
      (ap (λ (l : List (ℕ × ℕ)). c.loop-publisher.freed.items ++ take c.loop-publisher.left (under c.args.receiver l)) (sym c.in-Some.ensures.steps)
      ∙ c.loop-publisher.invariant.noted);
  room = omega (arith, ap length c.in-Some.ensures.steps);
}
