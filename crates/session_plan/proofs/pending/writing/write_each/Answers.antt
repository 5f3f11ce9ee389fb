-- one more delivery is written
use Rattle.std.proofs.Common.{◌∙◌, length, length-drop, sym, ap, arith}
use Rattle.session_plan.proofs.pending.Written.{on_ok, next_left, written_next}
use Rattle.session_plan.proofs.pending.writing.write_each.Goals as goal

pub overflow_add-written : goal.overflow_add-written
overflow_add-written c =
    let next = sym c.loop-next.invariant.left ∙ c.in-Some.ensures in
    omega (arith, ap length next, length-drop c.loop-next.written c.args.owed.now.deliveries)

pub loop-next-preserved : goal.loop-next-preserved
loop-next-preserved c =
    let next = sym c.loop-next.invariant.left ∙ c.in-Some.ensures in
    let text = on_ok c.write_delivery.result (sym c.is_err.ensures.value ∙ c.if-is_err.false) c.write_delivery.ensures.ok in
    record {
      written = written_next c.args.headers c.args.out.now.items c.args.owed.now.deliveries c.loop-next.written c.loop-next.out.items c.in-Some.next c.next.new.self c.write_delivery.new.out.items
          c.loop-next.invariant.written next text;
      left = next_left c.args.owed.now.deliveries c.loop-next.written c.in-Some.next c.next.new.self next;
    }
