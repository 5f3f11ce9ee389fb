-- each message is offered behind those before it
use Rattle.std.proofs.Common.{◌≡◌, ◌∙◌, ◌++◌, ◌∷◌, [], List, length, ◌<◌, Some, Ok, Err, ap, append-nil, append_assoc, refl, subst, sym, arith}
use Rattle.std.proofs.lemmas.Grind.{common_steps}
use Rattle.events.specs.declared.answer.Entry.{Entry}
use Rattle.shared_waits.specs.runs.Runs.{IsRun}
use Rattle.shared_waits.proofs.runs.Runs.{run_more, run_ended, run_all}
use Rattle.shared_hub.specs.desk.Bounds.{terms_at}
use Rattle.shared_hub.specs.desk.Publishing.{IsPublished, inside}
use Rattle.shared_hub.proofs.desk.Offering.{handed_back}
use Rattle.shared_hub.proofs.desk.desk.Desk.step_run.Goals as goal

pub loop-message-init : goal.loop-message-init
loop-message-init g c = record { rotations = refl; most = refl; below = λ few. few; freed = refl; rest = refl; run = ([], sym (append-nil _), λ more end rest p' w' h. h) }

pub returns-in-Err-clause-run : goal.returns-in-Err-clause-run
returns-in-Err-clause-run g c =
    let past = c.loop-message.invariant.run in (
      past.0,
      past.1,
      run_ended (IsPublished (λ s. s.count) g.L.Run.opening) g.W.Words.draws c.args.context.now.posts.conn c.args.context.now.posts.now c.args.messages.now.items
          (inside c.args.self.now.hub c.args.self.now.waits c.args.self.now.held.items c.args.seat.now c.args.context.now.told) c.args.words.now past.0 c.loop-message.messages.items c.in-Some.message c.pop_front.new.self.items
          (inside c.loop-message.self.hub c.loop-message.self.waits c.loop-message.self.held.items c.loop-message.seat c.loop-message.context.told) c.loop-message.words c.next.result c.next.new.self c.event-event.result (Err c.in-Err.refused) (inside c.step_if.new.self.hub c.step_if.new.self.waits c.step_if.new.self.held.items c.step_if.new.seat c.step_if.new.told)
          c.in-Some.ensures.items c.event-event.ensures past.2 c.next.ensures (record { hub = c.in-Err.ensures.hub; step = c.in-Err.ensures.step; guarantee = c.in-Err.ensures.guarantee; counted = c.in-Err.ensures.count; number = tt; waits = c.in-Err.ensures.waits; until = c.in-Err.ensures.until; slow = c.in-Err.ensures.slow; size = c.in-Err.ensures.size }) (handed_back (terms_at c.loop-message.self.waits c.loop-message.self.hub c.event-event.result) c.loop-message.self.hub c.event-event.result c.in-Err.refused c.step_if.new.self.held.items c.step_if.new.self.hub c.in-Err.ensures.step),
    )

pub returns-in-Some-keep-clause-run : goal.returns-in-Some-keep-clause-run
returns-in-Some-keep-clause-run g c =
    let past = c.loop-message.invariant.run in
    let R : Entry → Type 0 = λ x. IsRun (IsPublished (λ s. s.count) g.L.Run.opening) g.W.Words.draws c.args.context.now.posts.conn c.args.context.now.posts.now c.args.messages.now.items
    (inside c.args.self.now.hub c.args.self.now.waits c.args.self.now.held.items c.args.seat.now c.args.context.now.told) c.args.words.now past.0 (Some (Ok x)) c.pop_front.new.self.items (inside c.step_if.new.self.hub c.step_if.new.self.waits c.step_if.new.self.held.items c.step_if.new.seat c.step_if.new.told) c.next.new.self
    in (
      past.0,
      c.in-Some-keep.ensures.kept.1 ∙ past.1,
      subst R (sym c.in-Some-keep.ensures.kept.0)
          (run_ended (IsPublished (λ s. s.count) g.L.Run.opening) g.W.Words.draws c.args.context.now.posts.conn c.args.context.now.posts.now c.args.messages.now.items
          (inside c.args.self.now.hub c.args.self.now.waits c.args.self.now.held.items c.args.seat.now c.args.context.now.told) c.args.words.now past.0 c.loop-message.messages.items c.in-Some.message c.pop_front.new.self.items
          (inside c.loop-message.self.hub c.loop-message.self.waits c.loop-message.self.held.items c.loop-message.seat c.loop-message.context.told) c.loop-message.words c.next.result c.next.new.self c.event-event.result (Ok c.in-Ok.answer) (inside c.step_if.new.self.hub c.step_if.new.self.waits c.step_if.new.self.held.items c.step_if.new.seat c.step_if.new.told)
          c.in-Some.ensures.items c.event-event.ensures past.2 c.next.ensures (record { hub = c.in-Ok.ensures.hub; step = c.in-Ok.ensures.step; guarantee = c.in-Ok.ensures.guarantee; counted = c.in-Ok.ensures.count; number = c.in-Ok.ensures.number; waits = c.in-Ok.ensures.waits; until = c.in-Ok.ensures.until; slow = c.in-Ok.ensures.slow; size = c.in-Ok.ensures.size }) tt),
    )

pub returns-in-Some-keep-clause-below : goal.returns-in-Some-keep-clause-below
returns-in-Some-keep-clause-below g c = λ few.
    subst (λ (l : List Entry). length l < c.args.context.now.hold.most) (sym c.in-Some-keep.ensures.kept.1) (c.loop-message.invariant.below few)

pub loop-message-preserved : goal.loop-message-preserved
loop-message-preserved g c =
    let past = c.loop-message.invariant.run in
    let kept = c.in_default-keep.ensures.kept in
    let answers : List Entry = past.0 ++ c.in-Ok.answer ∷ [] in
    record {
      rotations = c.in-Ok.ensures.rotations ∙ c.loop-message.invariant.rotations;
      most = c.in_default-keep.ensures.most ∙ c.loop-message.invariant.most;
      below = λ few. omega (arith, kept.2, c.loop-message.invariant.most);
      freed = c.in-Ok.ensures.freed ∙ c.loop-message.invariant.freed;
      rest = c.in-Ok.ensures.rest ∙ c.loop-message.invariant.rest;
      run = (
        answers,
        kept.1 ∙ ap (λ (l : List Entry). l ++ c.in-Ok.answer ∷ []) past.1 ∙ append_assoc c.args.context.now.hold.answers.items past.0 (c.in-Ok.answer ∷ []),
        run_more (IsPublished (λ s. s.count) g.L.Run.opening) g.W.Words.draws c.args.context.now.posts.conn c.args.context.now.posts.now c.args.messages.now.items
            (inside c.args.self.now.hub c.args.self.now.waits c.args.self.now.held.items c.args.seat.now c.args.context.now.told) c.args.words.now past.0 c.loop-message.messages.items c.in-Some.message c.pop_front.new.self.items
            (inside c.loop-message.self.hub c.loop-message.self.waits c.loop-message.self.held.items c.loop-message.seat c.loop-message.context.told) c.loop-message.words c.next.result c.next.new.self c.event-event.result c.in-Ok.answer (inside c.step_if.new.self.hub c.step_if.new.self.waits c.step_if.new.self.held.items c.step_if.new.seat c.step_if.new.told)
            c.in-Some.ensures.items c.event-event.ensures past.2 c.next.ensures (record { hub = c.in-Ok.ensures.hub; step = c.in-Ok.ensures.step; guarantee = c.in-Ok.ensures.guarantee; counted = c.in-Ok.ensures.count; number = c.in-Ok.ensures.number; waits = c.in-Ok.ensures.waits; until = c.in-Ok.ensures.until; slow = c.in-Ok.ensures.slow; size = c.in-Ok.ensures.size }) kept.0,
      );
    }

pub returns-clause-run : goal.returns-clause-run
returns-clause-run g c =
    let past = c.loop-message.invariant.run in
    let none : c.loop-message.messages.items ≡ [] = grind (arith, common_steps) in
    let gone : c.pop_front.new.self.items ≡ [] = grind (arith, common_steps) in (
      past.0,
      past.1,
      run_all (IsPublished (λ s. s.count) g.L.Run.opening) g.W.Words.draws c.args.context.now.posts.conn c.args.context.now.posts.now c.args.messages.now.items
          (inside c.args.self.now.hub c.args.self.now.waits c.args.self.now.held.items c.args.seat.now c.args.context.now.told) c.args.words.now past.0 c.loop-message.messages.items c.pop_front.new.self.items
          (inside c.loop-message.self.hub c.loop-message.self.waits c.loop-message.self.held.items c.loop-message.seat c.loop-message.context.told) c.loop-message.words none gone past.2,
    )
