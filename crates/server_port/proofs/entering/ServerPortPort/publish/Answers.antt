-- each hold goes on behind those before it
use Rattle.std.proofs.Common.{◌≡◌, ◌≢◌, ◌∙◌, ◌<◌, ◌+◌, [], ap, length, refl, subst, sym, arith}
use Rattle.std.proofs.lemmas.Grind.{common_steps}
use Rattle.events.specs.declared.run.RunEnd.TheVariants as run
use Rattle.shared_waits.proofs.runs.Runs.{completes_none, nearer}
use Rattle.shared_hub.specs.Entering.{IsOfferedBy, IsPostedBy}
use Rattle.server_port.specs.Holds.{AreHoldsPassed, IsWhy, held_back}
use Rattle.worker_port.specs.declared.course.Why.TheVariants.{Share}
use Rattle.server_port.proofs.Holds.{held_counts, notes_further, notes_none, passes_further, passes_last, passes_none, was_asked}
use Rattle.server_port.proofs.SeatRuns.{completes_on}
use Rattle.server_port.proofs.Whys.{goes_why}
use Rattle.server_port.proofs.entering.ServerPortPort.publish.Goals as goal

pub loop-posts-init : goal.loop-posts-init
loop-posts-init g c = record { posted = λ end rest p' w' h. h; noted = λ end rest p' w' d h. h; rotations = omega arith; why = refl; points = λ without d v h. h }

pub loop-posts-preserved : goal.loop-posts-preserved
loop-posts-preserved g c =
    let goes = sym (c.goes_on.ensures) ∙ c.if-not-goes_on.false in
    let before = c.loop-posts.self in
    let after = c.publish_some-end.new.self in
    let end = c.publish_some-end.result in
    let left = c.publish_some-end.new.messages.items in
    let some : 0 < length c.loop-posts.messages.items = grind (arith, common_steps) in
    let fewer = nearer (λ old e r new. IsPostedBy g.L.Run.opening old.seat.count e r new.seat.count) (λ old new. new.seat.count ≡ old.seat.count) g.W.Words.draws c.args.conn c.args.now
    c.loop-posts.messages.items before c.loop-posts.words end left after c.publish_some-end.new.words some c.publish_some-end.ensures.posted
    in
    let asked : before.course.share ≢ 0 = λ none. let held = c.publish_some-end.ensures.spent none in was_asked end held.0 goes held.1 in
    record {
      posted = completes_on (λ old e r new. IsPostedBy g.L.Run.opening old.seat.count e r new.seat.count) (λ old new. new.seat.count ≡ old.seat.count) g.W.Words.draws c.args.conn c.args.now c.args.messages.now.items c.args.self.now c.args.words.now
          c.loop-posts.messages.items before c.loop-posts.words end left after c.publish_some-end.new.words
          c.loop-posts.invariant.posted goes c.publish_some-end.ensures.posted;
      noted = notes_further (IsOfferedBy g.L.Run.opening) g.W.Words.draws c.args.conn c.args.now c.args.messages.now.items c.args.self.now.seat.count c.args.words.now c.args.self.now.noted
          c.loop-posts.messages.items before.seat.count c.loop-posts.words before.noted end left after.seat.count c.publish_some-end.new.words after.noted
          c.loop-posts.invariant.noted goes c.publish_some-end.ensures.noted;
      rotations = omega (arith, c.loop-posts.invariant.rotations, c.publish_some-end.ensures.rotations);
      why = goes_why c.publish_some-end.result c.loop-posts.self.course.why c.publish_some-end.new.self.course.why goes c.publish_some-end.ensures.why ∙ c.loop-posts.invariant.why;
      points = passes_further g.G.Gate.passes (length c.args.messages.now.items) (length c.loop-posts.messages.items) (length left) after.course.why end
          c.args.self.now.gate before.gate after.gate c.args.self.now.is_spent before.is_spent after.is_spent
          c.loop-posts.invariant.points goes fewer (c.publish_some-end.ensures.points asked);
    }

pub returns-then-not-goes_on-clause-posted : goal.returns-then-not-goes_on-clause-posted
returns-then-not-goes_on-clause-posted g c =
    c.loop-posts.invariant.posted c.publish_some-end.result c.publish_some-end.new.messages.items c.publish_some-end.new.self c.publish_some-end.new.words c.publish_some-end.ensures.posted

pub returns-then-not-goes_on-clause-noted : goal.returns-then-not-goes_on-clause-noted
returns-then-not-goes_on-clause-noted g c =
    let after = c.publish_some-end.new.self in
    c.loop-posts.invariant.noted c.publish_some-end.result c.publish_some-end.new.messages.items after.seat.count c.publish_some-end.new.words after.noted c.publish_some-end.ensures.noted

pub returns-then-not-goes_on-clause-why : goal.returns-then-not-goes_on-clause-why
returns-then-not-goes_on-clause-why g c =
    subst (λ why. IsWhy c.publish_some-end.result why c.publish_some-end.new.self.course.why) c.loop-posts.invariant.why c.publish_some-end.ensures.why

pub returns-then-not-goes_on-clause-points : goal.returns-then-not-goes_on-clause-points
returns-then-not-goes_on-clause-points g c =
    let before = c.loop-posts.self in
    let after = c.publish_some-end.new.self in
    let end = c.publish_some-end.result in
    let left = c.publish_some-end.new.messages.items in
    let without = held_back after.course.why end + length left in
    c.loop-posts.invariant.points without after.gate after.is_spent
    (passes_last g.G.Gate.passes before.course.share (length c.loop-posts.messages.items) without before.gate after.gate before.is_spent after.is_spent
    (λ none.
    let spent = c.publish_some-end.ensures.spent none in
    let unasked = c.publish_some-end.ensures.unasked none in
    (held_counts after.course.why end c.loop-posts.messages.items left unasked.0 spent.0 Share (ap (λ course. course.why) spent.2) spent.1 unasked.1, unasked.2, unasked.3))
    c.publish_some-end.ensures.points)

pub returns-clause-posted : goal.returns-clause-posted
returns-clause-posted g c =
    let none : c.loop-posts.messages.items ≡ [] = grind (arith, common_steps) in
    completes_none (λ old e r new. IsPostedBy g.L.Run.opening old.seat.count e r new.seat.count) (λ old new. new.seat.count ≡ old.seat.count) g.W.Words.draws c.args.conn c.args.now c.args.messages.now.items c.args.self.now c.args.words.now
    c.loop-posts.messages.items c.loop-posts.self c.loop-posts.words none c.loop-posts.invariant.posted

pub returns-clause-noted : goal.returns-clause-noted
returns-clause-noted g c =
    let none : c.loop-posts.messages.items ≡ [] = grind (arith, common_steps) in
    notes_none (IsOfferedBy g.L.Run.opening) g.W.Words.draws c.args.conn c.args.now c.args.messages.now.items c.args.self.now.seat.count c.args.words.now c.args.self.now.noted
    c.loop-posts.messages.items c.loop-posts.self.seat.count c.loop-posts.words c.loop-posts.self.noted none c.loop-posts.invariant.noted

pub returns-clause-points : goal.returns-clause-points
returns-clause-points g c =
    let all = c.loop-posts.messages.items in
    let last = c.loop-posts.self in
    let without = held_back last.course.why run.Published + length all in
    let same : length all ≡ without = omega arith in
    c.loop-posts.invariant.points without last.gate last.is_spent
    (subst (λ n. AreHoldsPassed g.G.Gate.passes (length all) n last.gate last.is_spent last.gate last.is_spent) same (passes_none g.G.Gate.passes (length all) last.gate last.is_spent))

pub loop-posts-smaller : goal.loop-posts-smaller
loop-posts-smaller g c =
    let some : 0 < length c.loop-posts.messages.items = grind (arith, common_steps) in
    nearer (λ old e r new. IsPostedBy g.L.Run.opening old.seat.count e r new.seat.count) (λ old new. new.seat.count ≡ old.seat.count) g.W.Words.draws c.args.conn c.args.now
    c.loop-posts.messages.items c.loop-posts.self c.loop-posts.words c.publish_some-end.result c.publish_some-end.new.messages.items c.publish_some-end.new.self c.publish_some-end.new.words
    some c.publish_some-end.ensures.posted

pub returns-then-not-goes_on-clause-rotations : goal.returns-then-not-goes_on-clause-rotations
returns-then-not-goes_on-clause-rotations g c = omega (arith, c.loop-posts.invariant.rotations, c.publish_some-end.ensures.rotations)
