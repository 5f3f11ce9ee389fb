-- what the desk tells of an offer, as far as the seat knows it
use Rattle.shared_hub.specs.desk.Publishing.{inside}
use Rattle.shared_hub.proofs.Offered.{offered_by, told_by}
use Rattle.shared_hub.proofs.shared_hub.SharedHub.offer.Goals as goal

pub returns-clause-offered : goal.returns-clause-offered
returns-clause-offered g c =
    let had = c.deref_mut.result.now in
    let has = c.step_if.new.self in
    offered_by (λ s. s.count) g.L.Run.opening (inside had.hub had.waits had.held.items c.args.seat.now c.args.told.now) c.args.event c.step_if.result
    (inside has.hub has.waits has.held.items c.step_if.new.seat c.step_if.new.told)
    record {
      hub = c.step_if.ensures.hub;
      step = c.step_if.ensures.step;
      guarantee = c.step_if.ensures.guarantee;
      counted = c.step_if.ensures.count;
      number = c.step_if.ensures.number;
      waits = c.step_if.ensures.waits;
      until = c.step_if.ensures.until;
      slow = c.step_if.ensures.slow;
      size = c.step_if.ensures.size;
    }

pub returns-clause-told : goal.returns-clause-told
returns-clause-told g c =
    let had = c.deref_mut.result.now in
    let has = c.step_if.new.self in
    told_by (λ s. s.count) g.L.Run.opening (inside had.hub had.waits had.held.items c.args.seat.now c.args.told.now) c.args.event c.step_if.result
    (inside has.hub has.waits has.held.items c.step_if.new.seat c.step_if.new.told)
    record {
      hub = c.step_if.ensures.hub;
      step = c.step_if.ensures.step;
      guarantee = c.step_if.ensures.guarantee;
      counted = c.step_if.ensures.count;
      number = c.step_if.ensures.number;
      waits = c.step_if.ensures.waits;
      until = c.step_if.ensures.until;
      slow = c.step_if.ensures.slow;
      size = c.step_if.ensures.size;
    }
