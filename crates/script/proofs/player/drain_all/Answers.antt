-- each connection is drained in turn
use Rattle.std.proofs.Common.{arith, ◌∙◌, ◌<◌, ◌≤◌, length}
use Rattle.std.proofs.lemmas.List.{length-set}
use Rattle.script.specs.Play.{drained}
use Rattle.script.proofs.Drains.{draining_more, draining_full, draining_done}
use Rattle.script.proofs.Takes.{IsClientEffect-same}
use Rattle.script.proofs.player.drain_all.Goals as goal

pub returns-then-branch : goal.returns-then-branch
returns-then-branch c =
    let within : c.draining.client-index < length c.draining.clients = omega arith in
    draining_full c.draining.clients c.draining.client-index c.client-item.result c.drain.new.self c.draining.server c.drain.new.server c.draining.out.items c.drain.new.out.items c.args.out.now.items (drained c.args.clients.now c.args.server.now)
    within (IsClientEffect-same _ _ _ _ _ _ _ c.if-branch.true c.in_ok-drain.ensures.effect) c.draining.invariant.leads

pub draining-preserved : goal.draining-preserved
draining-preserved c =
    let within : c.draining.client-index < length c.draining.clients = omega arith in
    record {
      leads =
          draining_more c.draining.clients c.draining.client-index c.client-item.result c.drain.new.self c.draining.server c.drain.new.server c.draining.out.items c.drain.new.out.items c.args.out.now.items (drained c.args.clients.now c.args.server.now)
          within (IsClientEffect-same _ _ _ _ _ _ _ c.if-branch.false c.in_ok-drain.ensures.effect) c.draining.invariant.leads;
      len = length-set _ _ _ ∙ c.draining.invariant.len;
    }

pub returns : goal.returns
returns c =
    let past : length c.draining.clients ≤ c.draining.client-index = omega arith in
    draining_done c.draining.clients c.draining.client-index c.draining.server c.draining.out.items c.args.out.now.items (drained c.args.clients.now c.args.server.now) past c.draining.invariant.leads
