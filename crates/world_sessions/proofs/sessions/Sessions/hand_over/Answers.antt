-- the session at the place of the connection is offered the delivery
use Rattle.std.proofs.Common.{◌∙◌, ap}
use Rattle.world_sessions.specs.deliveries.Delivered.{offered}
use Rattle.world_sessions.specs.Renewal.{connection_of}
use Rattle.world_sessions.proofs.Keys.{written_keys, written_there}
use Rattle.world_sessions.proofs.deliveries.Changes.{offered-conn}
use Rattle.world_sessions.proofs.sessions.Sessions.hand_over.Goals as goal

pub invariant_of-self : goal.invariant_of-self
invariant_of-self c =
    let z = c.index_mut.result.now in
    written_keys c.self.inside.conns c.self.inside.rooms.items c.self.inside.list.items c.in-Some.place z c.offer.new.self c.self.invariant.0 c.self.invariant.1 c.index_mut.ensures.value
    (ap connection_of c.offer.ensures ∙ offered-conn c.args.next.delivery c.args.next.noted c.args.now z)

pub returns-in-Some : goal.returns-in-Some
returns-in-Some c =
    written_there (offered c.args.next.delivery c.args.next.noted c.args.now) c.args.next.conn c.self.inside.list.items c.args.self.now c.in-Some.place c.index_mut.result.now c.offer.new.self c.self.view_is c.in-Some.ensures c.index_mut.ensures.value c.offer.ensures
