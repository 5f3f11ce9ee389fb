-- the session at the place of the connection is responding
use Rattle.std.proofs.Common.{ap}
use Rattle.world_sessions.specs.deliveries.Replying.{responding}
use Rattle.world_sessions.proofs.Keys.{written_keys, written_there}
use Rattle.world_sessions.specs.Renewal.{connection_of}
use Rattle.world_sessions.proofs.sessions.Sessions.spend.Goals as goal

pub invariant_of-self : goal.invariant_of-self
invariant_of-self c = written_keys _ _ _ _ _ _ c.self.invariant.0 c.self.invariant.1 c.index_mut.ensures.value (ap connection_of c.spend.ensures)

pub returns-in-Some : goal.returns-in-Some
returns-in-Some c =
    written_there (responding c.args.subject.now) c.args.conn _ _ _ _ _ c.self.view_is c.in-Some.ensures c.index_mut.ensures.value c.spend.ensures
