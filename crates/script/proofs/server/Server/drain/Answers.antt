-- the drain is made over the server's own hub
use Rattle.std.proofs.Common.{sym, subst}
use Rattle.script.specs.contracts.server.Server.{the_view}
use Rattle.script.specs.Server.{Serving}
use Rattle.script.specs.Session.{drain_call, IsCall}
use Rattle.session_conn.specs.Calls.{IsDrained}
use Rattle.session_conn.specs.declared.output.Output.{Output}
use Rattle.script.proofs.Calls.{direct_steps, direct_open, hub_of, drained_is}
use Rattle.script.proofs.server.Server.drain.Goals as goal

pub returns-clause-call : goal.returns-clause-call
returns-clause-call c =
    let w : Serving = the_view c.self.inside in
    let new : Serving = record w { hub = c.drain-output.new.port.hub.now } in
    let drained = subst (λ (o : Output). IsDrained direct_steps w.moment c.args.most c.args.conn.now c.new-port.result o c.drain-output.new.self c.drain-output.new.port)
    (sym c.in_ok-output.ensures.0) c.drain-output.ensures.drained in
    subst (λ (was : Serving). IsCall (drain_call was c.args.conn.now c.args.most) c.in_ok-output.output c.drain-output.new.self new) c.self.view_is
    (drained_is direct_steps hub_of direct_open w c.args.most c.args.conn.now c.new-port.result c.in_ok-output.output c.drain-output.new.self c.drain-output.new.port
    drained c.in_ok-output.ensures.1 c.new-port.ensures.hub)
