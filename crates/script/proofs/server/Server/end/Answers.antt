-- the Close goes to the server's own hub
use Rattle.std.proofs.Common.{sym, subst}
use Rattle.script.specs.contracts.server.Server.{the_view}
use Rattle.script.specs.Server.{Serving}
use Rattle.script.specs.Session.{end_call, IsCall}
use Rattle.session_conn.specs.Calls.{IsEnded}
use Rattle.session_conn.specs.declared.output.Output.{Output}
use Rattle.script.proofs.Calls.{direct_steps, direct_open, hub_of, ended_is}
use Rattle.script.proofs.server.Server.end.Goals as goal

pub returns : goal.returns
returns c =
    let w : Serving = the_view c.self.inside in
    let new : Serving = record w { hub = c.ended-output.new.port.hub.now } in
    let ended = subst (λ (o : Output). IsEnded direct_steps w.moment c.args.conn.now c.new-port.result o c.ended-output.new.self c.ended-output.new.port)
    (sym c.in_ok-output.ensures.0) c.ended-output.ensures.ended in
    subst (λ (was : Serving). IsCall (end_call was c.args.conn.now) c.in_ok-output.output c.ended-output.new.self new) c.self.view_is
    (ended_is direct_steps hub_of direct_open w c.args.conn.now c.new-port.result c.in_ok-output.output c.ended-output.new.self c.ended-output.new.port
    ended c.in_ok-output.ensures.1 c.new-port.ensures.hub)
