-- the call is made over the server's own hub
use Rattle.std.proofs.Common.{sym, subst}
use Rattle.script.specs.contracts.server.Server.{the_view}
use Rattle.script.specs.Server.{Serving, IsNextWord}
use Rattle.script.specs.Session.{bytes_call, IsCall}
use Rattle.session_conn.specs.Calls.{IsServed}
use Rattle.session_conn.specs.declared.output.Output.{Output}
use Rattle.script.proofs.Calls.{direct_steps, direct_open, hub_of, bytes_is}
use Rattle.script.proofs.server.Server.on_bytes.Goals as goal

pub returns-clause-call : goal.returns-clause-call
returns-clause-call c =
    let w : Serving = the_view c.self.inside in
    let new : Serving = record w { hub = c.on_bytes-output.new.port.hub.now; words = c.on_bytes-output.new.words } in
    let served = subst (λ (o : Output). IsServed direct_steps IsNextWord w.moment c.args.bytes.now c.args.conn.now c.new-port.result w.words o c.on_bytes-output.new.self c.on_bytes-output.new.port c.on_bytes-output.new.words)
    (sym c.in_ok-output.ensures.0) c.on_bytes-output.ensures.served in
    subst (λ (was : Serving). IsCall (bytes_call was c.args.conn.now c.args.bytes.now) c.in_ok-output.output c.on_bytes-output.new.self new) c.self.view_is
    (bytes_is direct_steps hub_of direct_open w c.args.bytes.now c.args.conn.now c.new-port.result c.in_ok-output.output c.on_bytes-output.new.self c.on_bytes-output.new.port c.on_bytes-output.new.words
    served c.in_ok-output.ensures.1 c.new-port.ensures.hub)
