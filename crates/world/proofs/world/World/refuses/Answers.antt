-- a refusal is the same with its number
use Rattle.std.proofs.Common.{◌≡◌, ◌∙◌, ◌+◌, sym, subst}
use Rattle.policy_ready.specs.Users.{user_with_password}
use Rattle.events.specs.declared.event.Command.{Command}
use Rattle.world_routing.specs.World.{World, advanced}
use Rattle.world.specs.Transition.{connected, moved, numbered, refusal_in}
use Rattle.world.proofs.Applied.{numbered_refusal}
use Rattle.world.proofs.world.World.refuses.Goals as goal

pub returns-in-Connect : goal.returns-in-Connect
returns-in-Connect c =
    let w : World = c.args.self.now in
    let e = c.args.event.now in
    let P : Command → Type 0 = λ what. c.refuses_connect.result ≡ refusal_in (numbered (w.number + 1) (moved (advanced w e.now) what)) in
    subst P (sym c.in-Connect.is)
    (sym (c.refuses_connect.ensures e.now (connected (advanced w e.now) c.in-Connect.conn c.in-Connect.echo (user_with_password w.policy c.in-Connect.user c.in-Connect.password)))
    ∙ sym (numbered_refusal (w.number + 1) _))
