use Rattle.std.proofs.Common.{◌≡◌, Option, Some, Ok, ap, sym, subst}
use Rattle.policy_doc.specs.declared.document.PolicyDoc.{PolicyDoc}
use Rattle.events.specs.declared.event.Command.TheVariants.{Reload}
use Rattle.events.specs.declared.answer.Entry.{Entry}
use Rattle.hub.specs.History.{State, stepped}
use Rattle.script.specs.Server.{Serving, installed, installed_by}
use Rattle.script.specs.contracts.server.Server as server
use Rattle.script.proofs.server.Server.install.Goals as goal

-- a policy that a step has taken is in force
in_force : (policy : PolicyDoc) (w : Serving) (a : Entry) (s : State) → stepped w.hub (record { now = w.moment; what = Reload policy }) ≡ Ok (a, s) →
    ◌≡◌ {A = Option Entry × Serving} (Some a, record w { hub = s }) (installed policy w)
unfolding installed
in_force policy w a s step = ap (installed_by w) (sym step)

pub returns-in-Ok : goal.returns-in-Ok
returns-in-Ok c =
    subst (λ (w : Serving). ◌≡◌ {A = Option Entry × Serving} (Some c.in-Ok.answer, record (server.the_view c.self.inside) { hub = c.step.new.self }) (installed c.args.policy w)) c.self.view_is
    (in_force c.args.policy (server.the_view c.self.inside) c.in-Ok.answer c.step.new.self c.in-Ok.ensures.transition)
