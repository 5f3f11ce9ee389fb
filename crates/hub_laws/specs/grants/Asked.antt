-- What a response route tells of the history (docs/GUARANTEE.md, "Response routes").
use Rattle.std.specs.Prelude.{◌≡◌, ◌<◌, ◌≤◌, ◌∷◌, ◌++◌, ℕ, List, Some, max, IsSomeAnd}
use Rattle.policy_doc.specs.declared.document.PolicyDoc.{PolicyDoc}
use Rattle.events.specs.Messages.{Message}
use Rattle.events.specs.declared.event.Command.TheVariants.{Pub}
use Rattle.events.specs.declared.answer.Entry.{Entry}
use Rattle.world_sessions.specs.deliveries.Sessions.{session_of}
use Rattle.world_sessions.specs.declared.deliveries.session.Session.{Session}
use Rattle.service_exporter.specs.Routes.{Numbered}
use Rattle.service_routes.specs.Routes.{Name, exporter_of}
use Rattle.world.specs.World.{World, opening_world}
use Rattle.hub.specs.History.{IsLegalRun}
use Rattle.hub.specs.Routes.{EachRoute}
use Rattle.hub_laws.specs.grants.Noted.{Step, steps_of}

-- A step has opened a route of an exporter's: for a message that a session of the requester's account has published.
pub record IsOpenedBy (made : Step) (exporter : Name) (r : Numbered) : Type 0 where
  pub conn : ℕ
  pub message : Message
  pub command : made.entry.event.what ≡ Pub conn message r.1.word
  pub session : IsSomeAnd (session_of made.before.sessions conn) (λ (z : Session). z.user.account ≡ r.1.row.importer)
  -- the message wants its response on the reply that the route leads to
  pub reply : message.reply ≡ Some r.1.reply
  -- the route was noted at that moment
  pub noted : r.1.noted ≡ max made.before.moment made.entry.event.now
  -- and its number was given in this step, so in no other
  pub above : (exporter_of exporter made.before.routes).last < r.0
  pub given : r.0 ≤ (exporter_of exporter made.after.routes).last

-- One of the steps has opened it.
pub record IsAsked (steps : List Step) (exporter : Name) (r : Numbered) : Type 0 where
  pub before : List Step
  pub made : Step
  pub since : List Step
  pub all : steps ≡ before ++ made ∷ since
  pub opened : IsOpenedBy made exporter r

-- In every legal run from an opening each response route that stands was opened for such a message.
abbrev pub RoutesAreAsked : Type 0
RoutesAreAsked = (policy : PolicyDoc) (capacity : ℕ) (es : List Entry) (w : World) → IsLegalRun (opening_world policy capacity) es w →
    EachRoute (IsAsked (steps_of (opening_world policy capacity) es)) w.routes
