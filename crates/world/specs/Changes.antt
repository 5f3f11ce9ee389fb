-- What is to be done for a command, once all memory for it is had (docs/ARCHITECTURE.md, "Decide, then do").
use Rattle.std.specs.Prelude.{◌≡◌, ◌==◌, ◌+◌, ◌∷◌, ◌++◌, ℕ, List, [], Option, Some, None, Result, Ok, Err, filter, map, not, false, if◌then◌else◌}
use Rattle.std.specs.List.{filter_map}
use Rattle.events.specs.declared.answer.Outcome.{Outcome}
use Rattle.events.specs.declared.refusal.HubRefusal.{HubRefusal}
use Rattle.world_sessions.specs.deliveries.Sessions.{session_of, with_session, drained}
use Rattle.world_sessions.specs.Renewal.{remaining, user_again_of}
use Rattle.world_sessions.specs.declared.deliveries.session.Session.{Session}
use Rattle.world_subscriptions.specs.Subscriptions.{stands, subscription_of}
use Rattle.world_subscriptions.specs.Limit.{unended, limited}
use Rattle.world_rows.specs.declared.subscription.Subscription.{Subscription}
use Rattle.receivers.specs.views.Marked.{AreMarked}
use Rattle.world_routing.specs.World.{World}
pub use Rattle.world_sessions.specs.leniency.Items.{items_in}
use Rattle.world_routing.specs.Handing.{met, carried, of_deliveries}
use Rattle.world_routing.specs.Changing.{changed_by, AreNoted}
use Rattle.service_routes.specs.Routes.{kept, pruned}
use Rattle.service_routes.specs.service_rows.Rows.{renewed}
use Rattle.policy_doc.specs.declared.document.PolicyDoc.{PolicyDoc}
use Rattle.world.specs.Reload.{stands_on}
use Rattle.world.specs.Transition.{IsRefusal}
use Rattle.world.specs.declared.change.Change.{Change}
use Rattle.world.specs.declared.change.Change.TheVariants.{Nothing, Open, Stand, Limit, Deliver, Route, Drain, Leave, Install}
use Rattle.world.specs.declared.change.Decided.{Decided}

-- the world at its moment: routes that don't live at it are gone
abbrev pub pruned_world : World → World
pruned_world w = record w { routes = pruned w.moment w.routes }

-- with another moment, and the routes that were seen
abbrev pub at_moment : ℕ → World → World
at_moment moment w = record w { moment = moment }

-- the id of a subscription that doesn't stand on
abbrev pub lost_id : PolicyDoc → List Session → Subscription → Option ℕ
lost_id doc zs sub = if stands_on doc zs sub then None else Some sub.id

abbrev pub done : World → Change → Outcome → World
done w Nothing o = w
done w (Open z) o = record w { sessions = w.sessions ++ z ∷ [] }
done w (Stand a) o = record w { subscriptions = w.subscriptions ++ subscription_of (w.number + 1) a.conn a.account a.subject a.queue a.sid ∷ [] }
done w (Limit conn sid most) o = record w { subscriptions = unended (map (limited conn sid most) w.subscriptions) }
done w (Deliver ds) o = carried w ds.answered ds.all (items_in o)
done w (Route r) o = record (carried w r.deliveries.answered r.deliveries.all (items_in o)) { routes = changed_by r.routes w.routes }
done w (Drain conn most) o = record w { sessions = with_session (drained most) conn w.sessions }
done w (Leave conn) o =
    record w { sessions = filter (λ (z : Session). not (z.conn == conn)) w.sessions; subscriptions = filter (λ (s : Subscription). not (s.conn == conn)) w.subscriptions }
done w (Install doc users lost marks) o = record w {
  policy = doc;
  epoch = w.epoch + 1;
  sessions = remaining w.moment doc w.sessions;
  subscriptions = filter (stands_on doc w.sessions) w.subscriptions;
  routes = pruned w.moment (kept (renewed w.policy doc) w.routes);
}

-- what opens has no session yet, and what is to stand doesn't; the outcome tells what each delivery meets; a policy comes with the users of the sessions that stay, the ids of the
-- subscriptions that don't stand on, and deny marks by the lists of those users
abbrev pub IsFit : World → Change → Outcome → Type 0
IsFit w Nothing o = Unit {0}
IsFit w (Open z) o = session_of w.sessions z.conn ≡ None
IsFit w (Stand a) o = stands w.subscriptions a.conn a.sid ≡ false
IsFit w (Limit conn sid most) o = Unit {0}
IsFit w (Deliver ds) o = of_deliveries (items_in o) ≡ met w ds.all
IsFit w (Route r) o = (of_deliveries (items_in o) ≡ met w r.deliveries.all) × AreNoted w.moment r.routes
IsFit w (Drain conn most) o = Unit {0}
IsFit w (Leave conn) o = Unit {0}
IsFit w (Install doc users lost marks) o =
    (users.items ≡ filter_map (user_again_of doc) w.sessions)
    × (lost.items ≡ filter_map (lost_id doc w.sessions) w.subscriptions)
    × AreMarked (remaining w.moment doc w.sessions) w.subscriptions marks

-- what a command comes to, or why it is refused
abbrev pub IsDecided : World → Result (Outcome × World) HubRefusal → Result Decided HubRefusal → Type 0
IsDecided w t (Ok d) = (t ≡ Ok (d.outcome, done w d.change d.outcome)) × IsFit w d.change d.outcome
IsDecided w t (Err r) = IsRefusal t r

-- which policy is in force once a change is done
abbrev pub epoch_after : ℕ → Change → ℕ
epoch_after epoch (Install doc users lost marks) = epoch + 1
epoch_after epoch _ = epoch
