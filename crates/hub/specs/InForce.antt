-- What the guarantee says of a reload, in terms of the policy that comes into force (docs/GUARANTEE.md, "The guarantee").
use Rattle.std.specs.Prelude.{◌≡◌, ◌==◌, ◌+◌, ◌<◌, ◌&&◌, ℕ, List, Bool, false, Option, Some, None, if◌then◌else◌, filter, map, not, is_some, nat_eq, All, AllPairs, IfSome}
use Rattle.std.specs.List.{filter_map, list_any}
use Rattle.std.specs.Cmp.Lexicographic.{pointwise}
use Rattle.policy_doc.specs.declared.document.PolicyDoc.{PolicyDoc}
use Rattle.permissions.specs.Verdicts.{subscribe_verdict, is_allowed, IsJustifiedSubscribe}
use Rattle.policy_ready.specs.Users.{user_named}
use Rattle.policy_ready.specs.declared.ready.User.{User}
use Rattle.events.specs.declared.event.Command.{Command}
use Rattle.events.specs.declared.event.Command.TheVariants.{Connect, Sub, Unsub, Pub, Take, Close, Reload}
use Rattle.events.specs.declared.answer.Removed.{Removed}
use Rattle.world_sessions.specs.deliveries.Sessions.{session_of}
use Rattle.world_sessions.specs.Renewal.{with_user}
use Rattle.world_sessions.specs.declared.deliveries.session.Session.{Session}
use Rattle.world_rows.specs.declared.subscription.Subscription.{Subscription}
use Rattle.service_routes.specs.Routes.{kept, pruned}
use Rattle.service_routes.specs.service_rows.Rows.{renewed}
use Rattle.world.specs.World.{World}
use Rattle.world.specs.Reload.{removed_by}
use Rattle.hub.specs.Sound.{user_at, may_subscribe}

-- the policy in force after a command: a reload brings its own, and nothing else changes it
abbrev pub policy_after : World → Command → PolicyDoc
policy_after w (Connect conn name password echo) = w.policy
policy_after w (Sub conn p queue sid) = w.policy
policy_after w (Unsub conn sid most) = w.policy
policy_after w (Pub conn m word) = w.policy
policy_after w (Take conn most) = w.policy
policy_after w (Close conn) = w.policy
policy_after w (Reload doc) = doc

-- the epoch after a command: a reload begins the next one
abbrev pub epoch_after : World → Command → ℕ
epoch_after w (Connect conn name password echo) = w.epoch
epoch_after w (Sub conn p queue sid) = w.epoch
epoch_after w (Unsub conn sid most) = w.epoch
epoch_after w (Pub conn m word) = w.epoch
epoch_after w (Take conn most) = w.epoch
epoch_after w (Close conn) = w.epoch
epoch_after w (Reload doc) = w.epoch + 1

-- whether a session may go on for the user that the policy has under the name of its own: password and account are
-- as they were
abbrev pub goes_on_for : Session → Option User → Bool
goes_on_for z None = false
goes_on_for z (Some u) = pointwise nat_eq u.password z.user.password && pointwise nat_eq u.account z.user.account

abbrev pub goes_on : PolicyDoc → Session → Bool
goes_on doc z = goes_on_for z (user_named doc z.user.user)

-- the session for the user as the policy has it; what waits in its outbox, and whether a delivery was missed, stay. Of its
-- grants those stay that are live at the moment on the terms before and on those that the user has now; without terms
-- none does
abbrev pub under : ℕ → PolicyDoc → Session → Session
under now doc z = with_user now z (user_named doc z.user.user)

-- what is reported of a subscription: nothing where no session has it any more, or its user may have it; else its
-- removal by the verdict
abbrev pub removal_for : Subscription → Option User → Option Removed
removal_for sub None = None
removal_for sub (Some u) =
    if is_allowed (subscribe_verdict u.rules sub.subject sub.queue) then None else Some (removed_by sub (subscribe_verdict u.rules sub.subject sub.queue))

-- A policy that has come into force.
pub record IsInForce (w : World) (now : ℕ) (doc : PolicyDoc) (closed : List ℕ) (lost : List Removed) (after : World) : Type 0 where
  -- the sessions stay whose user the policy has under the same name, with the same password and account; no other
  -- does, and nothing changes but their users' permissions and what grants go with these
  pub stay : after.sessions ≡ map (under now doc) (filter (goes_on doc) w.sessions)
  -- those reported gone are the connections that had a session and have none now, each once, the least first
  pub rising : AllPairs (λ (m n : ℕ). m < n) closed
  pub gone : (conn : ℕ) → list_any (λ (n : ℕ). n == conn) closed ≡ (is_some (session_of w.sessions conn) && not (is_some (session_of after.sessions conn)))
  -- the subscriptions stand on that the policy lets their connections' users have
  pub standing : after.subscriptions ≡ filter (λ (sub : Subscription). may_subscribe (user_at after sub.conn) sub.subject sub.queue) w.subscriptions
  -- those reported removed are the others of the sessions that stay, oldest first, each by its verdict
  pub removed : lost ≡ filter_map (λ (sub : Subscription). removal_for sub (user_at after sub.conn)) w.subscriptions
  -- of the response routes that live those stand whose row the policy has again, on the terms that it has there, as long as
  -- they live on these
  pub routes : after.routes ≡ pruned now (kept (renewed w.policy doc) (pruned now w.routes))
  -- and each verdict has its reason, as a denial has
  pub reasons : All (λ (sub : Subscription). IfSome (user_at after sub.conn) (λ (u : User). IsJustifiedSubscribe sub.subject sub.queue u.rules.subscribe (subscribe_verdict u.rules sub.subject sub.queue))) w.subscriptions
