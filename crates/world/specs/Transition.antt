-- The transition: what one event makes of the world (docs/GUARANTEE.md, "The step").
use Rattle.std.specs.Prelude.{◌==◌, ◌+◌, ◌∷◌, ◌++◌, ◌≡◌, ℕ, List, [], Bool, Option, Some, None, Result, Ok, Err, if◌then◌else◌, filter, map, not, length, nat_le, take, IfSome}
use Rattle.subjects.specs.Subject.{Token}
use Rattle.permissions.specs.Verdicts.{publish_verdict, subscribe_verdict, IsJustifiedPublish, IsJustifiedSubscribe}
use Rattle.permissions.specs.declared.verdict.Verdict.{Verdict}
use Rattle.permissions.specs.declared.verdict.Verdict.TheVariants.{Allowed, DeniedBy, NoAllow, NoQueueAllow}
use Rattle.policy_ready.specs.Users.{user_with_password}
use Rattle.policy_ready.specs.declared.ready.User.{User}
use Rattle.events.specs.declared.event.Event.{Event}
use Rattle.events.specs.declared.event.Command.{Command}
use Rattle.events.specs.declared.event.Command.TheVariants.{Connect, Sub, Unsub, Pub, Take, Close, Reload}
use Rattle.events.specs.declared.answer.Entry.{Entry}
use Rattle.events.specs.declared.answer.Outcome.{Outcome}
use Rattle.events.specs.declared.answer.Outcome.TheVariants.{Connected, AuthViolation, Subscribed, SameSid, SubLimit, Denied, Unsubscribed, Taken, Closed, Reloaded}
use Rattle.events.specs.declared.refusal.HubRefusal.{HubRefusal}
use Rattle.events.specs.declared.refusal.HubRefusal.TheVariants.{SessionTaken, SessionLimit}
use Rattle.world_sessions.specs.deliveries.Sessions.{session_of, with_session, new_session, drained}
use Rattle.world_sessions.specs.declared.deliveries.session.Session.{Session}
use Rattle.world_subscriptions.specs.Subscriptions.{stands, has_all, subscription_of}
use Rattle.world_subscriptions.specs.Limit.{unended, limited}
use Rattle.world_rows.specs.declared.subscription.Subscription.{Subscription}
use Rattle.world_routing.specs.World.{World, advanced}
pub use Rattle.world_routing.specs.Publishing.{seen_as, seen_nowhere, sent_on, mapped_to, published, in_session, published_by, IsRefusal}
use Rattle.world.specs.Reload.{reloaded, IsReasonedReload}

-- a session with an empty outbox, where a user has that name and password
abbrev pub connected : World → ℕ → Bool → Option User → Outcome × World
connected w conn echo None = (AuthViolation, w)
connected w conn echo (Some u) =
    (Connected, record w { sessions = w.sessions ++ new_session conn u echo w.capacity ∷ [] })

-- the verdict first, then whether the id is taken, then whether the connection has all that it may have
abbrev pub subscribed : World → ℕ → List ℕ → List Token → Option (List Token) → List ℕ → Verdict → Outcome × World
subscribed w conn account p queue sid (Allowed by) =
    if stands w.subscriptions conn sid then (SameSid, w)
    else if has_all w.subscriptions conn then (SubLimit, w)
    else (Subscribed, record w { subscriptions = w.subscriptions ++ subscription_of (w.number + 1) conn account p queue sid ∷ [] })
subscribed w conn account p queue sid (DeniedBy i) = (Denied (DeniedBy i), w)
subscribed w conn account p queue sid NoAllow = (Denied NoAllow, w)
subscribed w conn account p queue sid (NoQueueAllow i) = (Denied (NoQueueAllow i), w)

-- a subscription takes a limit, and ends where it has reached it; an id that none has changes nothing
abbrev pub unsubscribed : World → ℕ → List ℕ → Option ℕ → Outcome × World
unsubscribed w conn sid most =
    (Unsubscribed, record w { subscriptions = unended (map (limited conn sid most) w.subscriptions) })

-- the oldest deliveries of a session, and whether one was missed since the last Take
abbrev pub taken : World → ℕ → ℕ → Session → Outcome × World
taken w conn most z = (Taken (take most z.outbox.waiting) z.missed, record w { sessions = with_session (drained most) conn w.sessions })

-- the session goes, with its outbox and its subscriptions
abbrev pub closed : World → ℕ → Outcome × World
closed w conn =
    (Closed, record w { sessions = filter (λ (z : Session). not (z.conn == conn)) w.sessions; subscriptions = filter (λ (s : Subscription). not (s.conn == conn)) w.subscriptions })

-- a Connect of a connection without a session, while there is room for one more: 4,096 may stand
abbrev pub in_new_session : World → Option Session → Outcome × World → Result (Outcome × World) HubRefusal
in_new_session w (Some z) _ = Err SessionTaken
in_new_session w None r = if nat_le 4096 (length w.sessions) then Err SessionLimit else Ok r

-- what a command makes of the world, or why it is refused
abbrev pub moved : World → Command → Result (Outcome × World) HubRefusal
moved w (Connect conn user password echo) =
    in_new_session w (session_of w.sessions conn) (connected w conn echo (user_with_password w.policy user password))
moved w (Sub conn p queue sid) =
    in_session (session_of w.sessions conn) (λ z. subscribed w conn z.user.account p queue sid (subscribe_verdict z.user.rules p queue))
moved w (Unsub conn sid most) = in_session (session_of w.sessions conn) (λ z. unsubscribed w conn sid most)
moved w (Pub conn m word) = published_by w conn m word
moved w (Take conn most) = in_session (session_of w.sessions conn) (taken w conn most)
moved w (Close conn) = in_session (session_of w.sessions conn) (λ z. closed w conn)
moved w (Reload doc) = Ok (reloaded w doc)

-- each step raises the number by one
abbrev pub numbered : ℕ → Result (Outcome × World) HubRefusal → Result (Outcome × World) HubRefusal
numbered n (Ok r) = Ok (r.0, record r.1 { number = n })
numbered n (Err e) = Err e

-- the transition: outcome and world after, or the refusal
abbrev pub transition : World → Event → Result (Outcome × World) HubRefusal
transition w e = numbered (w.number + 1) (moved (advanced w e.now) e.what)

-- ---- what is told of an event

-- the entry of an event: its outcome, with the number and the epoch of the world after it
abbrev pub entry_with : ℕ → ℕ → Outcome → Event → Entry
entry_with number epoch o e = record { number = number; epoch = epoch; outcome = o; event = e }

abbrev pub entry_of : Outcome → World → Event → Entry
entry_of o after e = entry_with after.number after.epoch o e

-- why the transition refuses an event, if it does
abbrev pub refusal_in : {R : Type 0} → Result R HubRefusal → Option HubRefusal
refusal_in (Ok _) = None
refusal_in (Err e) = Some e

-- What a step answered and left: the event's entry, twice, and the world after it; or a refusal that changes nothing.
abbrev pub IsApplied : World → Event → Result (Entry × Entry) HubRefusal → World → Type 0
IsApplied w e (Ok both) after =
    (transition w e ≡ Ok (both.0.outcome, after)) × (both.0 ≡ entry_of both.0.outcome after e) × (both.1 ≡ both.0)
IsApplied w e (Err r) after = (after ≡ w) × IsRefusal (transition w e) r

-- The same before the number has risen: what the command makes of the world, with the entry of the next number.
abbrev pub IsMoved : World → Event → Result (Entry × Entry) HubRefusal → World → Type 0
IsMoved w e (Ok both) after =
    (moved w e.what ≡ Ok (both.0.outcome, after)) × (both.0 ≡ entry_with (w.number + 1) after.epoch both.0.outcome e) × (both.1 ≡ both.0)
IsMoved w e (Err r) after = (after ≡ w) × IsRefusal (moved w e.what) r

-- ---- reasons

-- The verdict on what a session asks for has its reason in the lists of its user, whether it is allowed or denied: each
-- deny entry lacks some of what was asked, or the least that has all of it is named; and so on of the allow list. So
-- have those of a reload, whose policy is valid.
abbrev pub IsReasoned : World → Command → Outcome → Type 0
IsReasoned w (Sub conn p queue sid) o =
    IfSome (session_of w.sessions conn) (λ (z : Session). IsJustifiedSubscribe p queue z.user.rules.subscribe (subscribe_verdict z.user.rules p queue))
IsReasoned w (Pub conn m word) o =
    IfSome (session_of w.sessions conn) (λ (z : Session). IsJustifiedPublish m.subject z.user.rules.publish (publish_verdict z.user.rules m.subject))
IsReasoned w (Reload doc) (Reloaded gone removed) = IsReasonedReload doc w.sessions w.subscriptions
IsReasoned w command outcome = Unit {0}
