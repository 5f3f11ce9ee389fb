-- What a grant tells of the history (docs/GUARANTEE.md, "Reply grants: the law").
use Rattle.std.specs.Prelude.{◌≡◌, ◌==◌, ◌&&◌, ◌^◌, ◌-◌, ◌<◌, ◌≤◌, ◌∷◌, ◌++◌, ℕ, List, [], Bool, true, false, Option, Some, None, filter, length, drop, min, max, not, is_some, All, IfSome, IsSomeAnd}
use Rattle.std.specs.List.{list_any}
use Rattle.subjects.specs.Subject.{Token}
use Rattle.subjects.specs.Equal.{same_subject}
use Rattle.policy_doc.specs.declared.document.PolicyDoc.{PolicyDoc}
use Rattle.policy_doc.specs.declared.permission_doc.document.Terms.{Terms}
use Rattle.reply_grants.specs.Grants.{Grant}
use Rattle.reply_grants.specs.Replies.{grants_of}
use Rattle.events.specs.declared.event.Command.{Command}
use Rattle.events.specs.declared.event.Command.TheVariants.{Pub, Close, Reload}
use Rattle.events.specs.declared.answer.Delivery.{Delivery}
use Rattle.events.specs.declared.answer.Item.{Item}
use Rattle.events.specs.declared.answer.Entry.{Entry}
use Rattle.events.specs.declared.answer.Outcome.{Outcome}
use Rattle.events.specs.declared.answer.Outcome.TheVariants.{Published, Closed, Reloaded}
use Rattle.world_sessions.specs.deliveries.Sessions.{session_of}
use Rattle.world_sessions.specs.declared.deliveries.session.Session.{Session}
use Rattle.policy_ready.specs.imports.Across.{views}
use Rattle.policy_ready.specs.declared.imports.view.ViewItem.{ViewItem}
use Rattle.policy_ready.specs.declared.imports.view.ViewItem.TheVariants.{At, TooLong}
use Rattle.policy_ready.specs.declared.imports.view.Way.TheVariants.{Own, Stream, Service, Response}
use Rattle.service_routes.specs.Routes.{pruned}
use Rattle.world.specs.Routing.{responses_on as on_routes}
use Rattle.world.specs.World.{World, opening_world}
use Rattle.world.specs.Transition.{sent_on, transition}
use Rattle.account_mappings.specs.Drawing.{mapped_by}
use Rattle.events.specs.Messages.{Message}
use Rattle.hub.specs.Counts.{items_told}
use Rattle.hub.specs.History.{IsEntry, IsLegalRun}
use Rattle.hub.specs.Items.{DeliveryItem, tells_of}
use Rattle.hub.specs.Replies.{is_by_grant, terms_in, may_respond}
use Rattle.hub.specs.Sound.{user_at}
use Rattle.hub_laws.specs.grants.Dropping.{world_after}

-- ---- the steps of a history

-- an entry, with the worlds before and after it
pub record Step : Type 0 where
  pub before : World
  pub entry : Entry
  pub after : World

abbrev pub step_of : World → Entry → World → Step
step_of w e next = record { before = w; entry = e; after = next }

-- the steps of entries, from a world on
abbrev pub steps_of : World → List Entry → List Step
steps_of w [] = []
steps_of w (e ∷ es) = step_of w e (world_after w (transition w e.event)) ∷ steps_of (world_after w (transition w e.event)) es

-- ---- requests

-- whether a message asks for a response on the subject
abbrev pub is_reply : List Token → Option (List Token) → Bool
is_reply s None = false
is_reply s (Some reply) = same_subject reply s

abbrev pub asks_on : List Token → Delivery → Bool
asks_on s d = is_reply s d.message.reply

-- what waits in the outbox of a session, if there is one
abbrev pub waiting_in : Option Session → List Delivery
waiting_in None = []
waiting_in (Some z) = z.outbox.waiting

-- what stands in the outbox of a connection's session behind what stood there before
abbrev pub entered_between : ℕ → List Session → List Session → List Delivery
entered_between conn before after = drop (length (waiting_in (session_of before conn))) (waiting_in (session_of after conn))

-- the deliveries that have entered for a connection in a step
abbrev pub entered_in : ℕ → Step → List Delivery
entered_in conn step = entered_between conn step.before.sessions step.after.sessions

-- a request: a delivery that asks for a response on the subject has entered for the connection
abbrev pub is_request : ℕ → List Token → Step → Bool
is_request conn s step = list_any (asks_on s) (entered_in conn step)

abbrev pub is_publish : Command → Bool
is_publish (Pub conn m word) = true
is_publish _ = false

-- ---- responses

-- whether a grant has allowed the connection to publish on the subject
abbrev pub responds_by : ℕ → List Token → Command → Outcome → Bool
responds_by conn s (Pub c m word) (Published by items) = is_by_grant by && (conn == c) && same_subject m.subject s
responds_by conn s _ _ = false

-- a response: the connection has published on the subject, by a grant
abbrev pub is_response : ℕ → List Token → Step → Bool
is_response conn s step = responds_by conn s step.entry.event.what step.entry.outcome

-- how many responses of the connection on the subject there are in these steps
abbrev pub responses_on : ℕ → List Token → List Step → ℕ
responses_on conn s steps = length (filter (is_response conn s) steps)

-- ---- ends, and the clock

-- whether the session of the connection has gone, by its Close or by a Reload that reports it gone
abbrev pub ends_for : ℕ → Command → Outcome → Bool
ends_for conn (Close c) Closed = conn == c
ends_for conn (Reload doc) (Reloaded gone removed) = list_any (λ (n : ℕ). n == conn) gone
ends_for conn _ _ = false

-- an end of the connection's session
abbrev pub is_end : ℕ → Step → Bool
is_end conn step = ends_for conn step.entry.event.what step.entry.outcome

-- the latest moment that an event of the steps had, or 0, the moment of an opening
abbrev pub latest : List Step → ℕ
latest [] = 0
latest (step ∷ steps) = max step.entry.event.now (latest steps)

-- ---- the law

-- The last request on a subject for a connection, between the steps before and those since, in which its session has not
-- ended.
pub record IsLastRequest (steps : List Step) (conn : ℕ) (s : List Token) (before : List Step) (made : Step) (since : List Step) : Type 0 where
  pub all : steps ≡ before ++ made ∷ since
  pub request : is_request conn s made ≡ true
  pub last : All (λ (step : Step). is_request conn s step ≡ false) since
  pub session : All (λ (step : Step). is_end conn step ≡ false) since

-- A grant of a connection's session was noted at the last request on its subject, at the moment that the clock had
-- then, and has counted the responses since.
pub record IsNoted (steps : List Step) (conn : ℕ) (g : Grant) : Type 0 where
  pub before : List Step
  pub made : Step
  pub since : List Step
  pub request : IsLastRequest steps conn g.subject before made since
  pub noted : g.noted ≡ latest (before ++ made ∷ [])
  -- the count stays at 2^64 - 1
  pub count : g.count ≡ min (2 ^ 64 - 1) (responses_on conn g.subject since)

-- In every legal run from an opening each grant of each session was noted so.
abbrev pub AreNoted : Type 0
AreNoted = (policy : PolicyDoc) (capacity : ℕ) (es : List Entry) (w : World) → IsLegalRun (opening_world policy capacity) es w →
    All (λ (z : Session). All (IsNoted (steps_of (opening_world policy capacity) es) z.conn) (grants_of z.replies)) w.sessions

-- A request stands open at a moment, on these terms: fewer responses have passed since than may, and it isn't older than
-- it may be.
pub record IsOpenRequest (steps : List Step) (now conn : ℕ) (s : List Token) (terms : Terms) : Type 0 where
  pub before : List Step
  pub made : Step
  pub since : List Step
  pub request : IsLastRequest steps conn s before made since
  -- of more than 2^64 - 1 responses that many are counted
  pub responses : IfSome terms.max (λ (most : ℕ). min (2 ^ 64 - 1) (responses_on conn s since) < most)
  pub age : IfSome terms.expires (λ (limit : ℕ). now - latest (before ++ made ∷ []) ≤ limit)

-- So whoever may respond has an open request, on the terms that its user has in the policy in force.
abbrev pub MayRespondHasRequest : Type 0
MayRespondHasRequest = (policy : PolicyDoc) (capacity : ℕ) (es : List Entry) (w : World) → IsLegalRun (opening_world policy capacity) es w →
    (now conn : ℕ) (s : List Token) → may_respond w now conn s ≡ true → IsSomeAnd (terms_in (user_at w conn)) (IsOpenRequest (steps_of (opening_world policy capacity) es) now conn s)

-- on what terms the user of a session may respond
abbrev pub terms_at : Option Session → Option Terms
terms_at None = None
terms_at (Some z) = z.user.rules.allow_responses

-- And each response had an open request at its own moment, on the terms of its session's user.
abbrev pub ResponseHasRequest : Type 0
ResponseHasRequest = (policy : PolicyDoc) (capacity : ℕ) (es : List Entry) (w : World) → IsLegalRun (opening_world policy capacity) es w →
    (a : Entry) (next : World) → IsEntry w a next → (conn : ℕ) (s : List Token) → is_response conn s (step_of w a next) ≡ true →
    IsSomeAnd (terms_at (session_of w.sessions conn)) (IsOpenRequest (steps_of (opening_world policy capacity) es) next.moment conn s)

-- No command but a publish brings a delivery into an outbox, so each request is a message that was published.
abbrev pub RequestsArePublished : Type 0
RequestsArePublished = (policy : PolicyDoc) (capacity : ℕ) (es : List Entry) (w : World) → IsLegalRun (opening_world policy capacity) es w →
    All (λ (step : Step). (conn : ℕ) (s : List Token) → is_request conn s step ≡ true → is_publish step.entry.event.what ≡ true) (steps_of (opening_world policy capacity) es)

-- ---- requests, as entries tell them

-- whether a message with this reply is published
abbrev pub publishes_with : List Token → Command → Bool
publishes_with s (Pub conn m word) = is_reply s m.reply
publishes_with s _ = false

-- whether a delivery has entered for the connection
abbrev pub is_entered_at : ℕ → Item → Bool
is_entered_at conn item = tells_of (λ (d : DeliveryItem). d.entered && (d.conn == conn)) item

-- an entry tells a request: a message that asks for a response on the subject is published, and has entered for the connection
abbrev pub tells_request : ℕ → List Token → Entry → Bool
tells_request conn s e = publishes_with s e.event.what && list_any (is_entered_at conn) (items_told e)

-- whether a message with this reply, or with none, has it in a view. A request that wants a response has the subject of a response
-- route in its place, and a response has none.
abbrev pub has_own_reply : Option (List Token) → ViewItem → Bool
has_own_reply reply (At account s Own) = true
has_own_reply reply (At account s (Stream row)) = true
has_own_reply reply (At account s (Service row)) = not (is_some reply)
has_own_reply reply (At account s (Response row)) = not (is_some reply)
has_own_reply reply (TooLong row) = true

-- a message that is published, at a moment, has its own reply in all its views, as it is sent on
abbrev pub HasOwnReplies : World → ℕ → Command → Type 0
HasOwnReplies w now (Pub conn m word) =
    IfSome (session_of w.sessions conn) (λ (z : Session). IfSome (sent_on (mapped_by z.user.mappings m.subject word) m) (λ (sent : Message).
    All (λ v. has_own_reply m.reply v ≡ true) (views w.policy z.user.account sent.subject (on_routes (pruned now w.routes) z.user.account sent.subject))))
HasOwnReplies w now _ = Unit {0}

-- Of steps whose message has in every view the reply that it was published with, the requests are those that their entries tell.
abbrev pub RequestsAreTold : Type 0
RequestsAreTold = (policy : PolicyDoc) (capacity : ℕ) (es : List Entry) (w : World) → IsLegalRun (opening_world policy capacity) es w →
    All (λ (step : Step). HasOwnReplies step.before (max step.before.moment step.entry.event.now) step.entry.event.what → (conn : ℕ) (s : List Token) → is_request conn s step ≡ tells_request conn s step.entry)
    (steps_of (opening_world policy capacity) es)
