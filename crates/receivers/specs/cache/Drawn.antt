-- What a publisher's messages on a subject are sent as, where its account's mappings send them on: said once for all with the same draw.
use Rattle.std.specs.Prelude.{◌≡◌, ℕ, false, List, [], Option, Some, slice_get}
use Rattle.account_mappings.specs.Drawing.{draw_of, mapped_by}
use Rattle.account_mappings.specs.declared.drawing.Mapped.TheVariants.{To}
use Rattle.subjects.specs.Subject.{Token, tokens_of}
use Rattle.policy_ready.specs.imports.Views.{is_route}
use Rattle.policy_ready.specs.declared.imports.rows.ImportRow.{ImportRow}
use Rattle.events.specs.Messages.{Message}
use Rattle.events.specs.declared.answer.Addressed.{Addressed}
use Rattle.world_sessions.specs.deliveries.Sessions.{session_of}
use Rattle.world_sessions.specs.declared.deliveries.session.Session.{Session}
use Rattle.world_rows.specs.declared.subscription.Subscription.{Subscription}
use Rattle.receivers.specs.views.CachedViews.{IsSeen, AreSeen, others_in, addressed_in, addressed_in_each}
use Rattle.receivers.specs.cache.Key.{IsOf}
use Rattle.receivers.specs.declared.cache.drawn.Drawn.{Drawn}
use Rattle.receivers.specs.declared.cache.drawn.DrawnCache.{DrawnCache}

-- the subject under which messages are sent
abbrev pub subject_of : Drawn → List Token
subject_of drawn = drawn.own.names.subject

-- the deliveries of a message that is so sent: first those of its publisher's account
abbrev pub sent_as : Message → ℕ → Drawn → List Addressed
sent_as m word drawn = addressed_in_each m word (addressed_in m word [] drawn.own) drawn.others.items

-- Under its subject, on which no response is awaited, it says whom a publisher's messages are for: in the publisher's account, and
-- in each view behind that.
pub record IsSent (rows : List ImportRow) (zs : List Session) (subs : List Subscription) (publisher : Session) (drawn : Drawn) : Type 0 where
  pub unrouted : is_route (subject_of drawn) ≡ false
  pub own : IsSeen zs subs publisher drawn.own publisher.user.account (subject_of drawn)
  pub others : AreSeen zs subs publisher drawn.others.items (others_in rows publisher.user.account (subject_of drawn))

-- so are a publisher's messages with this text and this draw sent
pub record IsDrawn (rows : List ImportRow) (zs : List Session) (subs : List Subscription) (publisher : Session) (text : List ℕ) (draw : ℕ) (drawn : Drawn) : Type 0 where
  pub mapped : (word : ℕ) → draw_of word ≡ draw → mapped_by publisher.user.mappings (tokens_of text) word ≡ To (subject_of drawn)
  pub sent : IsSent rows zs subs publisher drawn

-- it is cached of a draw
abbrev pub IsCached : List (Option Drawn) → ℕ → Drawn → Type 0
IsCached by_draw draw drawn = slice_get by_draw draw ≡ Some (Some drawn)

-- what is cached of the messages of a connection with a text is so
pub record KnowsDrawn (by_draw : List (Option Drawn)) (rows : List ImportRow) (conn : ℕ) (text : List ℕ) (zs : List Session) (subs : List Subscription) : Type 0 where
  pub each : (draw : ℕ) (drawn : Drawn) → IsCached by_draw draw drawn → (z : Session) → session_of zs conn ≡ Some z → IsDrawn rows zs subs z text draw drawn

-- what a message of the connection on the subject is sent as is cached, and these are its deliveries
pub record TellsDrawn (cache : DrawnCache) (conn : ℕ) (text : List ℕ) (m : Message) (word : ℕ) (all : List Addressed) : Type 0 where
  pub of : IsOf cache.key conn text
  pub drawn : Drawn
  pub cached : IsCached cache.by_draw.items (draw_of word) drawn
  pub deliveries : all ≡ sent_as m word drawn

-- a publisher's message is sent on, and these are its deliveries
pub record IsSentOn (rows : List ImportRow) (zs : List Session) (subs : List Subscription) (publisher : Session) (m : Message) (word : ℕ) (all : List Addressed) : Type 0 where
  pub drawn : Drawn
  pub mapped : mapped_by publisher.user.mappings m.subject word ≡ To (subject_of drawn)
  pub sent : IsSent rows zs subs publisher drawn
  pub deliveries : all ≡ sent_as m word drawn
