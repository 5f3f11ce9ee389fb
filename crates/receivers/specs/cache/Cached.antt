-- The cache of whom the messages of publishers on subjects are for.
use Rattle.std.specs.Prelude.{◌≡◌, ◌⊎◌, ℕ, Bool, true, false, List, [], Option, Some, None, IfSome, map}
use Rattle.std.specs.Global.{Vec}
use Rattle.subjects.specs.Subject.{Token, tokens_of}
use Rattle.policy_ready.specs.imports.Views.{is_route}
use Rattle.policy_ready.specs.declared.imports.rows.ImportRow.{ImportRow}
use Rattle.permissions.specs.Verdicts.{publish_verdict, IsJustifiedPublish}
use Rattle.permissions.specs.declared.verdict.By.{By}
use Rattle.permissions.specs.declared.verdict.By.TheVariants.{All as AllowsAll, Index, Grant}
use Rattle.permissions.specs.declared.verdict.Verdict.TheVariants.{Allowed}
use Rattle.policy_ready.specs.declared.ready.User.{User}
use Rattle.events.specs.Messages.{Message}
use Rattle.events.specs.declared.answer.Addressed.{Addressed}
use Rattle.stores.specs.slot_cache.Slots.{value_at}
use Rattle.world_sessions.specs.deliveries.Sessions.{session_of}
use Rattle.world_sessions.specs.declared.deliveries.session.Session.{Session}
use Rattle.world_rows.specs.declared.subscription.Subscription.{Subscription}
use Rattle.receivers.specs.views.Open.{open_among}
use Rattle.receivers.specs.views.Receivers.{addressed_among, addressed_at}
use Rattle.receivers.specs.views.CachedViews.{KnowsOthers, picked, Says, IsWhom, others_in, AreSeen, addressed_in_each}
use Rattle.receivers.specs.cache.Drawn.{KnowsDrawn}
use Rattle.receivers.specs.declared.cache.cache.ReceiverCache.{ReceiverCache}
use Rattle.receivers.specs.declared.cache.cached.CachedReceivers.{CachedReceivers}
use Rattle.receivers.specs.declared.views.cached_view.CachedView.{CachedView}
use Rattle.receivers.specs.declared.cache.key.CacheKey.{CacheKey}
use Rattle.receivers.specs.declared.views.whom.Whom.{Whom}
use Rattle.receivers.specs.declared.views.whom.Whom.TheVariants.{Various}

-- it says of those that the messages of a connection on a subject may be sent to whom they are for
abbrev pub IsWhomFor : Whom → ℕ → List ℕ → List Session → List Subscription → Type 0
IsWhomFor whom conn text zs subs = (z : Session) → session_of zs conn ≡ Some z → IsWhom whom (open_among zs subs z z.user.account (tokens_of text))

-- where they are said to be known of the messages of a connection on a subject, they are
abbrev pub KnowsOthersFor : Option (Vec CachedView) → List ImportRow → ℕ → List ℕ → List Session → List Subscription → Type 0
KnowsOthersFor None rows conn text zs subs = Unit {0}
KnowsOthersFor (Some known) rows conn text zs subs = (z : Session) → session_of zs conn ≡ Some z → KnowsOthers (Some known) rows zs subs z (tokens_of text)

-- lists allow something, no grant
abbrev pub IsOfLists : By → Type 0
IsOfLists AllowsAll = Unit {0}
IsOfLists (Index i) = Unit {0}
IsOfLists Grant = ⊥

-- Lists allow a user's message on a subject. The user's account has no mappings, and the subject is of no response route.
pub record IsAllowed (u : User) (s : List Token) (by : By) : Type 0 where
  pub lists : IsOfLists by
  pub verdict : publish_verdict u.rules s ≡ Allowed by
  pub justified : IsJustifiedPublish s u.rules.publish (Allowed by)
  pub unmapped : u.mappings ≡ []
  pub unrouted : is_route s ≡ false

-- and it crosses no row: it is seen in the user's account alone
pub record IsAlone (rows : List ImportRow) (u : User) (s : List Token) (by : By) : Type 0 where
  pub allowed : IsAllowed u s by
  pub others : others_in rows u.account s ≡ []

-- so it is with the messages of a connection's session
pub record IsAloneOf (rows : List ImportRow) (zs : List Session) (conn : ℕ) (s : List Token) (by : By) : Type 0 where
  pub publisher : Session
  pub seated : session_of zs conn ≡ Some publisher
  pub alone : IsAlone rows publisher.user s by

-- where it is said of the messages of a connection on a subject, it is so
abbrev pub IsAloneFor : Option By → List ImportRow → ℕ → List ℕ → List Session → Type 0
IsAloneFor None rows conn text zs = Unit {0}
IsAloneFor (Some by) rows conn text zs = IsAloneOf rows zs conn (tokens_of text) by

-- what is cached of the messages of a publisher on a subject is so
abbrev pub IsSo : List ImportRow → List Session → List Subscription → CachedReceivers → Type 0
IsSo rows zs subs cached =
    IsWhomFor cached.whom cached.key.conn cached.key.subject.items zs subs
    × KnowsOthersFor cached.others rows cached.key.conn cached.key.subject.items zs subs
    × IsAloneFor cached.alone rows cached.key.conn cached.key.subject.items zs

-- it says nothing
abbrev pub IsBlank : CachedReceivers → Type 0
IsBlank cached = (cached.whom ≡ Various) × (cached.others ≡ None) × (cached.alone ≡ None)

-- it is known that there is no view behind the publisher's own
abbrev pub AreNone : Option (Vec CachedView) → Type 0
AreNone None = ⊥
AreNone (Some known) = known.items ≡ []

-- it is what was found of these messages: those that may be sent them, the views behind the publisher's own, and by what lists allow
-- them, if there are no such views
pub record IsFound (cached : CachedReceivers) (key : CacheKey) (found : List Subscription) (others : Option (Vec CachedView)) (allowed : Option By) : Type 0 where
  pub key_is : cached.key ≡ key
  pub whom : IsWhom cached.whom found
  pub others_are : cached.others ≡ others
  pub alone : IfSome cached.alone (λ by. (allowed ≡ Some by) × AreNone others)

-- the cache has it
abbrev pub Has : ReceiverCache → CachedReceivers → Type 0
Has cache cached = (cached ≡ cache.last) ⊎ ((place : ℕ) × (value_at cache.slots place ≡ Some cached))

-- what the cache has is so
pub record IsCurrent (rows : List ImportRow) (zs : List Session) (subs : List Subscription) (cache : ReceiverCache) : Type 0 where
  pub each : (cached : CachedReceivers) → Has cache cached → IsSo rows zs subs cached
  pub drawn : KnowsDrawn cache.drawn.by_draw.items rows cache.drawn.key.conn cache.drawn.key.subject.items zs subs

-- it says nothing
abbrev pub IsEmpty : ReceiverCache → Type 0
IsEmpty cache = IsBlank cache.last × ((place : ℕ) → value_at cache.slots place ≡ None) × (cache.drawn.by_draw.items ≡ [])

-- the views of the message that was addressed last behind its publisher's own, if they are known
abbrev pub if_last : Bool → Option (Vec CachedView) → Option (Vec CachedView)
if_last true others = others
if_last false others = None

unfoldable pub cached_others : ReceiverCache → Option (Vec CachedView)
cached_others cache = if_last cache.is_last cache.last.others

-- whom a message is for is cached, and these are its deliveries
abbrev pub Tells : CachedReceivers → Message → ℕ → List Addressed → Type 0
Tells cached m word all = Says cached.whom × (all ≡ map (addressed_at m) (picked word cached.whom))

-- the views behind the publisher's own are known, and these are the deliveries in them behind others
abbrev pub TellsOthers : Option (Vec CachedView) → Message → ℕ → List Addressed → List Addressed → Type 0
TellsOthers None m word before all = ⊥
TellsOthers (Some known) m word before all = all ≡ addressed_in_each m word before known.items

-- a connection's message is so, and these are its deliveries
pub record IsAloneAt (rows : List ImportRow) (zs : List Session) (subs : List Subscription) (conn : ℕ) (m : Message) (word : ℕ) (by : By) (all : List Addressed) : Type 0 where
  pub of : IsAloneOf rows zs conn m.subject by
  pub deliveries : all ≡ addressed_among zs subs of.publisher m word
