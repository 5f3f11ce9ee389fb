-- A deny entry wins (docs/GUARANTEE.md, "Laws of routing").
use Rattle.std.specs.Prelude.{◌≡◌, ◌⊎◌, ◌&&◌, ℕ, List, true, false, Option, Some, Contains, IsSomeAnd}
use Rattle.std.specs.List.{list_any}
use Rattle.subjects.specs.Subject.{Token, in_set, covers}
use Rattle.permissions.specs.Lists.{Entry as ListEntry, is_for}
use Rattle.permissions.specs.declared.verdict.By.TheVariants.{Grant}
use Rattle.permissions.specs.declared.verdict.Verdict.{Verdict}
use Rattle.permissions.specs.declared.verdict.Verdict.TheVariants.{DeniedBy}
use Rattle.policy_ready.specs.declared.ready.User.{User}
use Rattle.events.specs.Messages.{Message}
use Rattle.events.specs.declared.event.Event.{Event}
use Rattle.events.specs.declared.event.Command.TheVariants.{Pub, Sub}
use Rattle.events.specs.declared.answer.Delivery.{Delivery}
use Rattle.events.specs.declared.answer.Entry.{Entry}
use Rattle.events.specs.declared.answer.Item.{Item}
use Rattle.events.specs.declared.answer.Outcome.{Outcome}
use Rattle.events.specs.declared.answer.Outcome.TheVariants.{Denied, Published}
use Rattle.world_subscriptions.specs.Subscription.{Subscription}
use Rattle.world.specs.World.{World}
use Rattle.hub.specs.Sound.{user_at}
use Rattle.hub.specs.History.{State}
use Rattle.hub.specs.Guarantee.{IsRouted, IsUntouched}
use Rattle.hub_laws.specs.routing.Reach.{OfEachPublish, AreNew}

abbrev pub IsDeniedByEntry : Outcome → Type 0
IsDeniedByEntry outcome = (i : ℕ) × (outcome ≡ Denied (DeniedBy i))

abbrev pub IsPublishedByGrant : Outcome → Type 0
IsPublishedByGrant outcome = (items : List Item) × (outcome ≡ Published Grant items)

-- Where a deny entry of the publisher's has the subject, the publish is denied by a deny entry, whatever the allow entries
-- are; only a reply grant lets it pass.
abbrev pub DenyOverridesPublish : Type 0
DenyOverridesPublish =
    (s : State) (e : Event) (a : Entry) (after : State) → IsRouted s e a after → (conn : ℕ) (m : Message) (word : ℕ) (u : User) → e.what ≡ Pub conn m word → user_at s.world conn ≡ Some u →
    list_any (λ (d : ListEntry). in_set d.subject m.subject) u.rules.publish.deny ≡ true → IsDeniedByEntry a.outcome ⊎ IsPublishedByGrant a.outcome

-- Where a deny entry that is for it covers the pattern, a subscription is denied by a deny entry, whatever the allow
-- entries are.
abbrev pub DenyOverridesSubscribe : Type 0
DenyOverridesSubscribe =
    (s : State) (e : Event) (a : Entry) (after : State) → IsRouted s e a after → (conn : ℕ) (p : List Token) (queue : Option (List Token)) (sid : List ℕ) (u : User) →
    e.what ≡ Sub conn p queue sid → user_at s.world conn ≡ Some u → list_any (λ (d : ListEntry). is_for queue d && covers d.subject p) u.rules.subscribe.deny ≡ true → IsDeniedByEntry a.outcome

-- no deny entry that is for the subscription has the subject, in the subscribe list of its user
abbrev pub IsUndenied : World → List Token → Subscription → Type 0
IsUndenied w subject sub =
    IsSomeAnd (user_at w sub.conn) (λ (u : User). list_any (λ (d : ListEntry). is_for sub.queue d && in_set d.subject subject) u.rules.subscribe.deny ≡ false)

-- the delivery is to a subscription that stood, and that isn't denied its subject
abbrev pub IsDeliveryToUndenied : World → ℕ → Delivery → Type 0
IsDeliveryToUndenied w to d =
    (sub : Subscription) × Contains w.subscriptions sub × (sub.conn ≡ to) × (sub.sid ≡ d.sid) × IsUndenied w d.message.subject sub

-- Nobody is sent a message for a subscription where a deny entry for it has the subject under which it would come.
abbrev pub DenyOverridesDelivery : Type 0
DenyOverridesDelivery = OfEachPublish (λ w after conn u m items. AreNew (IsDeliveryToUndenied w) w.sessions after.sessions)

-- A publish that is denied reaches nobody: no session, outbox or subscription changes, and of the response routes those stand
-- that live.
abbrev pub DeniedReachesNobody : Type 0
DeniedReachesNobody =
    (s : State) (e : Event) (a : Entry) (after : State) → IsRouted s e a after → (conn : ℕ) (m : Message) (word : ℕ) (v : Verdict) → e.what ≡ Pub conn m word → a.outcome ≡ Denied v →
    IsUntouched s.world after.world.moment after.world
