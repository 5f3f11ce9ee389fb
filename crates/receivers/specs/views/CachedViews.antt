-- Whom messages are for, said once for all of a publisher's messages on a subject: in its own account, and in other views.
use Rattle.std.specs.Prelude.{◌≡◌, ◌++◌, ◌∷◌, ℕ, Bool, false, List, [], Option, Some, None, is_some, filter, length, map, not}
use Rattle.std.specs.Global.{Vec}
use Rattle.std.specs.List.{list_any}
use Rattle.subjects.specs.Subject.{Token}
use Rattle.policy_ready.specs.imports.Views.{is_same, first_of_each}
use Rattle.policy_ready.specs.imports.Across.{crossings_in}
use Rattle.policy_ready.specs.declared.imports.rows.ImportRow.{ImportRow}
use Rattle.policy_ready.specs.declared.imports.view.ViewItem.{ViewItem}
use Rattle.policy_ready.specs.declared.imports.view.ViewItem.TheVariants.{At, TooLong}
use Rattle.policy_ready.specs.declared.imports.view.Way.TheVariants.{Own, Stream, Service, Response}
use Rattle.events.specs.Messages.{Message}
use Rattle.events.specs.Sendings.{named}
use Rattle.events.specs.declared.answer.Addressed.{Addressed}
use Rattle.world_subscriptions.specs.queue_choice.Choices.{chosen}
use Rattle.world_subscriptions.specs.groups.Grouped.{if_any}
use Rattle.world_subscriptions.specs.groups.Served.{served}
use Rattle.world_sessions.specs.declared.deliveries.session.Session.{Session}
use Rattle.world_rows.specs.declared.subscription.Subscription.{Subscription}
use Rattle.receivers.specs.views.Open.{open_among}
use Rattle.receivers.specs.views.Receivers.{receiver_of, addressed_at}
use Rattle.receivers.specs.declared.views.receiver.Receiver.{Receiver}
use Rattle.receivers.specs.declared.views.cached_view.CachedView.{CachedView}
use Rattle.receivers.specs.declared.views.whom.Whom.{Whom}
use Rattle.receivers.specs.declared.views.whom.Whom.TheVariants.{Each, One, Various}

-- whom a message with a word is for: each receiver, or the one that the word chooses
abbrev pub picked : ℕ → Whom → List Receiver
picked word (Each rs) = rs.items
picked word (One rs) = if_any (chosen word rs.items)
picked word Various = []

-- how many receivers it keeps
abbrev pub count_of : Whom → ℕ
count_of (Each rs) = length rs.items
count_of (One rs) = length rs.items
count_of Various = 0

-- whether it says whom
abbrev pub Says : Whom → Type 0
Says (Each rs) = Unit {0}
Says (One rs) = Unit {0}
Says Various = ⊥

-- it says, whatever the message's word, which of these subscriptions are served
abbrev pub IsWhom : Whom → List Subscription → Type 0
IsWhom whom subs = Says whom → (word : ℕ) → map receiver_of (served word subs) ≡ picked word whom

-- ---- views behind the publisher's own

-- the views of an account's message behind that of the account itself: those across these rows, and then responses
abbrev pub others_with : List ImportRow → List ViewItem → List ℕ → List Token → List ViewItem
others_with rows responses account s = filter (λ (v : ViewItem). not (is_same (At account s Own) v)) (first_of_each (crossings_in rows account s ++ responses))

-- those of one that is no response
abbrev pub others_in : List ImportRow → List ℕ → List Token → List ViewItem
others_in rows account s = others_with rows [] account s

abbrev pub has_limit : Subscription → Bool
has_limit sub = is_some sub.most

-- the message under another subject; its reply, header block and payload stay
abbrev pub under_subject : List Token → Message → Message
under_subject s m = record m { subject = s }

-- A known view says whom a publisher's messages are for in an account under a subject: none of these subscriptions has a limit, so
-- they stand behind all deliveries of the same message.
pub record IsSeen (zs : List Session) (subs : List Subscription) (publisher : Session) (known : CachedView) (account : List ℕ) (s : List Token) : Type 0 where
  pub names : (m : Message) → named known.names m ≡ under_subject s m
  pub unlimited : list_any has_limit (open_among zs subs publisher account s) ≡ false
  pub says : Says known.whom
  pub whom : IsWhom known.whom (open_among zs subs publisher account s)

-- so it does, if it is known
abbrev pub IsCachedView : Option CachedView → List Session → List Subscription → Session → List ℕ → List Token → Type 0
IsCachedView None zs subs publisher account s = Unit {0}
IsCachedView (Some known) zs subs publisher account s = IsSeen zs subs publisher known account s

-- So it is with views in turn, each of a stream: a request has another reply each time, and a row that isn't crossed is told.
abbrev pub AreSeen : List Session → List Subscription → Session → List CachedView → List ViewItem → Type 0
AreSeen zs subs publisher [] [] = Unit {0}
AreSeen zs subs publisher [] (v ∷ vs) = ⊥
AreSeen zs subs publisher (k ∷ known) [] = ⊥
AreSeen zs subs publisher (k ∷ known) (TooLong row ∷ vs) = ⊥
AreSeen zs subs publisher (k ∷ known) (At account s Own ∷ vs) = ⊥
AreSeen zs subs publisher (k ∷ known) (At account s (Service row) ∷ vs) = ⊥
AreSeen zs subs publisher (k ∷ known) (At account s (Response row) ∷ vs) = ⊥
AreSeen zs subs publisher (k ∷ known) (At account s (Stream row) ∷ vs) = IsSeen zs subs publisher k account s × AreSeen zs subs publisher known vs

-- the views of a publisher's message behind its own are known, where they are said to be
abbrev pub KnowsOthers : Option (Vec CachedView) → List ImportRow → List Session → List Subscription → Session → List Token → Type 0
KnowsOthers None rows zs subs z s = Unit {0}
KnowsOthers (Some known) rows zs subs z s = AreSeen zs subs z known.items (others_in rows z.user.account s)

-- the deliveries of a message in a known view, and in several, behind others
abbrev pub addressed_in : Message → ℕ → List Addressed → CachedView → List Addressed
addressed_in m word before known = before ++ map (addressed_at (named known.names m)) (picked word known.whom)

abbrev pub addressed_in_each : Message → ℕ → List Addressed → List CachedView → List Addressed
addressed_in_each m word before [] = before
addressed_in_each m word before (k ∷ known) = addressed_in_each m word (addressed_in m word before k) known
