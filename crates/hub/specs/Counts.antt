-- What a subscription has received, as the history tells it (docs/GUARANTEE.md, "The history").
use Rattle.std.specs.Prelude.{◌≡◌, ◌==◌, ◌&&◌, ◌^◌, ◌-◌, ◌∷◌, ◌++◌, ℕ, List, Bool, filter, length, min, nat_eq}
use Rattle.std.specs.List.{flat_map}
use Rattle.std.specs.Cmp.Lexicographic.{pointwise}
use Rattle.events.specs.declared.event.Command.TheVariants.{Sub}
use Rattle.events.specs.declared.answer.Item.{Item}
use Rattle.events.specs.declared.answer.Entry.{Entry}
use Rattle.events.specs.declared.answer.Outcome.TheVariants.{Subscribed}
use Rattle.world_rows.specs.declared.subscription.Subscription.{Subscription}
use Rattle.world.specs.Changes.{items_in}
use Rattle.hub.specs.Items.{DeliveryItem, tells_of}

-- whether an item tells that a message has entered for the connection's subscription of that id
abbrev pub is_entered_for : ℕ → List ℕ → Item → Bool
is_entered_for conn sid item = tells_of (λ (d : DeliveryItem). d.entered && (conn == d.conn) && pointwise nat_eq sid d.sid) item

-- the items that an entry tells
abbrev pub items_told : Entry → List Item
items_told e = items_in e.outcome

-- how many messages have entered for it, as these entries tell
abbrev pub entered_for : ℕ → List ℕ → List Entry → ℕ
entered_for conn sid es = length (filter (is_entered_for conn sid) (flat_map items_told es))

-- A standing subscription has its SUB in the history, and has received as many messages as have entered for it since.
pub record IsCounted (es : List Entry) (sub : Subscription) : Type 0 where
  -- the entry of its SUB, between those before it and those since
  pub before : List Entry
  pub made : Entry
  pub since : List Entry
  pub entries : es ≡ before ++ made ∷ since
  -- it has the entry's number for an id
  pub number : made.number ≡ sub.id
  pub command : made.event.what ≡ Sub sub.conn sub.subject sub.queue sub.sid
  pub outcome : made.outcome ≡ Subscribed
  -- the count stays at 2^64 - 1
  pub received : sub.received ≡ min (2 ^ 64 - 1) (entered_for sub.conn sub.sid since)
