-- Counting a message for those that it has entered for, one after the other.
use Rattle.std.specs.Prelude.{◌≡◌, ◌==◌, ◌∷◌, ℕ, List, [], Bool, map, if◌then◌else◌}
use Rattle.std.specs.List.{list_any}
use Rattle.events.specs.declared.answer.Item.{Item}
use Rattle.events.specs.declared.answer.Item.TheVariants.{Entered, Full, RouteFull, MapTooLong, Unmapped, MappedTooLong}
use Rattle.world_subscriptions.specs.Limit.{unended}
use Rattle.world_subscriptions.specs.Changes.{only, bumped}
use Rattle.world_rows.specs.declared.subscription.Subscription.{Subscription}
use Rattle.events.specs.declared.answer.Addressed.{Addressed}

-- one message more for each of these ids in turn
abbrev pub in_turn : List ℕ → List Subscription → List Subscription
in_turn [] subs = subs
in_turn (id ∷ ids) subs = in_turn ids (unended (map (only bumped id) subs))

-- the ids of those that a message has entered for, where the items tell what each delivery met; an import row that is
-- reported between them is no delivery
abbrev pub entered_ids : List Addressed → List Item → List ℕ
entered_ids [] items = []
entered_ids (a ∷ all) [] = []
entered_ids (a ∷ all) (Entered conn sid ∷ items) = a.id ∷ entered_ids all items
entered_ids (a ∷ all) (Full conn sid ∷ items) = entered_ids all items
entered_ids (a ∷ all) (RouteFull row ∷ items) = entered_ids (a ∷ all) items
entered_ids (a ∷ all) (MapTooLong row ∷ items) = entered_ids (a ∷ all) items
entered_ids (a ∷ all) (Unmapped ∷ items) = entered_ids (a ∷ all) items
entered_ids (a ∷ all) (MappedTooLong index ∷ items) = entered_ids (a ∷ all) items

-- where an item tells that a message has entered, it has the connection and the sid of the delivery
abbrev pub Tells : Addressed → Item → Type 0
Tells a (Entered conn sid) = (conn ≡ a.conn) × (sid ≡ a.delivery.sid)
Tells a (Full conn sid) = Unit {0}
Tells a (RouteFull row) = ⊥
Tells a (MapTooLong row) = ⊥
Tells a Unmapped = ⊥
Tells a (MappedTooLong index) = ⊥

-- each item tells of the delivery in its place, and there is one for each
abbrev pub TellEach : List Addressed → List Item → Type 0
TellEach [] [] = Unit {0}
TellEach [] (i ∷ items) = ⊥
TellEach (a ∷ all) [] = ⊥
TellEach (a ∷ all) (i ∷ items) = Tells a i × TellEach all items

abbrev pub is_one_of : List ℕ → Subscription → Bool
is_one_of ids sub = list_any (λ id. sub.id == id) ids

-- counting by ids at once
abbrev pub counted_by : List ℕ → Subscription → Subscription
counted_by ids sub = if is_one_of ids sub then bumped sub else sub
