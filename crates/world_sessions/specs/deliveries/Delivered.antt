-- Deliveries offered to outboxes (docs/GUARANTEE.md, "Delivery").
use Rattle.std.specs.Prelude.{◌∷◌, ◌++◌, ◌-◌, ℕ, List, [], Bool, true, false, Option, Some, None, if◌then◌else◌, length, nat_lt}
use Rattle.reply_grants.specs.Replies.{Table, noted}
use Rattle.reply_grants.specs.declared.replies.Note.{Note}
use Rattle.events.specs.declared.answer.Delivery.{Delivery}
use Rattle.events.specs.declared.answer.Item.{Item}
use Rattle.events.specs.declared.answer.Item.TheVariants.{Entered, Full}
use Rattle.world_sessions.specs.deliveries.Sessions.{session_of, with_session}
use Rattle.world_sessions.specs.declared.deliveries.session.Session.{Session}
use Rattle.events.specs.declared.answer.Addressed.{Addressed}

-- whether one more delivery has room
abbrev pub has_room : Option Session → Bool
has_room None = false
has_room (Some z) = nat_lt (length z.outbox.waiting) z.outbox.capacity

-- how many more deliveries have room
abbrev pub room_in : Option Session → ℕ
room_in None = 0
room_in (Some z) = z.outbox.capacity - length z.outbox.waiting

-- what a session has noted after a delivery has entered, if there is anything to note
abbrev pub noting : Option Note → ℕ → Table → Table
noting None now table = table
noting (Some note) now table = noted note now table

-- the session after a delivery was offered to its outbox at a moment: it waits there, and what is to be noted is, or it
-- was missed
abbrev pub offered : Delivery → Option Note → ℕ → Session → Session
offered d note now z = if has_room (Some z)
    then record z { outbox = record z.outbox { waiting = z.outbox.waiting ++ d ∷ [] }; replies = noting note now z.replies }
    else record z { missed = true }

-- the session of that connection, with the delivery offered to it
abbrev pub after_offer : ℕ → Addressed → List Session → List Session
after_offer now a zs = with_session (offered a.delivery a.noted now) a.conn zs

-- what the delivery met there
abbrev pub item_of : Addressed → List Session → Item
item_of a zs = if has_room (session_of zs a.conn) then Entered a.conn a.delivery.sid else Full a.conn a.delivery.sid

-- deliveries offered in turn at a moment: the sessions after them, and what each met
abbrev pub delivered : ℕ → List Addressed → List Session → List Session × List Item
delivered now [] zs = (zs, [])
delivered now (a ∷ rest) zs = let after = delivered now rest (after_offer now a zs) in (after.0, item_of a zs ∷ after.1)
