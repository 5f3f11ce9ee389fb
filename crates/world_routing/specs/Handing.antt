-- Deliveries handed over, of a message in all its views (docs/ARCHITECTURE.md, "Decide, then do").
use Rattle.std.specs.Prelude.{ℕ, Bool, true, false, List, Option, Some, None, filter}
use Rattle.permissions.specs.declared.verdict.By.{By}
use Rattle.permissions.specs.declared.verdict.By.TheVariants.{All as AllowsAll, Index, Grant}
use Rattle.events.specs.Messages.{Message}
use Rattle.events.specs.declared.answer.Addressed.{Addressed}
use Rattle.events.specs.declared.answer.Item.{Item}
use Rattle.events.specs.declared.answer.Item.TheVariants.{Entered, Full, RouteFull, MapTooLong, Unmapped, MappedTooLong}
use Rattle.world_sessions.specs.deliveries.Sessions.{with_session}
use Rattle.world_sessions.specs.deliveries.Delivered.{delivered}
use Rattle.world_sessions.specs.deliveries.Replying.{responding, ending}
use Rattle.world_sessions.specs.declared.deliveries.session.Session.{Session}
use Rattle.world_subscriptions.specs.Counting.{entered_ids, in_turn}
use Rattle.world_rows.specs.declared.subscription.Subscription.{Subscription}
use Rattle.world_routing.specs.World.{World}
use Rattle.world_routing.specs.declared.granted_response.GrantedResponse.{GrantedResponse}

-- what deliveries meet, handed over in turn
abbrev pub met : World → List Addressed → List Item
met w all = (delivered w.moment all w.sessions).1

-- the items of deliveries, without the import rows that are reported between them
abbrev pub is_of_delivery : Item → Bool
is_of_delivery (Entered conn sid) = true
is_of_delivery (Full conn sid) = true
is_of_delivery (RouteFull row) = false
is_of_delivery (MapTooLong row) = false
is_of_delivery Unmapped = false
is_of_delivery (MappedTooLong index) = false

abbrev pub of_deliveries : List Item → List Item
of_deliveries items = filter is_of_delivery items

-- the subscriptions that still stand, once those that deliveries have entered for have counted them
abbrev pub left_by : World → List Addressed → List Subscription
left_by w all = in_turn (entered_ids all (met w all)) w.subscriptions

-- a publish that is to be counted, if a grant has allowed it
abbrev pub answered_by : By → ℕ → Message → Option GrantedResponse
answered_by AllowsAll conn m = None
answered_by (Index i) conn m = None
answered_by Grant conn m = Some record { conn = conn; message = m }

-- deliveries are handed over; an answer is counted on its grant before, and may end it after
abbrev pub handed_over : ℕ → Option GrantedResponse → List Addressed → List Session → List Session
handed_over now None all zs = (delivered now all zs).0
handed_over now (Some a) all zs = with_session (ending a.message.subject) a.conn (delivered now all (with_session (responding a.message.subject) a.conn zs)).0

-- the world once deliveries are handed over, and counted where these items tell that they have entered
abbrev pub carried : World → Option GrantedResponse → List Addressed → List Item → World
carried w answered all items = record w { sessions = handed_over w.moment answered all w.sessions; subscriptions = in_turn (entered_ids all items) w.subscriptions }
