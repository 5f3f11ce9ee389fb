-- Deliveries that are handed over and counted.
use Rattle.std.proofs.Common.{◌≡◌, ◌∙◌, ℕ, Bool, true, false, cond, not, List, [], ◌∷◌, ◌++◌, Option, Some, None, map, filter, ap, refl}
use Rattle.events.specs.Messages.{Message}
use Rattle.events.specs.declared.answer.Addressed.{Addressed}
use Rattle.events.specs.declared.answer.Item.{Item}
use Rattle.events.specs.declared.answer.Item.TheVariants.{Entered, Full, RouteFull, MapTooLong, Unmapped, MappedTooLong}
use Rattle.world_sessions.specs.deliveries.Sessions.{session_of, with_session}
use Rattle.world_sessions.specs.deliveries.Delivered.{delivered, after_offer, item_of, has_room}
use Rattle.world_sessions.specs.deliveries.Replying.{noted_for, responding, ending}
use Rattle.world_sessions.specs.declared.deliveries.session.Session.{Session}
use Rattle.world_subscriptions.specs.Addressing.{addressed_to}
use Rattle.world_subscriptions.specs.Changes.{only, bumped}
use Rattle.world_subscriptions.specs.Limit.{has_ended, unended, counted}
use Rattle.world_subscriptions.specs.Counting.{Tells, TellEach, entered_ids, in_turn}
use Rattle.world_subscriptions.specs.Kept.{Apart}
use Rattle.world_rows.specs.declared.subscription.Subscription.{Subscription}
use Rattle.world_subscriptions.proofs.Apart.{counted_for, apart_changed, bumped-leaves}
use Rattle.receivers.proofs.cache.Stays.{AreSeated, seats_with, seats_after, seats_delivered}
use Rattle.world_routing.specs.Handing.{handed_over}
use Rattle.world_routing.specs.declared.granted_response.GrantedResponse.{GrantedResponse}

-- ---- one after the other

-- what deliveries met tells of each
pub tell_each : (now : ℕ) (all : List Addressed) (zs : List Session) → TellEach all (delivered now all zs).1
tell_each now [] zs = tt
tell_each now (a ∷ all) zs = (here (has_room (session_of zs a.conn)), tell_each now all (after_offer now a zs))
  where
    here : (b : Bool) → Tells a (cond b (Entered a.conn a.delivery.sid) (Full a.conn a.delivery.sid))
    here true = (refl, refl)
    here false = tt

-- deliveries behind others are handed over to the sessions after those
pub delivered_append : (now : ℕ) (all more : List Addressed) (zs : List Session) →
    delivered now (all ++ more) zs ≡ ((delivered now more (delivered now all zs).0).0, (delivered now all zs).1 ++ (delivered now more (delivered now all zs).0).1)
delivered_append now [] more zs = refl
delivered_append now (a ∷ all) more zs =
    ap (λ (after : List Session × List Item). (after.0, item_of a zs ∷ after.1)) (delivered_append now all more (after_offer now a zs))

-- what has entered of them, behind what has entered of those
pub entered_append : (all more : List Addressed) (items later : List Item) → TellEach all items → entered_ids (all ++ more) (items ++ later) ≡ entered_ids all items ++ entered_ids more later
entered_append [] more [] later tell = refl
entered_append [] more (i ∷ items) later tell = absurd tell
entered_append (a ∷ all) more [] later tell = absurd tell
entered_append (a ∷ all) more (Entered conn sid ∷ items) later tell = ap (λ ids. a.id ∷ ids) (entered_append all more items later tell.1)
entered_append (a ∷ all) more (Full conn sid ∷ items) later tell = entered_append all more items later tell.1
entered_append (a ∷ all) more (RouteFull row ∷ items) later tell = absurd tell.0
entered_append (a ∷ all) more (MapTooLong row ∷ items) later tell = absurd tell.0
entered_append (a ∷ all) more (Unmapped ∷ items) later tell = absurd tell.0
entered_append (a ∷ all) more (MappedTooLong index ∷ items) later tell = absurd tell.0

-- ids that are counted behind others
pub in_turn_append : (ids more : List ℕ) (subs : List Subscription) → in_turn (ids ++ more) subs ≡ in_turn more (in_turn ids subs)
in_turn_append [] more subs = refl
in_turn_append (id ∷ ids) more subs = in_turn_append ids more (unended (map (only bumped id) subs))

-- ---- those that are left

-- what hasn't ended is left as it is
unended_twice : (subs : List Subscription) → unended (unended subs) ≡ unended subs
unended_twice [] = refl
unended_twice (s ∷ subs) = twice (has_ended s) refl (unended_twice subs)
  where
    twice : (b : Bool) → has_ended s ≡ b → unended (unended subs) ≡ unended subs →
        unended (cond (not b) (s ∷ unended subs) (unended subs)) ≡ cond (not b) (s ∷ unended subs) (unended subs)
    twice true is later = later
    twice false is later = ap (λ b. cond (not b) (s ∷ unended (unended subs)) (unended (unended subs))) is ∙ ap (λ more. s ∷ more) later

-- those that are left are apart, and none has ended
pub apart_left : (ids : List ℕ) (subs : List Subscription) → Apart subs → Apart (in_turn ids subs)
apart_left [] subs apart = apart
apart_left (id ∷ ids) subs apart = apart_left ids (unended (map (only bumped id) subs)) (apart_changed bumped id subs bumped-leaves apart)

pub going_left : (ids : List ℕ) (subs : List Subscription) → unended subs ≡ subs → unended (in_turn ids subs) ≡ in_turn ids subs
going_left [] subs going = going
going_left (id ∷ ids) subs going = going_left ids (unended (map (only bumped id) subs)) (unended_twice (map (only bumped id) subs))

-- ---- what a message met counts it

-- what a session is to note beside it changes neither whom a delivery is for, nor what is told of it
module _ (zs : List Session) where
  pub entered_noted : (ds : List Addressed) (items : List Item) → entered_ids (map (noted_for zs) ds) items ≡ entered_ids ds items
  entered_noted [] items = refl
  entered_noted (d ∷ ds) [] = refl
  entered_noted (d ∷ ds) (Entered conn sid ∷ items) = ap (λ ids. d.id ∷ ids) (entered_noted ds items)
  entered_noted (d ∷ ds) (Full conn sid ∷ items) = entered_noted ds items
  entered_noted (d ∷ ds) (RouteFull row ∷ items) = entered_noted (d ∷ ds) items
  entered_noted (d ∷ ds) (MapTooLong row ∷ items) = entered_noted (d ∷ ds) items
  entered_noted (d ∷ ds) (Unmapped ∷ items) = entered_noted (d ∷ ds) items
  entered_noted (d ∷ ds) (MappedTooLong index ∷ items) = entered_noted (d ∷ ds) items

  told_noted : (ds : List Addressed) (items : List Item) → TellEach (map (noted_for zs) ds) items → TellEach ds items
  told_noted [] [] t = t
  told_noted [] (i ∷ items) t = t
  told_noted (d ∷ ds) [] t = t
  told_noted (d ∷ ds) (Entered conn sid ∷ items) t = (t.0, told_noted ds items t.1)
  told_noted (d ∷ ds) (Full conn sid ∷ items) t = (tt, told_noted ds items t.1)
  told_noted (d ∷ ds) (RouteFull row ∷ items) t = absurd t.0
  told_noted (d ∷ ds) (MapTooLong row ∷ items) t = absurd t.0
  told_noted (d ∷ ds) (Unmapped ∷ items) t = absurd t.0
  told_noted (d ∷ ds) (MappedTooLong index ∷ items) t = absurd t.0

-- each of some that the deliveries of one message have entered for counts it
pub counted_left : (zs : List Session) (m : Message) (p : Subscription → Bool) (items : List Item) (subs : List Subscription) → Apart subs → unended subs ≡ subs →
    TellEach (map (noted_for zs) (map (addressed_to m) (filter p subs))) items →
    in_turn (entered_ids (map (noted_for zs) (map (addressed_to m) (filter p subs))) items) subs ≡ unended (map (counted items) subs)
counted_left zs m p items subs apart going tell =
    let ds : List Addressed = map (addressed_to m) (filter p subs) in
    ap (λ ids. in_turn ids subs) (entered_noted zs ds items)
    ∙ counted_for m p ds items subs apart going refl (told_noted zs ds items tell)

-- ---- sessions

-- what is handed over leaves each session its user and its echo
pub seated_handed : (now : ℕ) (answered : Option GrantedResponse) (all : List Addressed) (zs : List Session) → AreSeated zs (handed_over now answered all zs)
seated_handed now None all zs = seats_delivered now all zs
seated_handed now (Some a) all zs =
    let counting : List Session = with_session (responding a.message.subject) a.conn zs in
    let after : List Session = (delivered now all counting).0 in
    seats_after zs counting (with_session (ending a.message.subject) a.conn after)
    (seats_with (responding a.message.subject) a.conn (λ z. refl) zs)
    (seats_after counting after (with_session (ending a.message.subject) a.conn after)
    (seats_delivered now all counting)
    (seats_with (ending a.message.subject) a.conn (λ z. refl) after))
