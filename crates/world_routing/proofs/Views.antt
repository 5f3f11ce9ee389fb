-- One view of a message is its deliveries, handed over behind those before and counted.
use Rattle.std.proofs.Common.{◌≡◌, ◌∙◌, ◌&&◌, ℕ, List, ◌++◌, map, ap, sym, subst}
use Rattle.events.specs.declared.answer.Addressed.{Addressed}
use Rattle.events.specs.declared.answer.Item.{Item}
use Rattle.world_sessions.specs.deliveries.Delivered.{delivered}
use Rattle.world_sessions.specs.deliveries.Replying.{noted_for}
use Rattle.world_sessions.specs.declared.deliveries.session.Session.{Session}
use Rattle.world_subscriptions.specs.Addressing.{addressed_to}
use Rattle.world_subscriptions.specs.Limit.{unended, counted}
use Rattle.world_subscriptions.specs.Counting.{TellEach, entered_ids, in_turn}
use Rattle.world_subscriptions.specs.Kept.{Apart}
use Rattle.world_rows.specs.declared.subscription.Subscription.{Subscription}
use Rattle.receivers.proofs.views.Tests.{both}
use Rattle.world_subscriptions.specs.groups.Served.{is_served}
use Rattle.world_routing.specs.World.{World}
use Rattle.world_routing.specs.Routing.{View, is_admitted, admitted, deliveries, routed}
use Rattle.world_routing.specs.Handing.{met, left_by}
use Rattle.world_routing.proofs.Delivering.{tell_each, delivered_append, entered_append, in_turn_append, apart_left, going_left, counted_left}

-- the world once deliveries are handed over that are no answer
abbrev pub sent : World → List Addressed → World
sent w all = record w { sessions = (delivered w.moment all w.sessions).0; subscriptions = left_by w all }

-- what deliveries meet behind others
abbrev pub met_behind : World → List Addressed → List Addressed → List Item
met_behind w before more = (delivered w.moment more (sent w before).sessions).1

module _ (zs : List Session) (publisher : Session) (word : ℕ) where
  -- each whom the deliveries of a view have entered for counts it
  view_counted : (v : View) (w : World) (items : List Item) → Apart w.subscriptions → unended w.subscriptions ≡ w.subscriptions →
      TellEach (deliveries zs w publisher v word) items →
      in_turn (entered_ids (deliveries zs w publisher v word) items) w.subscriptions ≡ unended (map (counted items) w.subscriptions)
  view_counted v w items apart going =
      let some : List Subscription → List Addressed = λ subs. map (noted_for zs) (map (addressed_to v.message) subs) in
      let P : List Subscription → Type 0 = λ subs. TellEach (some subs) items → in_turn (entered_ids (some subs) items) w.subscriptions ≡ unended (map (counted items) w.subscriptions) in
      subst P (sym (both (is_served word (admitted zs w publisher v)) (is_admitted zs publisher v) w.subscriptions))
      (counted_left zs v.message (λ s. is_admitted zs publisher v s && is_served word (admitted zs w publisher v) s) items w.subscriptions apart going)

  module _ (w : World) (apart : Apart w.subscriptions) (going : unended w.subscriptions ≡ w.subscriptions) where
    -- the subscriptions that are left by deliveries behind others
    left_append : (before more : List Addressed) → left_by w (before ++ more) ≡ in_turn (entered_ids more (met_behind w before more)) (left_by w before)
    left_append before more =
        let later : List Item = met_behind w before more in
        ap (λ (after : List Session × List Item). in_turn (entered_ids (before ++ more) after.1) w.subscriptions) (delivered_append w.moment before more w.sessions)
        ∙ ap (λ ids. in_turn ids w.subscriptions) (entered_append before more (met w before) later (tell_each w.moment before w.sessions))
        ∙ in_turn_append (entered_ids before (met w before)) (entered_ids more later) w.subscriptions

    -- one view more is its deliveries behind those before
    pub view_behind : (before : List Addressed) (v : View) →
        (routed zs (sent w before) publisher v word).1 ≡ sent w (before ++ deliveries zs (sent w before) publisher v word)
    view_behind before v =
        let ds : List Addressed = deliveries zs (sent w before) publisher v word in
        let zs2 : List Session = (sent w before).sessions in
        let after : List Session × List Item = delivered w.moment ds zs2 in
        let ids : List ℕ = entered_ids before (met w before) in
        let subs : unended (map (counted after.1) (left_by w before)) ≡ left_by w (before ++ ds) =
        sym (view_counted v (sent w before) after.1 (apart_left ids w.subscriptions apart) (going_left ids w.subscriptions going) (tell_each w.moment ds zs2))
        ∙ sym (left_append before ds) in
        let by_subs : List Subscription → World = λ ss. record w { sessions = after.0; subscriptions = ss } in
        let by_sessions : List Session × List Item → World = λ b. record w { sessions = b.0; subscriptions = left_by w (before ++ ds) } in
        ap by_subs subs ∙ ap by_sessions (sym (delivered_append w.moment before ds w.sessions))
