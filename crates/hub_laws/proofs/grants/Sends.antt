-- A message on its way in whatever views it has: all that is sent is one list, delivered at once.
use Rattle.std.proofs.Common.{◌≡◌, ◌∙◌, ℕ, Bool, true, false, List, [], ◌∷◌, ◌++◌, Option, Some, None, cond, map, filter, ap, sym, refl}
use Rattle.std.specs.Prelude.{All, AllPairs, IfSome, max}
use Rattle.std.proofs.lemmas.List.{append_assoc, append-nil, append_cancel_left, map-append}
use Rattle.std.proofs.lemmas.List.Elements.{All-nil, All-head, All-tail, All-append, All-map, filter_agree, filter-append}
use Rattle.events.specs.declared.answer.Addressed.{Addressed}
use Rattle.events.specs.Messages.{Message}
use Rattle.events.specs.declared.answer.Item.{Item}
use Rattle.events.specs.declared.answer.Item.TheVariants.{RouteFull, MapTooLong, Unmapped as UnmappedItem, MappedTooLong}
use Rattle.events.specs.declared.answer.Outcome.{Outcome}
use Rattle.events.specs.declared.answer.Outcome.TheVariants.{Published}
use Rattle.permissions.specs.declared.verdict.By.{By}
use Rattle.permissions.specs.declared.verdict.Verdict.TheVariants.{Allowed}
use Rattle.subjects.specs.Subject.{Token}
use Rattle.policy_doc.specs.declared.exports.document.Row.{Row}
use Rattle.policy_ready.specs.imports.Across.{views}
use Rattle.policy_ready.specs.declared.imports.view.ViewItem.{ViewItem}
use Rattle.policy_ready.specs.declared.imports.view.ViewItem.TheVariants.{At, TooLong as Uncrossed}
use Rattle.policy_ready.specs.declared.imports.view.Way.TheVariants.{Own, Stream, Service, Response}
use Rattle.service_exporter.specs.Limit.{is_full}
use Rattle.service_exporter.specs.Routes.{Exporter}
use Rattle.service_routes.specs.Routes.{Name, exporter_of, spent}
use Rattle.world_sessions.specs.deliveries.Delivered.{delivered}
use Rattle.world_sessions.specs.deliveries.Replying.{noted_for}
use Rattle.world_sessions.specs.declared.deliveries.session.Session.{Session}
use Rattle.world_subscriptions.specs.Addressing.{addressed_to}
use Rattle.world_subscriptions.specs.Limit.{unended, counted}
use Rattle.world_subscriptions.specs.Subscription.{Subscription}
use Rattle.world_subscriptions.specs.groups.Served.{served}
use Rattle.world.specs.World.{World, advanced}
use Rattle.world.specs.Granting.{counted_on, ended_on}
use Rattle.account_mappings.specs.Drawing.{mapped_by}
use Rattle.account_mappings.specs.declared.drawing.Mapped.{Mapped}
use Rattle.account_mappings.specs.declared.drawing.Mapped.TheVariants.{Same, To, Unmapped, TooLong}
use Rattle.world.specs.Transition.{mapped_to, published, seen_as, seen_nowhere, sent_on}
use Rattle.world.specs.Routing.{View, view_of, view_with, under_subject, is_admitted, routed, responses_on, route_for, next_subject, in_view, in_views}
use Rattle.world.specs.Routing.{is_nil, requested, requested_by}
use Rattle.world.specs.Routing.{is_of_delivery, of_deliveries}
use Rattle.hub.specs.Guarantee.{Opening, Sending, with_opening}
use Rattle.world.proofs.Handed.{same_met}
use Rattle.hub.proofs.Soundness.{IsApart}
use Rattle.hub.proofs.Deliveries.{sent, map-twice, items_after, receives_of, outboxes}
use Rattle.hub.proofs.Views.{Setting, Fate, Delivered, ForNobody, WithoutRoute, NotCrossed, of_reply, opens_in, to_each, of-deliveries, delivered_first, delivered_items}

-- what stays the same over the views: the sessions before the message, those with which the first view begins, and the
-- world
pub record Start : Type 0 where
  pub before : List Session
  pub begun : List Session
  pub world : World

-- the sessions after these were sent, and what was told of others behind them
abbrev pub sessions_behind : Start → List Sending → List Session
sessions_behind b done = (delivered b.world.moment (map (sent b.before) done) b.begun).0

abbrev pub told_behind : Start → List Sending → List Sending → List Item
told_behind b done ss = (delivered b.world.moment (map (sent b.before) ss) (sessions_behind b done)).1

more-sessions : (b : Start) (done ss : List Sending) → (delivered b.world.moment (map (sent b.before) ss) (sessions_behind b done)).0 ≡ sessions_behind b (done ++ ss)
more-sessions b done ss =
    sym (ap (λ (all : List Addressed). (delivered b.world.moment all b.begun).0) (map-append (sent b.before) done ss)
    ∙ delivered_first b.world.moment (map (sent b.before) done) (map (sent b.before) ss) b.begun)

more-told : (b : Start) (done ss rest : List Sending) → told_behind b done ss ++ told_behind b (done ++ ss) rest ≡ told_behind b done (ss ++ rest)
more-told b done ss rest =
    ap (λ (zs : List Session). told_behind b done ss ++ (delivered b.world.moment (map (sent b.before) rest) zs).1) (sym (more-sessions b done ss))
    ∙ sym (ap (λ (all : List Addressed). (delivered b.world.moment all (sessions_behind b done)).1) (map-append (sent b.before) ss rest)
    ∙ delivered_items b.world.moment (map (sent b.before) ss) (map (sent b.before) rest) (sessions_behind b done))

-- whom a message is for in a view of it among these, by the sessions before
abbrev pub whom : List Session → Session → ℕ → List Subscription → View → List Sending
whom zs publisher word subs v = to_each v.message (served word (filter (is_admitted zs publisher v) subs))

addressed-are : (zs : List Session) (publisher : Session) (word : ℕ) (subs : List Subscription) (v : View) →
    map (noted_for zs) (map (addressed_to v.message) (served word (filter (is_admitted zs publisher v) subs))) ≡ map (sent zs) (whom zs publisher word subs v)
addressed-are zs publisher word subs v =
    let some : List Subscription = served word (filter (is_admitted zs publisher v) subs) in
    map-twice (addressed_to v.message) (noted_for zs) (λ (s : Subscription). sent zs record { message = v.message; to = s }) some (λ s. refl)
    ∙ sym (map-twice (λ (s : Subscription). let one : Sending = record { message = v.message; to = s } in one) (sent zs) (λ (s : Subscription). sent zs record { message = v.message; to = s }) some (λ s. refl))

-- ---- what becomes of views

-- what of a message has been handled: what was sent, the subscriptions that stand, and the response routes
pub record Behind : Type 0 where
  pub done : List Sending
  pub subs : List Subscription
  pub routes : List (Name × Exporter)

abbrev pub world_behind : Start → Behind → World
world_behind b at = record b.world { sessions = sessions_behind b at.done; subscriptions = at.subs; routes = at.routes }

-- the message among these sessions
abbrev pub setting : Start → Session → Message → ℕ → Setting
setting b publisher m word = record { world = b.world; publisher = publisher; asked = m.subject; message = m; word = word; may = λ (account : List ℕ) (s : List Token) (sub : Subscription). is_admitted b.before publisher (view_of account s m) sub }

module _ (b : Start) (publisher : Session) (m : Message) (word : ℕ) where
  abbrev pub of_request : Behind → List ℕ → List Token → Row → Option (List Token) → Fate
  of_request at account subject row None = Delivered (view_of account subject m) None
  of_request at account subject row (Some reply) =
      of_reply (is_nil (filter (is_admitted b.before publisher (view_of account subject m)) at.subs)) (is_full 1 b.world.moment (exporter_of account at.routes)) (setting b publisher m word) at.routes account subject row reply

  abbrev pub fate : Behind → ViewItem → Fate
  fate at (At account subject Own) = Delivered (view_of account subject m) None
  fate at (At account subject (Stream row)) = Delivered (view_of account subject m) None
  fate at (At account subject (Service row)) = of_request at account subject row m.reply
  fate at (At account subject (Response row)) = Delivered (view_with account subject None m) None
  fate at (Uncrossed row) = NotCrossed row

  -- what is sent, what is told of it, and what is left
  abbrev pub sent_by : Behind → Fate → List Sending
  sent_by at (Delivered seen opens) = whom b.before publisher word at.subs seen
  sent_by at ForNobody = []
  sent_by at (WithoutRoute row) = []
  sent_by at (NotCrossed row) = []

  abbrev pub told_by : Behind → Fate → List Item
  told_by at (Delivered seen opens) = told_behind b at.done (whom b.before publisher word at.subs seen)
  told_by at ForNobody = []
  told_by at (WithoutRoute row) = RouteFull row ∷ []
  told_by at (NotCrossed row) = MapTooLong row ∷ []

  abbrev pub left_by : Behind → Fate → List Subscription
  left_by at (Delivered seen opens) = unended (map (counted (told_by at (Delivered seen opens))) at.subs)
  left_by at ForNobody = at.subs
  left_by at (WithoutRoute row) = at.subs
  left_by at (NotCrossed row) = at.subs

  abbrev pub more : Behind → Fate → Behind
  more at f = record { done = at.done ++ sent_by at f; subs = left_by at f; routes = with_opening (opens_in f) at.routes }

  -- after all views
  abbrev pub last : Behind → List ViewItem → Behind
  last at [] = at
  last at (v ∷ vs) = last (more at (fate at v)) vs

  abbrev pub told_in : Behind → List ViewItem → List Item
  told_in at [] = []
  told_in at (v ∷ vs) = told_by at (fate at v) ++ told_in (more at (fate at v)) vs

  -- what is told of deliveries
  met-by : (at : Behind) (f : Fate) → of_deliveries (told_by at f) ≡ told_behind b at.done (sent_by at f)
  met-by at (Delivered seen opens) = of-deliveries b.before b.world.moment (whom b.before publisher word at.subs seen) (sessions_behind b at.done)
  met-by at ForNobody = refl
  met-by at (WithoutRoute row) = refl
  met-by at (NotCrossed row) = refl

  pub met-in : (at : Behind) (vs : List ViewItem) → told_behind b [] at.done ++ of_deliveries (told_in at vs) ≡ told_behind b [] (last at vs).done
  met-in at [] = append-nil (told_behind b [] at.done)
  met-in at (v ∷ vs) =
      let f : Fate = fate at v in
      ap (λ (l : List Item). told_behind b [] at.done ++ l)
      (filter-append is_of_delivery (told_by at f) (told_in (more at f) vs) ∙ ap (λ (l : List Item). l ++ of_deliveries (told_in (more at f) vs)) (met-by at f))
      ∙ sym (append_assoc (told_behind b [] at.done) (told_behind b at.done (sent_by at f)) (of_deliveries (told_in (more at f) vs)))
      ∙ ap (λ (l : List Item). l ++ of_deliveries (told_in (more at f) vs)) (more-told b [] at.done (sent_by at f))
      ∙ met-in (more at f) vs

  -- ---- what is sent

  -- of a request, of a view, and of each of some views, all is so that it can send
  abbrev pub IsOfRequest : (Sending → Type 0) → List ℕ → List Token → Option (List Token) → Type 0
  IsOfRequest Q account subject None = (s : Subscription) → Q record { message = (view_of account subject m).message; to = s }
  IsOfRequest Q account subject (Some reply) = (route : List Token) (s : Subscription) → Q record { message = (view_with account subject (Some route) m).message; to = s }

  abbrev pub IsOf : (Sending → Type 0) → ViewItem → Type 0
  IsOf Q (At account subject Own) = (s : Subscription) → Q record { message = (view_of account subject m).message; to = s }
  IsOf Q (At account subject (Stream row)) = (s : Subscription) → Q record { message = (view_of account subject m).message; to = s }
  IsOf Q (At account subject (Service row)) = IsOfRequest Q account subject m.reply
  IsOf Q (At account subject (Response row)) = (s : Subscription) → Q record { message = (view_with account subject None m).message; to = s }
  IsOf Q (Uncrossed row) = Unit {0}

  seen-each : (Q : Sending → Type 0) (at : Behind) (seen : View) → ((s : Subscription) → Q record { message = seen.message; to = s }) → All Q (whom b.before publisher word at.subs seen)
  seen-each Q at seen of =
      All-map Q (λ (s : Subscription). record { message = seen.message; to = s }) (served word (filter (is_admitted b.before publisher seen) at.subs)) (λ k d h. of _)

  request-each : (Q : Sending → Type 0) (at : Behind) (account : List ℕ) (subject : List Token) (row : Row) (reply : Option (List Token)) → IsOfRequest Q account subject reply → All Q (sent_by at (of_request at account subject row reply))
  request-each Q at account subject row None of = seen-each Q at (view_of account subject m) of
  request-each Q at account subject row (Some reply) of =
      here (is_nil (filter (is_admitted b.before publisher (view_of account subject m)) at.subs)) (is_full 1 b.world.moment (exporter_of account at.routes))
    where
      here : (nobody full : Bool) → All Q (sent_by at (of_reply nobody full (setting b publisher m word) at.routes account subject row reply))
      here true full = All-nil Q
      here false true = All-nil Q
      here false false =
          let route : List Token = next_subject word (exporter_of account at.routes) in
          seen-each Q at (view_with account subject (Some route) m) (of route)

  view-each : (Q : Sending → Type 0) (at : Behind) (v : ViewItem) → IsOf Q v → All Q (sent_by at (fate at v))
  view-each Q at (At account subject Own) of = seen-each Q at (view_of account subject m) of
  view-each Q at (At account subject (Stream row)) of = seen-each Q at (view_of account subject m) of
  view-each Q at (At account subject (Service row)) of = request-each Q at account subject row m.reply of
  view-each Q at (At account subject (Response row)) of = seen-each Q at (view_with account subject None m) of
  view-each Q at (Uncrossed row) of = All-nil Q

  pub sent-each : (Q : Sending → Type 0) (at : Behind) (vs : List ViewItem) → All (IsOf Q) vs → All Q at.done → All Q (last at vs).done
  sent-each Q at [] of all = all
  sent-each Q at (v ∷ vs) of all =
      sent-each Q (more at (fate at v)) vs (All-tail (IsOf Q) v vs of)
      (All-append Q at.done (sent_by at (fate at v)) all (view-each Q at v (All-head (IsOf Q) v vs of)))

-- ---- the transition does so

-- the same begins with other sessions
abbrev pub from : Start → List Session → Start
from b us = record b { begun = us }

-- sessions and a publisher by which the same is admitted, noted and met
pub record AreAs (b : Start) (publisher : Session) (ts us : List Session) (other : Session) : Type 0 where
  pub admits : (v : View) (s : Subscription) → is_admitted ts other v s ≡ is_admitted b.before publisher v s
  pub sends : (s : Sending) → sent ts s ≡ sent b.before s
  pub meets : (all : List Addressed) → (delivered b.world.moment all us).1 ≡ (delivered b.world.moment all b.begun).1

-- those that it begins with, and its own publisher
itself : (b : Start) (publisher : Session) → AreAs b publisher b.before b.begun publisher
itself b publisher = record { admits = λ v s. refl; sends = λ s. refl; meets = λ all. refl }

pub sent-as : (b : Start) (publisher : Session) (ts us : List Session) (other : Session) → AreAs b publisher ts us other → (ss : List Sending) → map (sent ts) ss ≡ map (sent b.before) ss
sent-as b publisher ts us other same ss = ap (λ (f : Sending → Addressed). map f ss) (λ i s. same.sends s i)

module _ (b : Start) (publisher : Session) (ts us : List Session) (other : Session) (same : AreAs b publisher ts us other) (m : Message) (word : ℕ) where
  admitted-as : (subs : List Subscription) (v : View) → filter (is_admitted ts other v) subs ≡ filter (is_admitted b.before publisher v) subs
  admitted-as subs v = filter_agree (is_admitted ts other v) (is_admitted b.before publisher v) (same.admits v) subs

  whom-as : (subs : List Subscription) (v : View) →
      map (noted_for ts) (map (addressed_to v.message) (served word (filter (is_admitted ts other v) subs))) ≡ map (sent b.before) (whom b.before publisher word subs v)
  whom-as subs v =
      addressed-are ts other word subs v
      ∙ ap (λ (some : List Subscription). map (sent ts) (to_each v.message (served word some))) (admitted-as subs v)
      ∙ sent-as b publisher ts us other same (whom b.before publisher word subs v)

  told-as : (done ss : List Sending) → told_behind (from b us) done ss ≡ told_behind b done ss
  told-as done ss =
      let now : ℕ = b.world.moment in
      let front : List Addressed = map (sent b.before) done in
      let back : List Addressed = map (sent b.before) ss in
      append_cancel_left (delivered now front us).1 (told_behind (from b us) done ss) (told_behind b done ss)
      (sym (delivered_items now front back us) ∙ same.meets (front ++ back) ∙ delivered_items now front back b.begun ∙ ap (λ (l : List Item). l ++ told_behind b done ss) (sym (same.meets front)))

  -- the message goes to those that it is for, once a route is opened
  routed-is : (at : Behind) (seen : View) (opens : Option Opening) →
      routed ts (record (world_behind (from b us) at) { routes = with_opening opens at.routes }) other seen word
      ≡ (told_by b publisher m word at (Delivered seen opens), world_behind (from b us) (more b publisher m word at (Delivered seen opens)))
  routed-is at seen opens =
      ap (λ (all : List Addressed). ((delivered b.world.moment all (sessions_behind (from b us) at.done)).1, record b.world { sessions = (delivered b.world.moment all (sessions_behind (from b us) at.done)).0; subscriptions = unended (map (counted (delivered b.world.moment all (sessions_behind (from b us) at.done)).1) at.subs); routes = with_opening opens at.routes })) (whom-as at.subs seen)
      ∙ ap (λ (ys : List Session). (told_behind (from b us) at.done ss, record b.world { sessions = ys; subscriptions = unended (map (counted (told_behind (from b us) at.done ss)) at.subs); routes = with_opening opens at.routes })) (more-sessions (from b us) at.done ss)
      ∙ ap (λ (l : List Item). (l, record b.world { sessions = sessions_behind (from b us) (at.done ++ ss); subscriptions = unended (map (counted l) at.subs); routes = with_opening opens at.routes })) (told-as at.done ss)
    where
      ss : List Sending
      ss = whom b.before publisher word at.subs seen

  -- what sends nothing
  nothing-is : (at : Behind) (items : List Item) →
      ◌≡◌ {A = List Item × World} (items, world_behind (from b us) at) (items, world_behind (from b us) record { done = at.done ++ []; subs = at.subs; routes = at.routes })
  nothing-is at items = ap (λ (l : List Sending). (items, world_behind (from b us) record { done = l; subs = at.subs; routes = at.routes })) (sym (append-nil at.done))

  request-is : (at : Behind) (account : List ℕ) (subject : List Token) (row : Row) (reply : Option (List Token)) →
      requested ts (world_behind (from b us) at) other m word account subject row reply
      ≡ (told_by b publisher m word at (of_request b publisher m word at account subject row reply), world_behind (from b us) (more b publisher m word at (of_request b publisher m word at account subject row reply)))
  request-is at account subject row None = routed-is at (view_of account subject m) None
  request-is at account subject row (Some reply) =
      ap (λ (some : List Subscription). requested_by (is_nil some) full ts (world_behind (from b us) at) other m word account subject row reply) (admitted-as at.subs (view_of account subject m))
      ∙ here (is_nil (filter (is_admitted b.before publisher (view_of account subject m)) at.subs)) full
    where
      full : Bool
      full = is_full 1 b.world.moment (exporter_of account at.routes)

      f : Bool → Bool → Fate
      f nobody full = of_reply nobody full (setting b publisher m word) at.routes account subject row reply

      here : (nobody full : Bool) → requested_by nobody full ts (world_behind (from b us) at) other m word account subject row reply
          ≡ (told_by b publisher m word at (f nobody full), world_behind (from b us) (more b publisher m word at (f nobody full)))
      here true full = nothing-is at []
      here false true = nothing-is at (RouteFull row ∷ [])
      here false false =
          routed-is at (view_with account subject (Some (next_subject word (exporter_of account at.routes))) m)
          (Some record { exporter = account; route = route_for b.world.policy row reply word b.world.moment })

  view-is : (at : Behind) (v : ViewItem) →
      in_view ts (world_behind (from b us) at) other m word v ≡ (told_by b publisher m word at (fate b publisher m word at v), world_behind (from b us) (more b publisher m word at (fate b publisher m word at v)))
  view-is at (At account subject Own) = routed-is at (view_of account subject m) None
  view-is at (At account subject (Stream row)) = routed-is at (view_of account subject m) None
  view-is at (At account subject (Service row)) = request-is at account subject row m.reply
  view-is at (At account subject (Response row)) = routed-is at (view_with account subject None m) None
  view-is at (Uncrossed row) = nothing-is at (MapTooLong row ∷ [])

  pub views-are : (at : Behind) (vs : List ViewItem) →
      in_views ts (world_behind (from b us) at) other m word vs ≡ (told_in b publisher m word at vs, world_behind (from b us) (last b publisher m word at vs))
  views-are at [] = refl
  views-are at (v ∷ vs) =
      ap (λ (r : List Item × World). (r.0 ++ (in_views ts r.1 other m word vs).0, (in_views ts r.1 other m word vs).1)) (view-is at v)
      ∙ ap (λ (r : List Item × World). (told_by b publisher m word at (fate b publisher m word at v) ++ r.0, r.1)) (views-are (more b publisher m word at (fate b publisher m word at v)) vs)

-- ---- one world

-- the views of a message in a world
abbrev pub views_of : World → Session → Message → List ViewItem
views_of w publisher m = views w.policy publisher.user.account m.subject (responses_on w.routes publisher.user.account m.subject)

-- what is sent of a message that is published on a subject, each of which is so, what is told of it, and the world after it
pub record Publishes (Q : Sending → Type 0) (w : World) (now : ℕ) (publisher : Session) (asked : List Token) (by : By) (come : Outcome × World) : Type 0 where
  pub ss : List Sending
  pub each : All Q ss
  pub left : List Subscription
  pub routes : List (Name × Exporter)
  pub items : List Item
  pub met : of_deliveries items ≡ items_after w.sessions (max w.moment now) ss w.sessions
  pub is : come ≡ (Published by items, record (advanced w now) { sessions = map (receives_of (max w.moment now) by publisher.conn asked ss) w.sessions; subscriptions = left; routes = routes })

-- what is sent of it as it is sent on is so
abbrev pub AreOf : (Sending → Type 0) → World → ℕ → Session → List Token → ℕ → By → Message → Type 0
AreOf Q w now publisher asked word by m =
    All (IsOf record { before = w.sessions; begun = counted_on by publisher.conn asked w.sessions; world = advanced w now } publisher m word Q) (views_of (advanced w now) publisher m)

publishes-as : (Q : Sending → Type 0) (w : World) (now : ℕ) (publisher : Session) (asked : List Token) (m : Message) (word : ℕ) (by : By) → AllPairs IsApart w.sessions →
    AreOf Q w now publisher asked word by m → Publishes Q w now publisher asked by (seen_as (advanced w now) publisher by asked m word)
publishes-as Q w now publisher asked m word by apart of =
    let begin : Start = record { before = w.sessions; begun = counted_on by publisher.conn asked w.sessions; world = advanced w now } in
    let first : Behind = record { done = []; subs = w.subscriptions; routes = (advanced w now).routes } in
    let vs : List ViewItem = views_of (advanced w now) publisher m in
    let all : Behind = last begin publisher m word first vs in
    let items : List Item = told_in begin publisher m word first vs in
    let finished : List Item × World → Outcome × World = λ r. (Published by r.0, record r.1 { sessions = ended_on by publisher.conn asked r.1.sessions; routes = spent publisher.user.account m.subject r.1.routes }) in
    record {
      ss = all.done;
      each = sent-each begin publisher m word Q first vs of (All-nil Q);
      left = all.subs;
      routes = spent publisher.user.account m.subject all.routes;
      items = items;
      met = met-in begin publisher m word first vs ∙ same_met by publisher.conn asked (max w.moment now) (map (sent w.sessions) all.done) w.sessions;
      is = ap finished (views-are begin publisher begin.before begin.begun publisher (itself begin publisher) m word first vs)
          ∙ ap (λ (zs : List Session). (Published by items, record (advanced w now) { sessions = zs; subscriptions = all.subs; routes = spent publisher.user.account m.subject all.routes })) (outboxes (max w.moment now) publisher.conn asked all.done w.sessions by apart);
    }

-- nothing is sent of one that isn't sent on
publishes-nowhere : (Q : Sending → Type 0) (w : World) (now : ℕ) (publisher : Session) (asked : List Token) (by : By) (item : Item) → is_of_delivery item ≡ false → AllPairs IsApart w.sessions →
    Publishes Q w now publisher asked by (seen_nowhere (advanced w now) publisher by asked item)
publishes-nowhere Q w now publisher asked by item plain apart = record {
  ss = [];
  each = All-nil Q;
  left = w.subscriptions;
  routes = (advanced w now).routes;
  items = item ∷ [];
  met = ap (λ (b : Bool). cond b (item ∷ []) []) plain;
  is = ap (λ (zs : List Session). (Published by (item ∷ []), record (advanced w now) { sessions = zs })) (outboxes (max w.moment now) publisher.conn asked [] w.sessions by apart);
}

publishes-mapped : (Q : Sending → Type 0) (w : World) (now : ℕ) (publisher : Session) (m : Message) (word : ℕ) (by : By) → AllPairs IsApart w.sessions → (mapped : Mapped) →
    IfSome (sent_on mapped m) (AreOf Q w now publisher m.subject word by) → Publishes Q w now publisher m.subject by (mapped_to (advanced w now) publisher by m word mapped)
publishes-mapped Q w now publisher m word by apart Same of = publishes-as Q w now publisher m.subject m word by apart of
publishes-mapped Q w now publisher m word by apart (To s) of = publishes-as Q w now publisher m.subject (under_subject s m) word by apart of
publishes-mapped Q w now publisher m word by apart Unmapped of = publishes-nowhere Q w now publisher m.subject by UnmappedItem refl apart
publishes-mapped Q w now publisher m word by apart (TooLong index) of = publishes-nowhere Q w now publisher m.subject by (MappedTooLong index) refl apart

pub publishes : (Q : Sending → Type 0) (w : World) (now : ℕ) (publisher : Session) (m : Message) (word : ℕ) (by : By) → AllPairs IsApart w.sessions →
    IfSome (sent_on (mapped_by publisher.user.mappings m.subject word) m) (AreOf Q w now publisher m.subject word by) →
    Publishes Q w now publisher m.subject by (published (advanced w now) publisher m word (Allowed by))
publishes Q w now publisher m word by apart of = publishes-mapped Q w now publisher m word by apart (mapped_by publisher.user.mappings m.subject word) of

-- ---- two of them

-- they send the same, tell the same of it, and leave the same subscriptions and response routes
pub record SendAlike (b : Start) (publisher : Session) (ts us : List Session) (other : Session) (m : Message) (word : ℕ) (first : Behind) (vs : List ViewItem) : Type 0 where
  pub last : Behind
  pub items : List Item
  pub is : in_views b.before (world_behind b first) publisher m word vs ≡ (items, world_behind b last)
  pub also : in_views ts (world_behind (from b us) first) other m word vs ≡ (items, world_behind (from b us) last)

pub send-alike : (b : Start) (publisher : Session) (ts us : List Session) (other : Session) → AreAs b publisher ts us other → (m : Message) (word : ℕ) (first : Behind) (vs : List ViewItem) →
    SendAlike b publisher ts us other m word first vs
send-alike b publisher ts us other same m word first vs = record {
  last = last b publisher m word first vs;
  items = told_in b publisher m word first vs;
  is = views-are b publisher b.before b.begun publisher (itself b publisher) m word first vs;
  also = views-are b publisher ts us other same m word first vs;
}
