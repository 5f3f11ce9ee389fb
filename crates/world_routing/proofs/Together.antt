-- The deliveries of the views, addressed one after the other, are those of the guarantee; and so are the items with the rows
-- that are reported between them.
use Rattle.std.proofs.Common.{◌≡◌, ◌∙◌, ◌&&◌, ◌+◌, ◌-◌, ◌≤◌, ◌++◌, ◌∷◌, ℕ, suc, Bool, true, false, cond, List, [], Option, Some, None, nat_lt, length, map, filter, take, drop, ap, sym, refl, subst, arith}
use Rattle.std.proofs.lemmas.List.{append-nil, append_assoc, length-append, length-map, map-append}
use Rattle.subjects.specs.Subject.{Token}
use Rattle.policy_doc.specs.declared.exports.document.Row.{Row}
use Rattle.events.specs.Messages.{Message}
use Rattle.events.specs.declared.answer.Addressed.{Addressed}
use Rattle.events.specs.declared.answer.Item.{Item}
use Rattle.events.specs.declared.answer.Item.TheVariants.{Entered, Full, RouteFull, MapTooLong, Unmapped, MappedTooLong}
use Rattle.policy_ready.specs.declared.imports.view.ViewItem.{ViewItem}
use Rattle.policy_ready.specs.declared.imports.view.ViewItem.TheVariants.{At, TooLong}
use Rattle.policy_ready.specs.declared.imports.view.Way.TheVariants.{Own, Stream, Service, Response}
use Rattle.world_sessions.specs.deliveries.Sessions.{session_of}
use Rattle.world_sessions.specs.deliveries.Delivered.{delivered, after_offer, has_room}
use Rattle.world_sessions.specs.deliveries.Planned.{planned, rooms_of, with_room}
use Rattle.world_sessions.specs.deliveries.Replying.{noted_for}
use Rattle.world_sessions.specs.declared.deliveries.session.Session.{Session}
use Rattle.world_sessions.proofs.deliveries.Plans.{planned-delivered}
use Rattle.world_subscriptions.specs.Addressing.{addressed_to}
use Rattle.world_subscriptions.specs.Counting.{entered_ids, in_turn}
use Rattle.world_subscriptions.specs.Kept.{Apart}
use Rattle.world_subscriptions.specs.Limit.{unended}
use Rattle.world_subscriptions.specs.Subscriptions.{has_subject}
use Rattle.world_rows.specs.declared.subscription.Subscription.{Subscription}
use Rattle.world_subscriptions.specs.groups.Served.{served, is_served}
use Rattle.receivers.specs.views.Open.{is_open}
use Rattle.world_views.specs.addressing.Standing.{stands_behind, standing_among, addressed_behind_in, is_for_nobody, is_nil}
use Rattle.world_views.proofs.addressing.Left.{AllAgree, admitted_made, all_agree_append, addressed_agree, addressed_left, passing_left, standing_same}
use Rattle.receivers.proofs.views.Tests.{both}
use Rattle.world_views.proofs.addressing.Left.{nil_map}
use Rattle.world_routing.specs.World.{World}
use Rattle.service_exporter.specs.Limit.{is_full}
use Rattle.service_exporter.specs.Routes.{Exporter}
use Rattle.service_routes.specs.Routes.{Name, exporter_of}
use Rattle.world_views.specs.Changing.{opened_each}
use Rattle.world_routing.specs.Routing.{View, view_of, admitted, deliveries, routed, requested_by, requested, in_view, in_views}
use Rattle.world_routing.specs.Handing.{met, of_deliveries}
use Rattle.world_views.specs.Viewing.{Tables, Publication, Addressing, addressing, Effect, seen, reports, nothing, requested_if, request_in, effect_of, with_effect, addressed_after, report, reports_by, reports_after, item_of, with_reports}
use Rattle.world_views.specs.declared.viewing.Cause.{Cause}
use Rattle.world_views.specs.declared.viewing.Cause.TheVariants as cause
use Rattle.world_views.specs.declared.viewing.Report.{Report}
use Rattle.world_routing.proofs.Delivering.{entered_noted, delivered_append}
use Rattle.world_views.proofs.InTurn.{opened_append}
use Rattle.world_routing.proofs.Views.{sent, met_behind, view_behind}

-- ---- deliveries

-- what a session is to note doesn't change what deliveries meet
planned_noted : (zs : List Session) (all : List Addressed) (rooms : ℕ → ℕ) → planned (map (noted_for zs) all) rooms ≡ planned all rooms
planned_noted zs [] rooms = refl
planned_noted zs (a ∷ all) rooms = ap (λ (more : List Item). cond (nat_lt 0 (rooms a.conn)) (Entered a.conn a.delivery.sid) (Full a.conn a.delivery.sid) ∷ more) (planned_noted zs all (with_room a.conn (rooms a.conn - 1) rooms))

met_noted : (now : ℕ) (zs ys : List Session) (all : List Addressed) → (delivered now (map (noted_for zs) all) ys).1 ≡ (delivered now all ys).1
met_noted now zs ys all =
    sym (planned-delivered now (map (noted_for zs) all) ys) ∙ planned_noted zs all (rooms_of ys) ∙ planned-delivered now all ys

-- what a view's items are, without the rows that are reported
pub all_delivered : (now : ℕ) (all : List Addressed) (zs : List Session) → of_deliveries (delivered now all zs).1 ≡ (delivered now all zs).1
all_delivered now [] zs = refl
all_delivered now (a ∷ all) zs = here (has_room (session_of zs a.conn)) (all_delivered now all (after_offer now a zs))
  where
    rest : List Item
    rest = (delivered now all (after_offer now a zs)).1

    here : (b : Bool) → of_deliveries rest ≡ rest →
        of_deliveries (cond b (Entered a.conn a.delivery.sid) (Full a.conn a.delivery.sid) ∷ rest) ≡ cond b (Entered a.conn a.delivery.sid) (Full a.conn a.delivery.sid) ∷ rest
    here true later = ap (λ (more : List Item). Entered a.conn a.delivery.sid ∷ more) later
    here false later = ap (λ (more : List Item). Full a.conn a.delivery.sid ∷ more) later

pub of_append : (xs ys : List Item) → of_deliveries (xs ++ ys) ≡ of_deliveries xs ++ of_deliveries ys
of_append [] ys = refl
of_append (Entered conn sid ∷ xs) ys = ap (λ (more : List Item). Entered conn sid ∷ more) (of_append xs ys)
of_append (Full conn sid ∷ xs) ys = ap (λ (more : List Item). Full conn sid ∷ more) (of_append xs ys)
of_append (RouteFull row ∷ xs) ys = of_append xs ys
of_append (MapTooLong row ∷ xs) ys = of_append xs ys
of_append (Unmapped ∷ xs) ys = of_append xs ys
of_append (MappedTooLong index ∷ xs) ys = of_append xs ys

-- the rows that are reported count nothing
pub entered_of : (all : List Addressed) (items : List Item) → entered_ids all (of_deliveries items) ≡ entered_ids all items
entered_of [] items = refl
entered_of (a ∷ all) [] = refl
entered_of (a ∷ all) (Entered conn sid ∷ items) = ap (λ ids. a.id ∷ ids) (entered_of all items)
entered_of (a ∷ all) (Full conn sid ∷ items) = entered_of all items
entered_of (a ∷ all) (RouteFull row ∷ items) = entered_of (a ∷ all) items
entered_of (a ∷ all) (MapTooLong row ∷ items) = entered_of (a ∷ all) items
entered_of (a ∷ all) (Unmapped ∷ items) = entered_of (a ∷ all) items
entered_of (a ∷ all) (MappedTooLong index ∷ items) = entered_of (a ∷ all) items

-- there is an item for each delivery
length_met : (now : ℕ) (all : List Addressed) (zs : List Session) → length (delivered now all zs).1 ≡ length all
length_met now [] zs = refl
length_met now (a ∷ all) zs = ap suc (length_met now all (after_offer now a zs))

-- ---- reports

-- the first report is behind so many deliveries
abbrev AtLeast : ℕ → List Report → Type 0
AtLeast n [] = Unit {0}
AtLeast n (r ∷ rs) = n ≤ r.at

later_still : (n k : ℕ) (rs : List Report) → n ≤ k → AtLeast k rs → AtLeast n rs
later_still n k [] h at = tt
later_still n k (r ∷ rs) h at = omega (arith, h, at)

take_over : (xs ys : List Item) (k : ℕ) → take (length xs + k) (xs ++ ys) ≡ xs ++ take k ys
take_over [] ys k = let none : 0 + k ≡ k = omega arith in ap (λ n. take n ys) none
take_over (x ∷ xs) ys k =
    let more : length (x ∷ xs) + k ≡ suc (length xs + k) = omega arith in
    ap (λ n. take n (x ∷ xs ++ ys)) more ∙ ap (λ (rest : List Item). x ∷ rest) (take_over xs ys k)

drop_front : (xs ys : List Item) → drop (length xs) (xs ++ ys) ≡ ys
drop_front [] ys = refl
drop_front (x ∷ xs) ys = drop_front xs ys

drop_both : (front xs ys : List Item) → drop (length front + length xs) (front ++ (xs ++ ys)) ≡ ys
drop_both [] xs ys = let none : 0 + length xs ≡ length xs = omega arith in ap (λ n. drop n (xs ++ ys)) none ∙ drop_front xs ys
drop_both (x ∷ front) xs ys =
    let more : length (x ∷ front) + length xs ≡ suc (length front + length xs) = omega arith in
    ap (λ n. drop n ((x ∷ front) ++ (xs ++ ys))) more ∙ drop_both front xs ys

-- items before the first report stay before it
reports_over : (front xs ys : List Item) (rs : List Report) → AtLeast (length front + length xs) rs →
    with_reports (length front) (front ++ (xs ++ ys)) rs ≡ xs ++ with_reports (length front + length xs) (front ++ (xs ++ ys)) rs
reports_over front xs ys [] at =
    drop_front front (xs ++ ys) ∙ ap (λ (more : List Item). xs ++ more) (sym (drop_both front xs ys))
reports_over front xs ys (r ∷ rs) at =
    let all : List Item = front ++ (xs ++ ys) in
    let k : ℕ = r.at - (length front + length xs) in
    let far : r.at - length front ≡ length xs + k = omega (arith, at) in
    ap (λ (items : List Item). take (r.at - length front) items ++ item_of r.cause r.row ∷ with_reports r.at all rs) (drop_front front (xs ++ ys))
    ∙ ap (λ (many : ℕ). take many (xs ++ ys) ++ item_of r.cause r.row ∷ with_reports r.at all rs) far
    ∙ ap (λ (before : List Item). before ++ item_of r.cause r.row ∷ with_reports r.at all rs) (take_over xs ys k)
    ∙ append_assoc xs (take k ys) (item_of r.cause r.row ∷ with_reports r.at all rs)
    ∙ ap (λ (items : List Item). xs ++ (take k items ++ item_of r.cause r.row ∷ with_reports r.at all rs)) (sym (drop_both front xs ys))

reported_here : (n : ℕ) (items : List Item) (why : Cause) (row : Row) (rs : List Report) → with_reports n items (report n why row ∷ rs) ≡ item_of why row ∷ with_reports n items rs
reported_here n items why row rs =
    let none : n - n ≡ 0 = omega arith in
    ap (λ (many : ℕ). take many (drop n items) ++ item_of why row ∷ with_reports n items rs) none

-- ---- effects

-- the first report of views is behind the deliveries before them
reports_at : (t : Tables) (p : Publication) (a : Addressing) (vs : List ViewItem) → AtLeast (length a.deliveries) (reports_after t p a vs)
reports_at t p a [] = tt
reports_at t p a (v ∷ vs) = by (effect_of t p a v) (reports_at t p (with_effect t p a (effect_of t p a v)) vs)
  where
    by : (e : Effect) → AtLeast (length (with_effect t p a e).deliveries) (reports_after t p (with_effect t p a e) vs) →
        AtLeast (length a.deliveries) (reports_by a e ++ reports_after t p (with_effect t p a e) vs)
    by (seen account as_seen os) later =
        let ds : List Addressed = addressed_behind_in t.sessions t.subscriptions a.deliveries p.publisher as_seen p.word account in
        let more = length-append a.deliveries ds in
        later_still (length a.deliveries) (length (a.deliveries ++ ds)) (reports_after t p (with_effect t p a (seen account as_seen os)) vs) (omega (arith, more)) later
    by (reports why row) later = omega arith
    by nothing later = later

-- ---- views

-- `zs` are the sessions before the message, in which deliveries meet what they meet in the world
module _ (zs : List Session) (w : World) (p : Publication) (same : (all : List Addressed) → met w all ≡ (delivered w.moment all zs).1)
    (apart : Apart w.subscriptions) (going : unended w.subscriptions ≡ w.subscriptions) where
  abbrev pub noted : List Addressed → List Addressed
  noted all = map (noted_for zs) all

  abbrev pub tables : Tables
  tables = record { policy = w.policy; now = w.moment; sessions = zs; subscriptions = w.subscriptions; routes = w.routes }

  -- the world once a message is addressed so far, and this is handed over
  abbrev pub so_far : Addressing → World
  so_far a = record (sent w (noted a.deliveries)) { routes = opened_each a.openings w.routes }

  abbrev view : List ℕ → Message → View
  view account as_seen = record { account = account; message = as_seen }

  -- its deliveries in an account behind others
  abbrev behind : List Addressed → List ℕ → Message → List Addressed
  behind before account as_seen = addressed_behind_in zs w.subscriptions before p.publisher as_seen p.word account

  -- whom it may be sent to there, by a test
  left : (before : List Addressed) → AllAgree w.subscriptions before → (account : List ℕ) (s : List Token) →
      in_turn (entered_ids (noted before) (met w (noted before))) w.subscriptions ≡ in_turn (entered_ids before (delivered w.moment before zs).1) w.subscriptions
  left before agree account s =
      ap (λ (items : List Item). in_turn (entered_ids (noted before) items) w.subscriptions) (same (noted before) ∙ met_noted w.moment zs zs before)
      ∙ ap (λ ids. in_turn ids w.subscriptions) (entered_noted zs before (delivered w.moment before zs).1)

  view_is : (before : List Addressed) (account : List ℕ) (as_seen : Message) → AllAgree w.subscriptions before →
      deliveries zs (sent w (noted before)) p.publisher (view account as_seen) p.word ≡ noted (behind before account as_seen)
  view_is before account as_seen agree =
      let s : List Token = as_seen.subject in
      let test : Subscription → Bool = λ x. has_subject account s x && is_open zs p.publisher s x in
      let some : List Subscription → List Addressed = λ subs. map (addressed_to as_seen) (served p.word subs) in
      ap noted
      (ap (λ (subs : List Subscription). some (filter test subs)) (left before agree account s)
      ∙ addressed_left w.moment zs before w.subscriptions test (admitted_made zs p.publisher account s) going agree as_seen p.word
      ∙ ap some (standing_same zs p.publisher account s before w.subscriptions))

  -- whether there is nobody
  nobody_is : (before : List Addressed) (account : List ℕ) (s : List Token) → AllAgree w.subscriptions before →
      is_nil (admitted zs (sent w (noted before)) p.publisher (view_of account s p.message)) ≡ is_for_nobody zs w.subscriptions before p.publisher account s
  nobody_is before account s agree =
      let test : Subscription → Bool = λ x. has_subject account s x && is_open zs p.publisher s x in
      ap (λ (subs : List Subscription). is_nil (filter test subs)) (left before agree account s)
      ∙ ap is_nil (passing_left w.moment zs before w.subscriptions test (admitted_made zs p.publisher account s) going agree)
      ∙ nil_map _ (filter (λ x. test x && stands_behind zs before x) w.subscriptions)
      ∙ ap is_nil (standing_same zs p.publisher account s before w.subscriptions)

  view_agrees : (before : List Addressed) (account : List ℕ) (as_seen : Message) → AllAgree w.subscriptions (behind before account as_seen)
  view_agrees before account as_seen =
      let s : List Token = as_seen.subject in
      let q : Subscription → Bool = λ x. has_subject account s x && (is_open zs p.publisher s x && stands_behind zs before x) in
      let r : Subscription → Bool = is_served p.word (standing_among zs w.subscriptions before p.publisher account s) in
      subst (λ (ss : List Subscription). AllAgree w.subscriptions (map (addressed_to as_seen) ss)) (sym (both r q w.subscriptions))
      (addressed_agree as_seen (λ x. q x && r x) w.subscriptions apart)

  -- there is an item for each delivery
  many_met : (before : List Addressed) → length (met w (noted before)) ≡ length before
  many_met before = length_met w.moment (noted before) w.sessions ∙ length-map before (noted_for zs)

  -- one view more, with these routes
  routed_is : (before : List Addressed) (account : List ℕ) (as_seen : Message) (routes : List (Name × Exporter)) → AllAgree w.subscriptions before →
      routed zs (record (sent w (noted before)) { routes = routes }) p.publisher (view account as_seen) p.word
      ≡ (met_behind w (noted before) (noted (behind before account as_seen)), record (sent w (noted (before ++ behind before account as_seen))) { routes = routes })
  routed_is before account as_seen routes agree =
      let ds : List Addressed = deliveries zs (sent w (noted before)) p.publisher (view account as_seen) p.word in
      let by_world : World → List Item × World = λ x. (met_behind w (noted before) ds, record x { routes = routes }) in
      let by_all : List Addressed → List Item × World = λ all. (met_behind w (noted before) all, record (sent w (noted before ++ all)) { routes = routes }) in
      let by_front : List Addressed → List Item × World = λ all. (met_behind w (noted before) (noted (behind before account as_seen)), record (sent w all) { routes = routes }) in
      ap by_world (view_behind zs p.publisher p.word w apart going (noted before) (view account as_seen))
      ∙ ap by_all (view_is before account as_seen agree)
      ∙ ap by_front (sym (map-append (noted_for zs) before (behind before account as_seen)))

  -- what an effect makes of a world
  abbrev by_effect : World → Effect → List Item × World
  by_effect x (seen account as_seen os) = routed zs (record x { routes = opened_each os x.routes }) p.publisher (view account as_seen) p.word
  by_effect x (reports why row) = (item_of why row ∷ [], x)
  by_effect x nothing = ([], x)

  request_tests : (a : Addressing) (account : List ℕ) (s : List Token) (row : Row) (reply : List Token) (b c : Bool) →
      requested_by b c zs (so_far a) p.publisher p.message p.word account s row reply
      ≡ by_effect (so_far a) (requested_if b c tables p (opened_each a.openings w.routes) account s row reply)
  request_tests a account s row reply true c = refl
  request_tests a account s row reply false true = refl
  request_tests a account s row reply false false = refl

  request_effect : (a : Addressing) (account : List ℕ) (s : List Token) (row : Row) (o : Option (List Token)) → AllAgree w.subscriptions a.deliveries →
      requested zs (so_far a) p.publisher p.message p.word account s row o ≡ by_effect (so_far a) (request_in tables p a account s row o)
  request_effect a account s row None agree = refl
  request_effect a account s row (Some reply) agree =
      let full : Bool = is_full 1 w.moment (exporter_of account (opened_each a.openings w.routes)) in
      ap (λ b. requested_by b full zs (so_far a) p.publisher p.message p.word account s row reply) (nobody_is a.deliveries account s agree)
      ∙ request_tests a account s row reply (is_for_nobody zs w.subscriptions a.deliveries p.publisher account s) full

  view_effect : (a : Addressing) (v : ViewItem) → AllAgree w.subscriptions a.deliveries →
      in_view zs (so_far a) p.publisher p.message p.word v ≡ by_effect (so_far a) (effect_of tables p a v)
  view_effect a (At account s Own) agree = refl
  view_effect a (At account s (Stream row)) agree = refl
  view_effect a (At account s (Service row)) agree = request_effect a account s row p.message.reply agree
  view_effect a (At account s (Response row)) agree = refl
  view_effect a (TooLong row) agree = refl

  -- what it tells
  abbrev items_by : Addressing → Effect → List Item
  items_by a (seen account as_seen os) = met_behind w (noted a.deliveries) (noted (behind a.deliveries account as_seen))
  items_by a (reports why row) = item_of why row ∷ []
  items_by a nothing = []

  effect_is : (a : Addressing) (e : Effect) → AllAgree w.subscriptions a.deliveries → by_effect (so_far a) e ≡ (items_by a e, so_far (with_effect tables p a e))
  effect_is a (seen account as_seen os) agree =
      let after : List Addressed = noted (a.deliveries ++ behind a.deliveries account as_seen) in
      let by_routes : List (Name × Exporter) → List Item × World = λ routes. (met_behind w (noted a.deliveries) (noted (behind a.deliveries account as_seen)), record (sent w after) { routes = routes }) in
      routed_is a.deliveries account as_seen (opened_each os (opened_each a.openings w.routes)) agree
      ∙ ap by_routes (sym (opened_append a.openings os w.routes))
  effect_is a (reports why row) agree = refl
  effect_is a nothing agree = refl

  agree_after : (a : Addressing) (e : Effect) → AllAgree w.subscriptions a.deliveries → AllAgree w.subscriptions (with_effect tables p a e).deliveries
  agree_after a (seen account as_seen os) agree =
      all_agree_append w.subscriptions a.deliveries (behind a.deliveries account as_seen) agree (view_agrees a.deliveries account as_seen)
  agree_after a (reports why row) agree = agree
  agree_after a nothing agree = agree

  -- what views tell
  abbrev pub items_after : Addressing → List ViewItem → List Item
  items_after a [] = []
  items_after a (v ∷ vs) = items_by a (effect_of tables p a v) ++ items_after (with_effect tables p a (effect_of tables p a v)) vs

  -- What the views make of a world, one after the other, is what one list makes of it that has the deliveries of all of them,
  -- with the routes that they open.
  pub views_are : (a : Addressing) (vs : List ViewItem) → AllAgree w.subscriptions a.deliveries →
      in_views zs (so_far a) p.publisher p.message p.word vs ≡ (items_after a vs, so_far (addressed_after tables p a vs))
  views_are a [] agree = refl
  views_are a (v ∷ vs) agree =
      let e : Effect = effect_of tables p a v in
      let rest : World → List Item × World = λ x. in_views zs x p.publisher p.message p.word vs in
      let go : List Item × World → List Item × World = λ first. (first.0 ++ (rest first.1).0, (rest first.1).1) in
      let more : List Item × World → List Item × World = λ later. (items_by a e ++ later.0, later.1) in
      ap go (view_effect a v agree ∙ effect_is a e agree) ∙ ap more (views_are (with_effect tables p a e) vs (agree_after a e agree))

  -- ---- reports

  -- what the deliveries of views meet behind others
  abbrev plain_by : Addressing → Effect → List Item
  plain_by a (seen account as_seen os) = met_behind w (noted a.deliveries) (noted (behind a.deliveries account as_seen))
  plain_by a (reports why row) = []
  plain_by a nothing = []

  abbrev plain_after : Addressing → List ViewItem → List Item
  plain_after a [] = []
  plain_after a (v ∷ vs) = plain_by a (effect_of tables p a v) ++ plain_after (with_effect tables p a (effect_of tables p a v)) vs

  plain_more : (a : Addressing) (e : Effect) → met w (noted a.deliveries) ++ plain_by a e ≡ met w (noted (with_effect tables p a e).deliveries)
  plain_more a (seen account as_seen os) =
      let ds : List Addressed = behind a.deliveries account as_seen in
      ap (λ (after : List Session × List Item). after.1) (sym (delivered_append w.moment (noted a.deliveries) (noted ds) w.sessions))
      ∙ ap (met w) (sym (map-append (noted_for zs) a.deliveries ds))
  plain_more a (reports why row) = append-nil (met w (noted a.deliveries))
  plain_more a nothing = append-nil (met w (noted a.deliveries))

  plain_next : (a : Addressing) (e : Effect) (rest : List Item) → met w (noted a.deliveries) ++ (plain_by a e ++ rest) ≡ met w (noted (with_effect tables p a e).deliveries) ++ rest
  plain_next a e rest =
      sym (append_assoc (met w (noted a.deliveries)) (plain_by a e) rest) ∙ ap (λ (front : List Item). front ++ rest) (plain_more a e)

  plain_are : (a : Addressing) (vs : List ViewItem) → met w (noted a.deliveries) ++ plain_after a vs ≡ met w (noted (addressed_after tables p a vs).deliveries)
  plain_are a [] = append-nil (met w (noted a.deliveries))
  plain_are a (v ∷ vs) =
      let e : Effect = effect_of tables p a v in
      plain_next a e (plain_after (with_effect tables p a e) vs) ∙ plain_are (with_effect tables p a e) vs

  -- without the rows that are reported it is what the views tell
  of_effect : (a : Addressing) (e : Effect) → of_deliveries (items_by a e) ≡ plain_by a e
  of_effect a (seen account as_seen os) = all_delivered w.moment (noted (behind a.deliveries account as_seen)) (sent w (noted a.deliveries)).sessions
  of_effect a (reports cause.TooLong row) = refl
  of_effect a (reports cause.RouteFull row) = refl
  of_effect a nothing = refl

  plain_told : (a : Addressing) (vs : List ViewItem) → of_deliveries (items_after a vs) ≡ plain_after a vs
  plain_told a [] = refl
  plain_told a (v ∷ vs) =
      let e : Effect = effect_of tables p a v in
      let later : Addressing = with_effect tables p a e in
      of_append (items_by a e) (items_after later vs)
      ∙ ap (λ (front : List Item). front ++ of_deliveries (items_after later vs)) (of_effect a e)
      ∙ ap (λ (more : List Item). plain_by a e ++ more) (plain_told later vs)

  -- with the reports between them they are what the views tell
  reported_by : (all : List Item) (a : Addressing) (e : Effect) (rest : List Item) (rs : List Report) → all ≡ met w (noted a.deliveries) ++ (plain_by a e ++ rest) →
      AtLeast (length (with_effect tables p a e).deliveries) rs →
      with_reports (length a.deliveries) all (reports_by a e ++ rs) ≡ items_by a e ++ with_reports (length (with_effect tables p a e).deliveries) all rs
  reported_by all a (seen account as_seen os) rest rs is at =
      let raw : List Addressed = behind a.deliveries account as_seen in
      let before : List Addressed = a.deliveries in
      let front : List Item = met w (noted before) in
      let here : List Item = met_behind w (noted before) (noted raw) in
      let many : length front + length here ≡ length (before ++ raw) =
      ap (λ n. n + length here) (many_met before)
      ∙ ap (λ n. length before + n) (length_met w.moment (noted raw) (sent w (noted before)).sessions ∙ length-map raw (noted_for zs))
      ∙ sym (length-append before raw) in
      ap (λ (n : ℕ). with_reports n all rs) (sym (many_met before))
      ∙ ap (λ (items : List Item). with_reports (length front) items rs) is
      ∙ reports_over front here rest rs (subst (λ n. AtLeast n rs) (sym many) at)
      ∙ ap (λ (n : ℕ). here ++ with_reports n (front ++ (here ++ rest)) rs) many
      ∙ ap (λ (items : List Item). here ++ with_reports (length (before ++ raw)) items rs) (sym is)
  reported_by all a (reports why row) rest rs is at = reported_here (length a.deliveries) all why row rs
  reported_by all a nothing rest rs is at = refl

  drop_all : (xs : List Item) → drop (length xs) xs ≡ []
  drop_all [] = refl
  drop_all (x ∷ xs) = drop_all xs

  reported : (all : List Item) (a : Addressing) (vs : List ViewItem) → all ≡ met w (noted a.deliveries) ++ plain_after a vs →
      with_reports (length a.deliveries) all (reports_after tables p a vs) ≡ items_after a vs
  reported all a [] is =
      ap (drop (length a.deliveries)) (is ∙ append-nil (met w (noted a.deliveries)))
      ∙ ap (λ n. drop n (met w (noted a.deliveries))) (sym (many_met a.deliveries))
      ∙ drop_all (met w (noted a.deliveries))
  reported all a (v ∷ vs) is =
      let e : Effect = effect_of tables p a v in
      let later : Addressing = with_effect tables p a e in
      reported_by all a e (plain_after later vs) (reports_after tables p later vs) is (reports_at tables p later vs)
      ∙ ap (λ (more : List Item). items_by a e ++ more) (reported all later vs (is ∙ plain_next a e (plain_after later vs)))

  -- So what the views tell is what all deliveries meet, with the reports between.
  pub told_are : (vs : List ViewItem) →
      items_after (addressing [] []) vs
      ≡ with_reports 0 (met w (noted (addressed_after tables p (addressing [] []) vs).deliveries)) (reports_after tables p (addressing [] []) vs)
  told_are vs = sym (reported _ (addressing [] []) vs (sym (plain_are (addressing [] []) vs)))

  -- and without them what all deliveries meet
  pub plain_is : (vs : List ViewItem) →
      of_deliveries (items_after (addressing [] []) vs) ≡ met w (noted (addressed_after tables p (addressing [] []) vs).deliveries)
  plain_is vs = plain_told (addressing [] []) vs ∙ plain_are (addressing [] []) vs
