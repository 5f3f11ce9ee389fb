-- The views of a message, one after the other: whom each is for, what is told, and what is left of the subscriptions,
-- by the subscriptions before the message.
use Rattle.std.proofs.Common.{◌≡◌, ◌∙◌, ◌==◌, ◌+◌, ◌&&◌, ℕ, Bool, true, false, cond, List, [], ◌∷◌, ◌++◌, map, filter, length, Option, Some, None, slice_get, get_or, ap, sym, refl, subst, arith}
use Rattle.std.specs.Prelude.{All, AllPairs, min}
use Rattle.std.specs.List.{flat_map}
use Rattle.std.specs.Option.{option_map}
use Rattle.std.proofs.Math.Bool.{and_comm}
use Rattle.std.proofs.lemmas.Grind.{flat_map-append}
use Rattle.std.proofs.lemmas.Simd.{map-map}
use Rattle.std.proofs.lemmas.Option.{slice_get-map}
use Rattle.std.proofs.lemmas.List.{append_assoc, append-nil, length-map, map-append}
use Rattle.std.proofs.lemmas.List.Elements.{All-weaker, filter_agree, filter-append}
use Rattle.std.proofs.lemmas.List.Folds.{map_fixed}
use Rattle.std.proofs.lemmas.List.Kept.{AllPairs-filter}
use Rattle.subjects.specs.Subject.{Token, text_of}
use Rattle.permissions.specs.declared.verdict.By.{By}
use Rattle.events.specs.Messages.{Message}
use Rattle.events.specs.declared.answer.Addressed.{Addressed}
use Rattle.events.specs.declared.answer.Item.{Item}
use Rattle.events.specs.declared.answer.Item.TheVariants.{Entered, Full, RouteFull, MapTooLong, Unmapped, MappedTooLong}
use Rattle.events.specs.declared.answer.Outcome.{Outcome}
use Rattle.events.specs.declared.answer.Outcome.TheVariants.{Published}
use Rattle.policy_doc.specs.declared.exports.document.Row.{Row}
use Rattle.policy_ready.specs.imports.Across.{views}
use Rattle.policy_ready.specs.declared.imports.view.ViewItem.{ViewItem}
use Rattle.policy_ready.specs.declared.imports.view.ViewItem.TheVariants.{At, TooLong}
use Rattle.policy_ready.specs.declared.imports.view.Way.{Way}
use Rattle.policy_ready.specs.declared.imports.view.Way.TheVariants.{Own, Stream, Service, Response}
use Rattle.service_exporter.specs.Limit.{is_full}
use Rattle.service_exporter.specs.Routes.{Exporter}
use Rattle.service_routes.specs.Routes.{Name, exporter_of, spent}
use Rattle.world_sessions.specs.deliveries.Sessions.{session_of}
use Rattle.world_sessions.specs.deliveries.Delivered.{delivered, after_offer, item_of, has_room}
use Rattle.world_sessions.specs.deliveries.Replying.{noted_for}
use Rattle.world_sessions.specs.declared.deliveries.session.Session.{Session}
use Rattle.world_subscriptions.specs.Addressing.{addressed_to}
use Rattle.world_subscriptions.specs.Subscriptions.{has_same_sid}
use Rattle.world_subscriptions.specs.Limit.{unended, counted}
use Rattle.world_rows.specs.declared.subscription.Subscription.{Subscription}
use Rattle.world.proofs.Handed.{both}
use Rattle.world_subscriptions.specs.queue_choice.Choices.{chosen, chosen_number}
use Rattle.world_subscriptions.specs.groups.Served.{is_member, members, is_the, is_served_by, is_served, served}
use Rattle.world_subscriptions.proofs.groups.Chosen.{filter-map}
use Rattle.world.specs.World.{World}
use Rattle.world.specs.Granting.{counted_on, ended_on}
use Rattle.world.specs.Routing.{is_of_delivery, of_deliveries}
use Rattle.world.specs.Routing.{View, view_of, view_with, is_admitted, routed, responses_on, route_for, next_subject, in_view, in_views}
use Rattle.world.specs.Routing.{is_nil, requested, requested_by}
use Rattle.world.specs.Transition.{seen_as}
use Rattle.hub.specs.Sound.{is_to_receive}
use Rattle.hub.specs.Guarantee.{Opening, ViewPart, Sending, told_by, sendings, item_names, names_of, items_of, received_more, times_entered, with_opening, routes_behind}
use Rattle.hub.proofs.Lists.{filter_same_on}
use Rattle.hub.proofs.Grants.{all_pass}
use Rattle.hub.proofs.Soundness.{HasCount, IsStillToReceive, unended-same}
use Rattle.hub.proofs.Entering.{once, times-append, counted-more, ended-more, received-none}
use Rattle.hub.proofs.Deliveries.{map_same_on, sent, items_after, one_each}

-- ---- lists

-- what fails a test goes, twice over, where what has failed it once fails it still
filter-again : {X : Type 0} (p : X → Bool) (f g h : X → X) (xs : List X) → ((x : X) → g (f x) ≡ h x) → ((x : X) → p (f x) ≡ false → p (h x) ≡ false) →
    filter p (map g (filter p (map f xs))) ≡ filter p (map h xs)
filter-again p f g h [] same still = refl
filter-again {X} p f g h (x ∷ xs) same still = here (p (f x)) refl (filter-again p f g h xs same still)
  where
    left : List X
    left = filter p (map f xs)

    all : List X
    all = filter p (map h xs)

    here : (b : Bool) → p (f x) ≡ b → filter p (map g left) ≡ all → filter p (map g (cond b (f x ∷ left) left)) ≡ cond (p (h x)) (h x ∷ all) all
    here true is later =
        ap (λ y. cond (p y) (y ∷ filter p (map g left)) (filter p (map g left))) (same x) ∙ ap (λ ys. cond (p (h x)) (h x ∷ ys) ys) later
    here false is later = later ∙ sym (ap (λ c. cond c (h x ∷ all) all) (still x is))

-- ---- deliveries after deliveries

pub delivered_first : (now : ℕ) (all more : List Addressed) (zs : List Session) → (delivered now (all ++ more) zs).0 ≡ (delivered now more (delivered now all zs).0).0
delivered_first now [] more zs = refl
delivered_first now (a ∷ all) more zs = delivered_first now all more (after_offer now a zs)

pub delivered_items : (now : ℕ) (all more : List Addressed) (zs : List Session) → (delivered now (all ++ more) zs).1 ≡ (delivered now all zs).1 ++ (delivered now more (delivered now all zs).0).1
delivered_items now [] more zs = refl
delivered_items now (a ∷ all) more zs = ap (λ items. item_of a zs ∷ items) (delivered_items now all more (after_offer now a zs))

-- ---- those that a message is for, whatever they have received

module _ (told : List Item) where
  abbrev more : Subscription → Subscription
  more = received_more told

  the-more : (o : Option Subscription) (s : Subscription) → is_the (option_map more o) (more s) ≡ is_the o s
  the-more None s = refl
  the-more (Some one) s = refl

  chosen-more : (word : ℕ) (name : List ℕ) (subs : List Subscription) → chosen word (members name (map more subs)) ≡ option_map more (chosen word (members name subs))
  chosen-more word name subs =
      ap (chosen word) (filter-map (is_member name) more subs)
      ∙ ap (λ n. slice_get-at n) (length-map (members name subs) more)
      ∙ slice_get-map more (members name subs) (chosen_number word (length (members name subs)))
    where
      slice_get-at : ℕ → Option Subscription
      slice_get-at n = slice_get (map more (members name subs)) (chosen_number word n)

  served_by-more : (word : ℕ) (subs : List Subscription) (s : Subscription) (queue : Option (List Token)) → is_served_by word (map more subs) (more s) queue ≡ is_served_by word subs s queue
  served_by-more word subs s None = refl
  served_by-more word subs s (Some q) =
      ap (λ o. is_the o (more s)) (chosen-more word (text_of q) subs) ∙ the-more (chosen word (members (text_of q) subs)) s

  served-more : (word : ℕ) (subs : List Subscription) → served word (map more subs) ≡ map more (served word subs)
  served-more word subs =
      filter-map (is_served word (map more subs)) more subs
      ∙ ap (map more) (filter_agree (λ s. is_served word (map more subs) (more s)) (is_served word subs) (λ s. served_by-more word subs s s.queue) subs)

-- ---- the views

-- what stays the same over the views of one message: the world before it, who has published it and on which subject, the message as
-- it is sent on and its word, and who may be sent it in an account, on a subject
pub record Setting : Type 0 where
  pub world : World
  pub publisher : Session
  pub asked : List Token
  pub message : Message
  pub word : ℕ
  pub may : List ℕ → List Token → Subscription → Bool

-- those that may be sent it are those that are admitted, and no two subscriptions have the same connection and sid
pub record IsSetting (c : Setting) : Type 0 where
  pub admits : (account : List ℕ) (subject : List Token) → All (λ s. is_admitted c.world.sessions c.publisher (view_of account subject c.message) s ≡ c.may account subject s) c.world.subscriptions
  pub apart : AllPairs (λ s t. has_same_sid s t ≡ false) c.world.subscriptions

-- the subscriptions once this was told, and those of them that may be sent the message in an account, on a subject
abbrev pub standing : Setting → List Item → List Subscription
standing c told = filter is_to_receive (map (received_more told) c.world.subscriptions)

abbrev pub able : Setting → List Item → List ℕ → List Token → List Subscription
able c told account subject = filter (λ (s : Subscription). c.may account subject s && is_to_receive (received_more told s)) c.world.subscriptions

-- what of a message has been handled: what was told of it, the sessions, and the response routes
pub record Stage : Type 0 where
  pub told : List Item
  pub sessions : List Session
  pub routes : List (Name × Exporter)

-- What becomes of a view: the message is seen so and goes to those that it is for, once this route is opened; or it goes to
-- nobody, and nothing is told, or a row is reported that no route can be opened for, or that isn't crossed.
pub data Fate : Type 0 where
  Delivered : View → Option Opening → Fate
  ForNobody : Fate
  WithoutRoute : Row → Fate
  NotCrossed : Row → Fate

-- a request that wants a response, where nobody may be sent it or somebody, and its exporter is full or isn't
abbrev pub of_reply : Bool → Bool → Setting → List (Name × Exporter) → List ℕ → List Token → Row → List Token → Fate
of_reply true full c routes account subject row reply = ForNobody
of_reply false true c routes account subject row reply = WithoutRoute row
of_reply false false c routes account subject row reply =
    Delivered (view_with account subject (Some (next_subject c.word (exporter_of account routes))) c.message)
    (Some record { exporter = account; route = route_for c.world.policy row reply c.word c.world.moment })

abbrev pub of_request : Setting → Stage → List ℕ → List Token → Row → Option (List Token) → Fate
of_request c now account subject row None = Delivered (view_of account subject c.message) None
of_request c now account subject row (Some reply) =
    of_reply (is_nil (able c now.told account subject)) (is_full 1 c.world.moment (exporter_of account now.routes)) c now.routes account subject row reply

abbrev pub of_way : Setting → Stage → List ℕ → List Token → Way → Fate
of_way c now account subject Own = Delivered (view_of account subject c.message) None
of_way c now account subject (Stream row) = Delivered (view_of account subject c.message) None
of_way c now account subject (Service row) = of_request c now account subject row c.message.reply
of_way c now account subject (Response row) = Delivered (view_with account subject None c.message) None

abbrev pub fate : Setting → Stage → ViewItem → Fate
fate c now (At account subject way) = of_way c now account subject way
fate c now (TooLong row) = NotCrossed row

-- the message as it is seen; what goes to nobody is seen by nobody
abbrev pub seen_by : Message → Fate → View
seen_by m (Delivered seen opens) = seen
seen_by m ForNobody = record { account = []; message = m }
seen_by m (WithoutRoute row) = record { account = []; message = m }
seen_by m (NotCrossed row) = record { account = []; message = m }

-- those that it goes to, and what they are sent
abbrev pub whom : Setting → List Item → Fate → List Subscription
whom c told (Delivered seen opens) = served c.word (able c told seen.account seen.message.subject)
whom c told ForNobody = []
whom c told (WithoutRoute row) = []
whom c told (NotCrossed row) = []

abbrev pub to_each : Message → List Subscription → List Sending
to_each m subs = map (λ (s : Subscription). record { message = m; to = s }) subs

abbrev pub sent_in : Setting → List Item → Fate → List Sending
sent_in c told f = to_each (seen_by c.message f).message (whom c told f)

-- what is told of it, the route that it opens, and the sessions after it
abbrev pub told_in : Setting → Stage → Fate → List Item
told_in c now (Delivered seen opens) = items_after c.world.sessions c.world.moment (sent_in c now.told (Delivered seen opens)) now.sessions
told_in c now ForNobody = []
told_in c now (WithoutRoute row) = RouteFull row ∷ []
told_in c now (NotCrossed row) = MapTooLong row ∷ []

abbrev pub opens_in : Fate → Option Opening
opens_in (Delivered seen opens) = opens
opens_in ForNobody = None
opens_in (WithoutRoute row) = None
opens_in (NotCrossed row) = None

abbrev pub sessions_after : Setting → Stage → Fate → List Session
sessions_after c now f = (delivered c.world.moment (map (sent c.world.sessions) (sent_in c now.told f)) now.sessions).0

-- what a view gives, and what is left after it
abbrev pub part_by : Setting → Stage → ViewItem → Fate → ViewPart
part_by c now v f = record { view = v; seen = seen_by c.message f; subs = whom c now.told f; items = told_in c now f; opens = opens_in f }

abbrev pub part_in : Setting → Stage → ViewItem → ViewPart
part_in c now v = part_by c now v (fate c now v)

abbrev pub behind : Setting → Stage → Fate → Stage
behind c now f = record { told = now.told ++ told_in c now f; sessions = sessions_after c now f; routes = with_opening (opens_in f) now.routes }

abbrev pub items_in : ViewPart → List Item
items_in p = p.items

-- what each of some views gives, and what is left after all
abbrev pub parts_in : Setting → Stage → List ViewItem → List ViewPart
parts_in c now [] = []
parts_in c now (v ∷ vs) = part_in c now v ∷ parts_in c (behind c now (fate c now v)) vs

abbrev pub stage_in : Setting → Stage → List ViewItem → Stage
stage_in c now [] = now
stage_in c now (v ∷ vs) = stage_in c (behind c now (fate c now v)) vs

-- the world at a stage
abbrev pub world_at : Setting → Stage → World
world_at c now = record c.world { sessions = now.sessions; subscriptions = standing c now.told; routes = now.routes }

-- ---- one view

admitted-are : (c : Setting) → IsSetting c → (told : List Item) (account : List ℕ) (subject : List Token) →
    filter (is_admitted c.world.sessions c.publisher (view_of account subject c.message)) (standing c told) ≡ map (received_more told) (able c told account subject)
admitted-are c is told account subject =
    ap (filter admitted) (filter-map is_to_receive more subs)
    ∙ filter-map admitted more (filter (λ s. is_to_receive (more s)) subs)
    ∙ ap (map more) (both admitted (λ s. is_to_receive (more s)) subs
    ∙ filter_same_on (λ s. is_to_receive (more s) && admitted s) (λ s. c.may account subject s && is_to_receive (more s)) subs
    (All-weaker (λ s. admitted s ≡ c.may account subject s) (λ s. (is_to_receive (more s) && admitted s) ≡ (c.may account subject s && is_to_receive (more s)))
    (λ s same. and_comm (is_to_receive (more s)) (admitted s) ∙ ap (λ b. b && is_to_receive (more s)) same) subs (is.admits account subject)))
  where
    admitted : Subscription → Bool
    admitted = is_admitted c.world.sessions c.publisher (view_of account subject c.message)

    more : Subscription → Subscription
    more = received_more told

    subs : List Subscription
    subs = c.world.subscriptions

addressed-alike : (zs : List Session) (told : List Item) (m : Message) (subs : List Subscription) → map (noted_for zs) (map (addressed_to m) (map (received_more told) subs)) ≡ map (sent zs) (to_each m subs)
addressed-alike zs told m [] = refl
addressed-alike zs told m (s ∷ subs) = ap (λ rest. sent zs record { message = m; to = s } ∷ rest) (addressed-alike zs told m subs)

deliveries-are : (c : Setting) → IsSetting c → (told : List Item) (seen : View) →
    map (noted_for c.world.sessions) (map (addressed_to seen.message) (served c.word (filter (is_admitted c.world.sessions c.publisher seen) (standing c told))))
    ≡ map (sent c.world.sessions) (to_each seen.message (served c.word (able c told seen.account seen.message.subject)))
deliveries-are c is told seen =
    ap (λ subs. map (noted_for c.world.sessions) (map (addressed_to seen.message) subs)) (ap (served c.word) (admitted-are c is told seen.account seen.message.subject) ∙ served-more told c.word (able c told seen.account seen.message.subject))
    ∙ addressed-alike c.world.sessions told seen.message (served c.word (able c told seen.account seen.message.subject))

-- each of those that it is for has one item
pub named-each : (c : Setting) (now : Stage) (seen : View) (opens : Option Opening) →
    map item_names (told_in c now (Delivered seen opens)) ≡ map (λ (s : Subscription). Some (names_of s)) (whom c now.told (Delivered seen opens))
named-each c now seen opens =
    one_each c.world.sessions c.world.moment (sent_in c now.told (Delivered seen opens)) now.sessions
    ∙ map-map (λ (s : Sending). Some (names_of s.to)) (λ (s : Subscription). record { message = seen.message; to = s }) (whom c now.told (Delivered seen opens))

whom-apart : (c : Setting) → IsSetting c → (told : List Item) (account : List ℕ) (subject : List Token) → AllPairs (λ s t. has_same_sid s t ≡ false) (served c.word (able c told account subject))
whom-apart c is told account subject =
    AllPairs-filter (λ s t. has_same_sid s t ≡ false) (is_served c.word (able c told account subject)) (able c told account subject)
    (AllPairs-filter (λ s t. has_same_sid s t ≡ false) (λ (s : Subscription). c.may account subject s && is_to_receive (received_more told s)) c.world.subscriptions is.apart)

-- what has been told is counted
standing-more : (c : Setting) → IsSetting c → (now : Stage) (seen : View) (opens : Option Opening) →
    unended (map (counted (told_in c now (Delivered seen opens))) (standing c now.told)) ≡ standing c (now.told ++ told_in c now (Delivered seen opens))
standing-more c is now seen opens =
    unended-same (map (counted items) (standing c now.told))
    ∙ filter-again is_to_receive (received_more now.told) (counted items) (received_more (now.told ++ items)) c.world.subscriptions
    (λ s. counted-more now.told items s (once s (whom c now.told (Delivered seen opens)) items (named-each c now seen opens) (whom-apart c is now.told seen.account seen.message.subject)))
    (λ s. ended-more now.told items s)
  where
    items : List Item
    items = told_in c now (Delivered seen opens)

-- the message goes to those that it is for, once a route is opened
routed-is : (c : Setting) → IsSetting c → (now : Stage) (seen : View) (opens : Option Opening) →
    routed c.world.sessions (record (world_at c now) { routes = with_opening opens now.routes }) c.publisher seen c.word
    ≡ (told_in c now (Delivered seen opens), world_at c (behind c now (Delivered seen opens)))
routed-is c is now seen opens =
    ap (λ (all : List Addressed). ((delivered c.world.moment all now.sessions).1, record c.world { sessions = (delivered c.world.moment all now.sessions).0; subscriptions = unended (map (counted (delivered c.world.moment all now.sessions).1) (standing c now.told)); routes = with_opening opens now.routes })) (deliveries-are c is now.told seen)
    ∙ ap (λ (subs : List Subscription). (told_in c now f, record c.world { sessions = sessions_after c now f; subscriptions = subs; routes = with_opening opens now.routes })) (standing-more c is now seen opens)
  where
    f : Fate
    f = Delivered seen opens

-- what tells of no delivery is counted by nobody
same-count : (told items : List Item) (s : Subscription) → times_entered items s ≡ 0 → received_more told s ≡ received_more (told ++ items) s
same-count told items s none = ap (λ n. record s { received = min 18446744073709551615 (s.received + n) }) (let e = times-append told items s in omega (arith, e, none))

standing-same : (c : Setting) (told items : List Item) → ((s : Subscription) → times_entered items s ≡ 0) → standing c told ≡ standing c (told ++ items)
standing-same c told items none =
    ap (filter is_to_receive) (map_same_on (received_more told) (received_more (told ++ items)) c.world.subscriptions (λ k d h. same-count told items (get_or c.world.subscriptions k d) (none (get_or c.world.subscriptions k d))))

-- and nothing else changes
reported-is : (c : Setting) (now : Stage) (items : List Item) → ((s : Subscription) → times_entered items s ≡ 0) →
    ◌≡◌ {A = List Item × World} (items, world_at c now) (items, world_at c record { told = now.told ++ items; sessions = now.sessions; routes = now.routes })
reported-is c now items none =
    ap (λ (subs : List Subscription). (items, record c.world { sessions = now.sessions; subscriptions = subs; routes = now.routes })) (standing-same c now.told items none)

-- ---- requests

nil-map : {X Y : Type 0} (f : X → Y) (xs : List X) → is_nil (map f xs) ≡ is_nil xs
nil-map f [] = refl
nil-map f (x ∷ xs) = refl

request-is : (c : Setting) → IsSetting c → (now : Stage) (account : List ℕ) (subject : List Token) (row : Row) (reply : Option (List Token)) →
    requested c.world.sessions (world_at c now) c.publisher c.message c.word account subject row reply
    ≡ (told_in c now (of_request c now account subject row reply), world_at c (behind c now (of_request c now account subject row reply)))
request-is c is now account subject row None = routed-is c is now (view_of account subject c.message) None
request-is c is now account subject row (Some reply) =
    ap (λ nobody. requested_by nobody full c.world.sessions (world_at c now) c.publisher c.message c.word account subject row reply)
    (ap is_nil (admitted-are c is now.told account subject) ∙ nil-map (received_more now.told) (able c now.told account subject))
    ∙ here (is_nil (able c now.told account subject)) full
  where
    full : Bool
    full = is_full 1 c.world.moment (exporter_of account now.routes)

    here : (b f : Bool) →
        requested_by b f c.world.sessions (world_at c now) c.publisher c.message c.word account subject row reply
        ≡ (told_in c now (of_reply b f c now.routes account subject row reply), world_at c (behind c now (of_reply b f c now.routes account subject row reply)))
    here true f = reported-is c now [] (λ s. refl)
    here false true = reported-is c now (RouteFull row ∷ []) (λ s. refl)
    here false false =
        routed-is c is now (view_with account subject (Some (next_subject c.word (exporter_of account now.routes))) c.message)
        (Some record { exporter = account; route = route_for c.world.policy row reply c.word c.world.moment })

-- what a view gives, and what it leaves
view-is : (c : Setting) → IsSetting c → (now : Stage) (v : ViewItem) →
    in_view c.world.sessions (world_at c now) c.publisher c.message c.word v ≡ (told_in c now (fate c now v), world_at c (behind c now (fate c now v)))
view-is c is now (At account subject Own) = routed-is c is now (view_of account subject c.message) None
view-is c is now (At account subject (Stream row)) = routed-is c is now (view_of account subject c.message) None
view-is c is now (At account subject (Service row)) = request-is c is now account subject row c.message.reply
view-is c is now (At account subject (Response row)) = routed-is c is now (view_with account subject None c.message) None
view-is c is now (TooLong row) = reported-is c now (MapTooLong row ∷ []) (λ s. refl)

-- ---- all of them

pub views-are : (c : Setting) → IsSetting c → (now : Stage) (vs : List ViewItem) →
    in_views c.world.sessions (world_at c now) c.publisher c.message c.word vs ≡ (flat_map items_in (parts_in c now vs), world_at c (stage_in c now vs))
views-are c is now [] = refl
views-are c is now (v ∷ vs) =
    ap (λ (first : List Item × World). (first.0 ++ (in_views c.world.sessions first.1 c.publisher c.message c.word vs).0, (in_views c.world.sessions first.1 c.publisher c.message c.word vs).1)) (view-is c is now v)
    ∙ ap (λ (rest : List Item × World). (told_in c now (fate c now v) ++ rest.0, rest.1)) (views-are c is (behind c now (fate c now v)) vs)

-- what was told at the end, and the routes then
told-are : (c : Setting) (now : Stage) (vs : List ViewItem) → (stage_in c now vs).told ≡ now.told ++ flat_map items_in (parts_in c now vs)
told-are c now [] = sym (append-nil now.told)
told-are c now (v ∷ vs) = told-are c (behind c now (fate c now v)) vs ∙ append_assoc now.told (told_in c now (fate c now v)) (flat_map items_in (parts_in c (behind c now (fate c now v)) vs))

pub routes-are : (c : Setting) (now : Stage) (vs : List ViewItem) → (stage_in c now vs).routes ≡ routes_behind now.routes (parts_in c now vs)
routes-are c now [] = refl
routes-are c now (v ∷ vs) = routes-are c (behind c now (fate c now v)) vs

-- before anything is told all stand
pub standing-first : (c : Setting) → All HasCount c.world.subscriptions → All IsStillToReceive c.world.subscriptions → standing c [] ≡ c.world.subscriptions
standing-first c counts limits =
    ap (filter is_to_receive) (map_fixed (received_more []) c.world.subscriptions (λ k d h. received-none (get_or c.world.subscriptions k d) (counts k d h)))
    ∙ all_pass is_to_receive c.world.subscriptions limits

-- the views of the message, what they give, and what is told of it
abbrev pub views_of : Setting → List ViewItem
views_of c = views c.world.policy c.publisher.user.account c.message.subject (responses_on c.world.routes c.publisher.user.account c.message.subject)

abbrev pub first_stage : Setting → By → Stage
first_stage c by = record { told = []; sessions = counted_on by c.publisher.conn c.asked c.world.sessions; routes = c.world.routes }

abbrev pub last_stage : Setting → By → Stage
last_stage c by = stage_in c (first_stage c by) (views_of c)

abbrev pub parts_of : Setting → By → List ViewPart
parts_of c by = parts_in c (first_stage c by) (views_of c)

abbrev pub told_of : Setting → By → List Item
told_of c by = flat_map items_in (parts_of c by)

-- it is what the transition makes of it
pub seen-is : (c : Setting) → IsSetting c → standing c [] ≡ c.world.subscriptions → (by : By) →
    seen_as c.world c.publisher by c.asked c.message c.word
    ≡ (
      Published by (told_of c by),
      record c.world {
        sessions = ended_on by c.publisher.conn c.asked (last_stage c by).sessions;
        subscriptions = standing c (told_of c by);
        routes = spent c.publisher.user.account c.message.subject (last_stage c by).routes;
      },
    )
seen-is c is first by =
    ap (λ (subs : List Subscription). finished (in_views c.world.sessions (record c.world { sessions = (first_stage c by).sessions; subscriptions = subs }) c.publisher c.message c.word (views_of c))) (sym first)
    ∙ ap finished (views-are c is (first_stage c by) (views_of c))
    ∙ ap (λ (told : List Item). finished (told_of c by, record c.world { sessions = (last_stage c by).sessions; subscriptions = standing c told; routes = (last_stage c by).routes })) (told-are c (first_stage c by) (views_of c))
  where
    finished : List Item × World → Outcome × World
    finished r = (Published by r.0, record r.1 { sessions = ended_on by c.publisher.conn c.asked r.1.sessions; routes = spent c.publisher.user.account c.message.subject r.1.routes })

-- the deliveries of all views are one list, delivered at once
pub sessions-are : (c : Setting) (now : Stage) (vs : List ViewItem) →
    (delivered c.world.moment (map (sent c.world.sessions) (sendings (parts_in c now vs))) now.sessions).0 ≡ (stage_in c now vs).sessions
sessions-are c now [] = refl
sessions-are c now (v ∷ vs) =
    ap (λ (all : List Addressed). (delivered c.world.moment all now.sessions).0) (map-append (sent c.world.sessions) first (sendings rest))
    ∙ delivered_first c.world.moment (map (sent c.world.sessions) first) (map (sent c.world.sessions) (sendings rest)) now.sessions
    ∙ sessions-are c (behind c now (fate c now v)) vs
  where
    first : List Sending
    first = sent_in c now.told (fate c now v)

    rest : List ViewPart
    rest = parts_in c (behind c now (fate c now v)) vs

-- and what they meet is told, beside the rows that are reported
pub of-deliveries : (zs : List Session) (now : ℕ) (ss : List Sending) (ys : List Session) → of_deliveries (items_after zs now ss ys) ≡ items_after zs now ss ys
of-deliveries zs now [] ys = refl
of-deliveries zs now (s ∷ ss) ys = here (has_room (session_of ys s.to.conn)) (of-deliveries zs now ss (after_offer now (sent zs s) ys))
  where
    rest : List Item
    rest = items_after zs now ss (after_offer now (sent zs s) ys)

    here : (b : Bool) → of_deliveries rest ≡ rest →
        of_deliveries (cond b (Entered s.to.conn s.to.sid) (Full s.to.conn s.to.sid) ∷ rest) ≡ cond b (Entered s.to.conn s.to.sid) (Full s.to.conn s.to.sid) ∷ rest
    here true later = ap (λ l. Entered s.to.conn s.to.sid ∷ l) later
    here false later = ap (λ l. Full s.to.conn s.to.sid ∷ l) later

met-in : (c : Setting) (now : Stage) (f : Fate) → items_after c.world.sessions c.world.moment (sent_in c now.told f) now.sessions ≡ of_deliveries (told_in c now f)
met-in c now (Delivered seen opens) = sym (of-deliveries c.world.sessions c.world.moment (sent_in c now.told (Delivered seen opens)) now.sessions)
met-in c now ForNobody = refl
met-in c now (WithoutRoute row) = refl
met-in c now (NotCrossed row) = refl

pub items-are : (c : Setting) (now : Stage) (vs : List ViewItem) →
    items_after c.world.sessions c.world.moment (sendings (parts_in c now vs)) now.sessions ≡ of_deliveries (flat_map items_in (parts_in c now vs))
items-are c now [] = refl
items-are c now (v ∷ vs) =
    ap (λ (all : List Addressed). (delivered c.world.moment all now.sessions).1) (map-append (sent c.world.sessions) first (sendings rest))
    ∙ delivered_items c.world.moment (map (sent c.world.sessions) first) (map (sent c.world.sessions) (sendings rest)) now.sessions
    ∙ ap (λ (l : List Item). l ++ items_after c.world.sessions c.world.moment (sendings rest) (sessions_after c now (fate c now v))) (met-in c now (fate c now v))
    ∙ ap (λ (l : List Item). of_deliveries (told_in c now (fate c now v)) ++ l) (items-are c (behind c now (fate c now v)) vs)
    ∙ sym (filter-append is_of_delivery (told_in c now (fate c now v)) (flat_map items_in rest))
  where
    first : List Sending
    first = sent_in c now.told (fate c now v)

    rest : List ViewPart
    rest = parts_in c (behind c now (fate c now v)) vs

-- a connection's items are of deliveries
pub items-of : (conn : ℕ) (items : List Item) → items_of conn items ≡ items_of conn (of_deliveries items)
items-of conn [] = refl
items-of conn (Entered c sid ∷ items) = ap (λ l. cond (c == conn) (Entered c sid ∷ l) l) (items-of conn items)
items-of conn (Full c sid ∷ items) = ap (λ l. cond (c == conn) (Full c sid ∷ l) l) (items-of conn items)
items-of conn (RouteFull row ∷ items) = items-of conn items
items-of conn (MapTooLong row ∷ items) = items-of conn items
items-of conn (Unmapped ∷ items) = items-of conn items
items-of conn (MappedTooLong index ∷ items) = items-of conn items

-- there is a part for each view
pub parts-views : (c : Setting) (now : Stage) (vs : List ViewItem) → map (λ (p : ViewPart). p.view) (parts_in c now vs) ≡ vs
parts-views c now [] = refl
parts-views c now (v ∷ vs) = ap (λ rest. v ∷ rest) (parts-views c (behind c now (fate c now v)) vs)

-- ---- each of them

-- what holds of each part, behind those before it
abbrev pub EachPart : (List ViewPart → ViewPart → Type 0) → List ViewPart → List ViewPart → Type 0
EachPart P done [] = Unit {0}
EachPart P done (p ∷ ps) = P done p × EachPart P (done ++ p ∷ []) ps

pub each-part : (P : List ViewPart → ViewPart → Type 0) (done ps : List ViewPart) → EachPart P done ps →
    (before : List ViewPart) (p : ViewPart) (later : List ViewPart) → ps ≡ before ++ p ∷ later → P (done ++ before) p
each-part P done [] each [] p later split = absurd (cc)
each-part P done [] each (b ∷ before) p later split = absurd (cc)
each-part P done (q ∷ ps) each [] p later split =
    let same : q ≡ p = cc in
    subst (P (done ++ [])) same (subst (λ (l : List ViewPart). P l q) (sym (append-nil done)) each.0)
each-part P done (q ∷ ps) each (b ∷ before) p later split =
    let same : q ≡ b = cc in
    let rest : ps ≡ before ++ p ∷ later = cc in
    subst (λ (l : List ViewPart). P l p) (append_assoc done (b ∷ []) before)
    (subst (λ (r : ViewPart). P ((done ++ r ∷ []) ++ before) p) same (each-part P (done ++ q ∷ []) ps each.1 before p later rest))

-- what one part more tells, and opens
told-more : (done : List ViewPart) (p : ViewPart) (told : List Item) → told ≡ told_by done → told ++ p.items ≡ told_by (done ++ p ∷ [])
told-more done p told is =
    ap (λ l. l ++ p.items) is ∙ ap (λ l. told_by done ++ l) (sym (append-nil p.items)) ∙ sym (flat_map-append items_in done (p ∷ []))

routes-more : (first : List (Name × Exporter)) (done : List ViewPart) (p : ViewPart) → with_opening p.opens (routes_behind first done) ≡ routes_behind first (done ++ p ∷ [])
routes-more first [] p = refl
routes-more first (q ∷ done) p = routes-more (with_opening q.opens first) done p

-- what was told, and the routes that stand, are those that these parts leave
pub record IsBehind (c : Setting) (done : List ViewPart) (now : Stage) : Type 0 where
  pub told : now.told ≡ told_by done
  pub routes : now.routes ≡ routes_behind c.world.routes done

behind-more : (c : Setting) (done : List ViewPart) (now : Stage) (v : ViewItem) → IsBehind c done now → IsBehind c (done ++ part_in c now v ∷ []) (behind c now (fate c now v))
behind-more c done now v is = record {
  told = told-more done (part_in c now v) now.told is.told;
  routes = ap (with_opening (opens_in (fate c now v))) is.routes ∙ routes-more c.world.routes done (part_in c now v);
}

pub each-in : (P : List ViewPart → ViewPart → Type 0) (c : Setting) → ((done : List ViewPart) (now : Stage) (v : ViewItem) → IsBehind c done now → P done (part_in c now v)) →
    (done : List ViewPart) (now : Stage) (vs : List ViewItem) → IsBehind c done now → EachPart P done (parts_in c now vs)
each-in P c of done now [] is = tt
each-in P c of done now (v ∷ vs) is = (
  of done now v is,
  each-in P c of (done ++ part_in c now v ∷ []) (behind c now (fate c now v)) vs (behind-more c done now v is),
)
