-- A message addressed in its views one after the other, before any delivery is handed over, with the import rows that are
-- reported between the deliveries and the response routes that are to be opened (docs/ARCHITECTURE.md, "Decide, then do").
use Rattle.std.specs.Prelude.{◌≡◌, ◌++◌, ◌-◌, ℕ, Bool, true, false, List, [], ◌∷◌, Option, Some, None, length, take, drop}
use Rattle.subjects.specs.Subject.{Token}
use Rattle.events.specs.Messages.{Message}
use Rattle.events.specs.declared.answer.Addressed.{Addressed}
use Rattle.events.specs.declared.answer.Item.{Item}
use Rattle.events.specs.declared.answer.Item.TheVariants.{RouteFull, MapTooLong}
use Rattle.policy_doc.specs.declared.exports.document.Row.{Row}
use Rattle.policy_ready.specs.imports.Across.{views}
use Rattle.policy_ready.specs.declared.imports.view.ViewItem.{ViewItem}
use Rattle.policy_ready.specs.declared.imports.view.ViewItem.TheVariants.{At, TooLong}
use Rattle.policy_ready.specs.declared.imports.view.Way.{Way}
use Rattle.policy_ready.specs.declared.imports.view.Way.TheVariants.{Own, Stream, Service, Response}
use Rattle.policy_doc.specs.declared.document.PolicyDoc.{PolicyDoc}
use Rattle.service_exporter.specs.Limit.{is_full}
use Rattle.service_exporter.specs.Routes.{Exporter}
use Rattle.service_routes.specs.Routes.{Name, exporter_of, pruned, spent}
use Rattle.world_sessions.specs.declared.deliveries.session.Session.{Session}
use Rattle.world_rows.specs.declared.subscription.Subscription.{Subscription}
pub use Rattle.receivers.specs.views.CachedViews.{others_in, others_with}
use Rattle.world_views.specs.addressing.Standing.{addressed_behind_in, is_for_nobody}
use Rattle.receivers.specs.views.CachedViews.{under_subject}
use Rattle.world_views.specs.Changing.{changed_by, opened_each, AreNoted}
use Rattle.world_views.specs.Requests.{responses_on, route_for, next_subject}
use Rattle.world_views.specs.declared.across.Told.{Told}
use Rattle.world_views.specs.declared.changing.Opening.{Opening}
use Rattle.world_views.specs.declared.viewing.Cause.{Cause}
use Rattle.world_views.specs.declared.viewing.Cause.TheVariants as cause
use Rattle.world_views.specs.declared.viewing.Report.{Report}

-- The tables in which a message is addressed.
pub record Tables : Type 0 where
  pub policy : PolicyDoc
  pub now : ℕ
  pub sessions : List Session
  pub subscriptions : List Subscription
  -- the response routes that live at that moment
  pub routes : List (Name × Exporter)

-- those whose routes are these, dead ones among them
abbrev pub tables_at : PolicyDoc → ℕ → List Session → List Subscription → List (Name × Exporter) → Tables
tables_at doc now zs subs routes = record { policy = doc; now = now; sessions = zs; subscriptions = subs; routes = pruned now routes }

-- A message that a session publishes, with its word.
pub record Publication : Type 0 where
  pub publisher : Session
  pub message : Message
  pub word : ℕ

abbrev pub publication : Session → Message → ℕ → Publication
publication z m word = record { publisher = z; message = m; word = word }

-- What it is addressed to so far: its deliveries, and the routes that it opens.
pub record Addressing : Type 0 where
  pub deliveries : List Addressed
  pub openings : List Opening

abbrev pub addressing : List Addressed → List Opening → Addressing
addressing ds os = record { deliveries = ds; openings = os }

-- ---- what a view adds

-- the message as it is seen in an account, with the routes that it opens there; or a row is reported; or nothing
pub data Effect : Type 0 where
  seen : Name → Message → List Opening → Effect
  reports : Cause → Row → Effect
  nothing : Effect

-- the message under another subject, with another reply or none
abbrev pub seen_with : List Token → Option (List Token) → Message → Message
seen_with s reply m = record m { subject = s; reply = reply }

abbrev pub opening_for : Name → PolicyDoc → Row → List Token → ℕ → ℕ → Opening
opening_for exporter doc row reply word now = record { exporter = exporter; route = route_for doc row reply word now }

-- a request that wants a response: whether it is for nobody, and whether the exporter is full
abbrev pub requested_if : Bool → Bool → Tables → Publication → List (Name × Exporter) → Name → List Token → Row → List Token → Effect
requested_if true full t m routes account s row reply = nothing
requested_if false true t m routes account s row reply = reports cause.RouteFull row
requested_if false false t m routes account s row reply =
    seen account (seen_with s (Some (next_subject m.word (exporter_of account routes))) m.message) (opening_for account t.policy row reply m.word t.now ∷ [])

abbrev pub request_in : Tables → Publication → Addressing → Name → List Token → Row → Option (List Token) → Effect
request_in t m a account s row None = seen account (under_subject s m.message) []
request_in t m a account s row (Some reply) =
    requested_if (is_for_nobody t.sessions t.subscriptions a.deliveries m.publisher account s) (is_full 1 t.now (exporter_of account (opened_each a.openings t.routes)))
    t m (opened_each a.openings t.routes) account s row reply

abbrev pub by_way : Tables → Publication → Addressing → Name → List Token → Way → Effect
by_way t m a account s Own = seen account (under_subject s m.message) []
by_way t m a account s (Stream row) = seen account (under_subject s m.message) []
by_way t m a account s (Service row) = request_in t m a account s row m.message.reply
by_way t m a account s (Response row) = seen account (seen_with s None m.message) []

abbrev pub effect_of : Tables → Publication → Addressing → ViewItem → Effect
effect_of t m a (At account s way) = by_way t m a account s way
effect_of t m a (TooLong row) = reports cause.TooLong row

-- ---- several views

abbrev pub with_effect : Tables → Publication → Addressing → Effect → Addressing
with_effect t m a (seen account as_seen os) =
    addressing (a.deliveries ++ addressed_behind_in t.sessions t.subscriptions a.deliveries m.publisher as_seen m.word account) (a.openings ++ os)
with_effect t m a (reports why row) = a
with_effect t m a nothing = a

abbrev pub addressed_after : Tables → Publication → Addressing → List ViewItem → Addressing
addressed_after t m a [] = a
addressed_after t m a (v ∷ vs) = addressed_after t m (with_effect t m a (effect_of t m a v)) vs

-- the rows that these views report, each with the number of deliveries before it
abbrev pub report : ℕ → Cause → Row → Report
report at why row = record { at = at; cause = why; row = row }

abbrev pub reports_by : Addressing → Effect → List Report
reports_by a (seen account as_seen os) = []
reports_by a (reports why row) = report (length a.deliveries) why row ∷ []
reports_by a nothing = []

abbrev pub reports_after : Tables → Publication → Addressing → List ViewItem → List Report
reports_after t m a [] = []
reports_after t m a (v ∷ vs) = reports_by a (effect_of t m a v) ++ reports_after t m (with_effect t m a (effect_of t m a v)) vs

-- what is told of a row across which a message isn't seen
abbrev pub item_of : Cause → Row → Item
item_of cause.TooLong row = MapTooLong row
item_of cause.RouteFull row = RouteFull row

-- items from a place on, with the reports in their places between them
abbrev pub with_reports : ℕ → List Item → List Report → List Item
with_reports n items [] = drop n items
with_reports n items (r ∷ rs) = take (r.at - n) (drop n items) ++ item_of r.cause r.row ∷ with_reports r.at items rs

-- ---- what is told

abbrev pub reports_in : Option Told → List Report
reports_in None = []
reports_in (Some told) = told.reports.items

-- what becomes of routes
abbrev pub routes_after : Option Told → List (Name × Exporter) → List (Name × Exporter)
routes_after None all = all
routes_after (Some told) all = changed_by told.routes all

-- the routes that are opened are noted at this moment
abbrev pub AreNotedIn : ℕ → Option Told → Type 0
AreNotedIn now None = Unit {0}
AreNotedIn now (Some told) = AreNoted now told.routes

-- ---- a message in all its views

-- its views: its publisher's own, those across rows, and that of the account that has asked
abbrev pub views_in : Tables → Publication → List ViewItem
views_in t p = views t.policy p.publisher.user.account p.message.subject (responses_on t.routes p.publisher.user.account p.message.subject)

-- what it comes to in all of them: its deliveries, the rows across which it isn't seen, and what becomes of routes
pub record AreAddressed (t : Tables) (p : Publication) (deliveries : List Addressed) (told : Option Told) : Type 0 where
  pub all : deliveries ≡ (addressed_after t p (addressing [] []) (views_in t p)).deliveries
  pub reports : reports_in told ≡ reports_after t p (addressing [] []) (views_in t p)
  pub changed : routes_after told t.routes ≡ spent p.publisher.user.account p.message.subject (opened_each (addressed_after t p (addressing [] []) (views_in t p)).openings t.routes)
  pub noted : AreNotedIn t.now told
