-- What a publish comes to (docs/GUARANTEE.md, "The step").
use Rattle.std.specs.Prelude.{⊤, ◌≡◌, ◌⊎◌, ◌∷◌, ℕ, List, [], Option, Some, None, Result, Ok, Err, IfOk, IfSome, map}
use Rattle.subjects.specs.Subject.{Token}
use Rattle.base.specs.declared.no_memory.NoMemory.{NoMemory}
use Rattle.account_mappings.specs.Drawing.{mapped_by}
use Rattle.account_mappings.specs.declared.drawing.Mapped.{Mapped}
use Rattle.account_mappings.specs.declared.drawing.Mapped.TheVariants.{Same, To, Unmapped, TooLong}
use Rattle.permissions.specs.Verdicts.{publish_verdict, IsJustifiedPublish}
use Rattle.permissions.specs.declared.verdict.Verdict.{Verdict}
use Rattle.permissions.specs.declared.verdict.Verdict.TheVariants.{Allowed, DeniedBy, NoAllow, NoQueueAllow}
use Rattle.events.specs.Messages.{Message}
use Rattle.permissions.specs.declared.verdict.By.{By}
use Rattle.events.specs.declared.answer.Item.{Item}
use Rattle.events.specs.declared.answer.Item.TheVariants.{Unmapped as UnmappedItem, MappedTooLong}
use Rattle.events.specs.declared.answer.Addressed.{Addressed}
use Rattle.events.specs.declared.answer.Outcome.{Outcome}
use Rattle.events.specs.declared.answer.Outcome.TheVariants.{Denied, Published}
use Rattle.events.specs.declared.refusal.HubRefusal.{HubRefusal}
use Rattle.events.specs.declared.refusal.HubRefusal.TheVariants as refusal
use Rattle.world_sessions.specs.deliveries.Sessions.{session_of}
use Rattle.world_sessions.specs.declared.deliveries.session.Session.{Session}
use Rattle.world_routing.specs.World.{World}
use Rattle.policy_doc.specs.declared.document.PolicyDoc.{PolicyDoc}
use Rattle.policy_ready.specs.imports.Views.{rows_of}
use Rattle.policy_ready.specs.declared.imports.rows.ImportRow.{ImportRow}
use Rattle.receivers.specs.views.Marked.{AreMarked}
use Rattle.receivers.specs.cache.Cached.{IsCurrent}
use Rattle.receivers.specs.declared.cache.cache.ReceiverCache.{ReceiverCache}
use Rattle.service_exporter.specs.Routes.{Exporter}
use Rattle.service_routes.specs.Routes.{Name}
use Rattle.world_rows.specs.declared.subscription.Subscription.{Subscription}
use Rattle.world_routing.specs.Remembered.{AreOfPolicy, AreRemembered}
use Rattle.world_routing.specs.Granting.{verdict_on, counted_on, ended_on}
use Rattle.policy_ready.specs.imports.Across.{views}
use Rattle.service_routes.specs.Routes.{spent}
use Rattle.world_routing.specs.Routing.{in_views, under_subject}
use Rattle.world_views.specs.Requests.{responses_on}
use Rattle.world_routing.specs.Handing.{met, carried, of_deliveries}
use Rattle.world_views.specs.Changing.{changed_by, AreNoted}
use Rattle.world_views.specs.Viewing.{Tables, with_reports}
use Rattle.world_views.specs.declared.across.Told.{Told}
use Rattle.world_routing.specs.declared.caches.Caches.{Caches}
use Rattle.world_routing.specs.declared.carrying.Deliveries.{Deliveries}
use Rattle.world_routing.specs.declared.planning.Elsewhere.{Elsewhere}
use Rattle.world_routing.specs.declared.planning.Elsewhere.TheVariants.{Under, Nowhere}
use Rattle.world_routing.specs.declared.granted_response.GrantedResponse.{GrantedResponse}
use Rattle.world_sessions.specs.deliveries.Delivered.{delivered}
use Rattle.world_sessions.specs.deliveries.Replying.{noted_for}
use Rattle.world_routing.specs.declared.planning.Permitted.{Permitted}
use Rattle.world_routing.specs.declared.planning.Publish.{Publish}
use Rattle.world_routing.specs.declared.planning.Plan.{Plan}
use Rattle.world_routing.specs.declared.planning.Plan.TheVariants.{Refused, ToNobody, ToSome, OnRoutes}

-- A message is sent on. Each of its views hands it to the subscriptions that it is for, and they count it. A grant counts the
-- publish that it allowed. A response ends its route, where that is for a single one.
abbrev pub seen_as : World → Session → By → List Token → Message → ℕ → Outcome × World
seen_as w z by asked m word =
    let after = in_views w.sessions (record w { sessions = counted_on by z.conn asked w.sessions }) z m word (views w.policy z.user.account m.subject (responses_on w.routes z.user.account m.subject)) in
    (Published by after.0, record after.1 { sessions = ended_on by z.conn asked after.1.sessions; routes = spent z.user.account m.subject after.1.routes })

-- one that isn't sent on has this single item; what a grant has allowed is counted on it
abbrev pub seen_nowhere : World → Session → By → List Token → Item → Outcome × World
seen_nowhere w z by asked item = (Published by (item ∷ []), record w { sessions = ended_on by z.conn asked (counted_on by z.conn asked w.sessions) })

-- a message as its account's mappings send it on, if they do
abbrev pub sent_on : Mapped → Message → Option Message
sent_on Same m = Some m
sent_on (To s) m = Some (under_subject s m)
sent_on Unmapped m = None
sent_on (TooLong index) m = None

-- what comes of it, sent on or not
abbrev pub mapped_to : World → Session → By → Message → ℕ → Mapped → Outcome × World
mapped_to w z by m word Same = seen_as w z by m.subject m word
mapped_to w z by m word (To s) = seen_as w z by m.subject (under_subject s m) word
mapped_to w z by m word Unmapped = seen_nowhere w z by m.subject UnmappedItem
mapped_to w z by m word (TooLong index) = seen_nowhere w z by m.subject (MappedTooLong index)

-- the verdict first, which is on the subject that it is published on, as is the grant; then it is mapped, and seen
abbrev pub published : World → Session → Message → ℕ → Verdict → Outcome × World
published w z m word (Allowed by) = mapped_to w z by m word (mapped_by z.user.mappings m.subject word)
published w z m word (DeniedBy i) = (Denied (DeniedBy i), w)
published w z m word NoAllow = (Denied NoAllow, w)
published w z m word (NoQueueAllow i) = (Denied (NoQueueAllow i), w)

-- a command of a connection with a session, or NoSession
abbrev pub in_session : {W : Type 0} → Option Session → (Session → Outcome × W) → Result (Outcome × W) HubRefusal
in_session None _ = Err refusal.NoSession
in_session (Some z) f = Ok (f z)

-- what a connection's publish makes of the world, or why it is refused
abbrev pub published_by : World → ℕ → Message → ℕ → Result (Outcome × World) HubRefusal
published_by w conn m word =
    in_session (session_of w.sessions conn) (λ z. published w z m word (verdict_on w.moment z m.subject))

-- A refusal is the transition's, or want of memory where it refuses nothing.
abbrev pub IsRefusal : {R : Type 0} → Result R HubRefusal → HubRefusal → Type 0
IsRefusal (Ok _) r = r ≡ refusal.NoMemory
IsRefusal (Err e) r = r ≡ e

-- ---- the plan

-- the tables of a world
abbrev pub tables_of : World → Tables
tables_of w = record { policy = w.policy; now = w.moment; sessions = w.sessions; subscriptions = w.subscriptions; routes = w.routes }

-- whose deliveries have met these items, with what more is told
abbrev pub IsPlanOf : By → List Item → Deliveries → Option Told → Plan → Type 0
IsPlanOf by items ds None plan = plan ≡ ToSome by items ds
IsPlanOf by items ds (Some told) plan = plan ≡ OnRoutes by (with_reports 0 items told.reports.items) (record { deliveries = ds; routes = told.routes })

-- What is planned for a publish is what it comes to: a denial, or nobody whom it is for, and then nothing changes; or what its
-- deliveries meet, and the world once they are handed over and response routes have changed.
abbrev pub IsPlanned : World → Result (Outcome × World) HubRefusal → Result Plan HubRefusal → Type 0
IsPlanned w t (Ok (Refused v)) = t ≡ Ok (Denied v, w)
IsPlanned w t (Ok (ToNobody by)) = t ≡ Ok (Published by [], w)
IsPlanned w t (Ok (ToSome by items ds)) = (t ≡ Ok (Published by items, carried w ds.answered ds.all items)) × (of_deliveries items ≡ met w ds.all)
IsPlanned w t (Ok (OnRoutes by items r)) =
    (t ≡ Ok (Published by items, record (carried w r.deliveries.answered r.deliveries.all items) { routes = changed_by r.routes w.routes }))
    × (of_deliveries items ≡ met w r.deliveries.all) × AreNoted w.moment r.routes
IsPlanned w t (Err r) = IsRefusal t r

-- what is planned for a publish is what it comes to in each world with these tables
abbrev pub IsPublishPlanned : Tables → Publish → Result Plan HubRefusal → Type 0
IsPublishPlanned tables publish answer =
    (w : World) → tables_of w ≡ tables → IsPlanned w (published_by w publish.conn publish.message.now publish.word) answer

-- and for one that is allowed what it comes to by its account's mappings
abbrev pub IsPermittedPlanned : Tables → Permitted → Result Plan HubRefusal → Type 0
IsPermittedPlanned tables permitted answer =
    (w : World) → tables_of w ≡ tables → IsPlanned w (in_session (session_of w.sessions permitted.publish.conn) (λ z.
    mapped_to w z permitted.by permitted.publish.message.now permitted.publish.word (mapped_by z.user.mappings permitted.publish.message.now.subject permitted.publish.word))) answer

-- one that is allowed and is seen as this message, under its own subject or another, comes to what it comes to in its views
abbrev pub IsSeenPlanned : Tables → Permitted → Message → Result Plan HubRefusal → Type 0
IsSeenPlanned tables permitted seen answer =
    (w : World) → tables_of w ≡ tables → IsPlanned w (in_session (session_of w.sessions permitted.publish.conn) (λ z.
    seen_as w z permitted.by permitted.publish.message.now.subject seen permitted.publish.word)) answer

-- where a publish is planned, the verdict of its user's lists has its reason
abbrev pub IsPublishReasoned : List Session → Publish → Result Plan HubRefusal → Type 0
IsPublishReasoned zs publish answer =
    IfOk answer (λ plan. IfSome (session_of zs publish.conn) (λ (z : Session).
    IsJustifiedPublish publish.message.now.subject z.user.rules.publish (publish_verdict z.user.rules publish.message.now.subject)))

-- What is planned for deliveries of a message that is allowed, by what is told between them: nobody, where there are none of either
-- and it is no answer; or what they meet, each with what its session is to note.
abbrev pub IsToldPlan : List Session → By → Option GrantedResponse → Option Told → List Addressed → Plan → Type 0
IsToldPlan zs by answered told all plan =
    ((plan ≡ ToNobody by) × (all ≡ []) × (told ≡ None) × (answered ≡ None))
    ⊎ ((met : List Item) × ((n : ℕ) → met ≡ (delivered n (map (noted_for zs) all) zs).1) × IsPlanOf by met (record { all = map (noted_for zs) all; answered = answered }) told plan)

-- What is cached is true of the tables under a policy, and so is the user of each session.
pub record AreCurrent (doc : PolicyDoc) (zs : List Session) (subs : List Subscription) (caches : Caches) : Type 0 where
  pub users : AreOfPolicy doc zs
  pub verdicts : AreRemembered doc caches.verdicts
  pub cached : IsCurrent (rows_of doc) zs subs caches.receivers.cache
  pub marked : AreMarked zs subs caches.marks

-- Nothing that is shown has changed, and what is cached is current.
pub record IsKept (rows : List ImportRow) (zs : List Session) (subs : List Subscription) (exporters : List (Name × Exporter))
    (zs_after : List Session) (subs_after : List Subscription) (exporters_after : List (Name × Exporter)) (cache : ReceiverCache) : Type 0 where
  pub sessions : zs_after ≡ zs
  pub subscriptions : subs_after ≡ subs
  pub routes : exporters_after ≡ exporters
  pub cached : IsCurrent rows zs_after subs_after cache

-- ---- where a message goes that isn't seen under the subject that it is published on

-- it is where its account's mappings send it, for which memory is wanted only by a subject
abbrev pub IsElsewhere : Mapped → Result (Option Elsewhere) NoMemory → Type 0
IsElsewhere Same answer = answer ≡ Ok None
IsElsewhere (To s) (Ok found) = found ≡ Some (Under s)
IsElsewhere (To s) (Err _) = ⊤
IsElsewhere Unmapped answer = answer ≡ Ok (Some (Nowhere UnmappedItem))
IsElsewhere (TooLong index) answer = answer ≡ Ok (Some (Nowhere (MappedTooLong index)))
