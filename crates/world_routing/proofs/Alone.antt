-- A message that is known to be seen in its publisher's account alone, and by what lists allow it.
use Rattle.std.proofs.Common.{◌≡◌, ◌∙◌, ℕ, Bool, true, false, List, [], Option, Some, None, Ok, All, ap, sym, refl, subst}
use Rattle.std.specs.Prelude.{Result, Err, IfErr, IfOk, IfSome}
use Rattle.std.proofs.lemmas.List.Elements.{All-nil}
use Rattle.subjects.specs.Subject.{Token}
use Rattle.policy_doc.specs.declared.document.PolicyDoc.{PolicyDoc}
use Rattle.permissions.specs.Verdicts.{publish_verdict, IsJustifiedPublish}
use Rattle.permissions.specs.declared.verdict.By.{By}
use Rattle.permissions.specs.declared.verdict.By.TheVariants.{All as AllowsAll, Index, Grant}
use Rattle.permissions.specs.declared.verdict.Verdict.{Verdict}
use Rattle.permissions.specs.declared.verdict.Verdict.TheVariants.{Allowed, DeniedBy, NoAllow, NoQueueAllow}
use Rattle.events.specs.Messages.{Message}
use Rattle.events.specs.declared.answer.Addressed.{Addressed}
use Rattle.policy_ready.specs.imports.Across.{views}
use Rattle.policy_ready.specs.imports.Views.{is_route, rows_of}
use Rattle.policy_ready.specs.declared.imports.view.ViewItem.{ViewItem}
use Rattle.service_exporter.specs.Routes.{Exporter}
use Rattle.service_routes.specs.Routes.{Name, spent}
use Rattle.world_sessions.specs.deliveries.Sessions.{session_of}
use Rattle.world_sessions.specs.deliveries.Replying.{is_granted}
use Rattle.world_sessions.specs.declared.deliveries.session.Session.{Session}
use Rattle.world_subscriptions.specs.Limit.{unended}
use Rattle.world_subscriptions.specs.Kept.{Apart}
use Rattle.world_rows.specs.declared.subscription.Subscription.{Subscription}
use Rattle.receivers.specs.cache.Cached.{IsAllowed, IsAloneAt, IsAloneOf, IsOfLists}
use Rattle.receivers.specs.views.CachedViews.{others_with}
use Rattle.world_views.specs.addressing.Standing.{addressed_behind_in}
use Rattle.world_routing.specs.World.{World}
use Rattle.world_views.specs.Changing.{opened_each}
use Rattle.world_routing.specs.Granting.{or_granted, verdict_on}
use Rattle.world_routing.specs.Handing.{answered_by}
use Rattle.world_views.specs.Requests.{responses_on}
use Rattle.world_views.specs.Viewing.{Tables, Publication, Addressing, addressing, addressed_after, publication, reports_after, tables_at}
use Rattle.world_routing.specs.Publishing.{IsPlanned, IsRefusal, IsToldPlan, in_session, mapped_to, published_by, tables_of}
use Rattle.events.specs.declared.refusal.HubRefusal.{HubRefusal}
use Rattle.events.specs.declared.refusal.HubRefusal.TheVariants as refusal
use Rattle.account_mappings.specs.Drawing.{mapped_by}
use Rattle.policy_ready.specs.declared.imports.rows.ImportRow.{ImportRow}
use Rattle.world_routing.specs.declared.planning.Plan.{Plan}
use Rattle.world_views.proofs.InTurn.{spent_elsewhere}
use Rattle.world_routing.proofs.Publishing.{planned_publish, planned_told, planned_unmapped, publish_reason}
use Rattle.world_views.proofs.Seeing.{no_response_elsewhere}
use Rattle.world_views.proofs.Addressed.{unsaid_after}
use Rattle.world_views.proofs.addressing.Left.{own_first}

abbrev by_in : Verdict → By
by_in (Allowed by) = by
by_in (DeniedBy i) = Grant
by_in NoAllow = Grant
by_in (NoQueueAllow i) = Grant

-- what isn't allowed by a grant is allowed by lists
by_lists : (granted : Bool) (v : Verdict) (by : By) → IsOfLists by → Allowed by ≡ or_granted granted v → v ≡ Allowed by
by_lists granted (Allowed b) by of e = sym e
by_lists true (DeniedBy i) by of e = absurd (subst IsOfLists (ap by_in e) of)
by_lists false (DeniedBy i) by of e = absurd (cc)
by_lists true NoAllow by of e = absurd (subst IsOfLists (ap by_in e) of)
by_lists false NoAllow by of e = absurd (cc)
by_lists true (NoQueueAllow i) by of e = absurd (subst IsOfLists (ap by_in e) of)
by_lists false (NoQueueAllow i) by of e = absurd (cc)

pub lists_allow : (allowed : Option By) (by : By) (now : ℕ) (z : Session) (s t : List Token) →
    IfSome allowed (λ (lists : By). (by ≡ lists) × IsOfLists lists × (is_route t ≡ false)) → t ≡ s → Allowed by ≡ verdict_on now z s →
    IsJustifiedPublish s z.user.rules.publish (publish_verdict z.user.rules s) → z.user.mappings ≡ [] → IfSome allowed (IsAllowed z.user s)
lists_allow None by now z s t is same verdict justified unmapped = tt
lists_allow (Some lists) by now z s t is same verdict justified unmapped =
    let which : publish_verdict z.user.rules s ≡ Allowed lists = by_lists (is_granted now s z) (publish_verdict z.user.rules s) lists is.1 (ap Allowed (sym is.0) ∙ verdict) in
    record {
      lists = is.1;
      verdict = which;
      justified = subst (IsJustifiedPublish s z.user.rules.publish) which justified;
      unmapped = unmapped;
      unrouted = ap is_route (sym same) ∙ is.2;
    }

-- it is no answer
none_answered : (by : By) (conn : ℕ) (m : Message) → IsOfLists by → None ≡ answered_by by conn m
none_answered AllowsAll conn m is = refl
none_answered (Index i) conn m is = refl
none_answered Grant conn m is = absurd is

-- without memory it is refused, and no publish that is allowed is refused otherwise
pub alone_refused : (rows : List ImportRow) (t : Tables) (conn : ℕ) (m : Message) (word : ℕ) (by : By) → IsAloneOf rows t.sessions conn m.subject by → (w : World) → tables_of w ≡ t →
    (r : HubRefusal) → r ≡ refusal.NoMemory → IsPlanned w (published_by w conn m word) (Err r)
alone_refused rows t conn m word by is w of r none =
    let z : Session = is.publisher in
    let found = sym is.seated ∙ ap (λ (x : Tables). session_of x.sessions conn) (sym of) in
    let allowed : Allowed by ≡ verdict_on w.moment z m.subject = sym (ap (or_granted (is_granted w.moment m.subject z)) is.alone.allowed.verdict) in
    planned_publish conn z w found (Err r) by m word m.subject refl allowed
    (subst (λ (o : Option Session). IsRefusal (in_session o (λ z. mapped_to w z by m word (mapped_by z.user.mappings m.subject word))) r) found none)

module _ (doc : PolicyDoc) (now : ℕ) (zs : List Session) (subs : List Subscription) (exporters : List (Name × Exporter)) (going : unended subs ≡ subs)
    (conn : ℕ) (m : Message) (word : ℕ) (by : By) (all : List Addressed) (at : IsAloneAt (rows_of doc) zs subs conn m word by all) where
  abbrev z : Session
  z = at.of.publisher

  abbrev t : Tables
  t = tables_at doc now zs subs exporters

  abbrev p : Publication
  p = publication z m word

  abbrev vs : List ViewItem
  vs = views t.policy z.user.account m.subject (responses_on t.routes z.user.account m.subject)

  abbrev after : Addressing
  after = addressed_after t p (addressing [] []) vs

  abbrev ds : List Addressed
  ds = addressed_behind_in zs subs [] z m word z.user.account

  -- no view stands behind its own
  others : others_with (rows_of doc) (responses_on t.routes z.user.account m.subject) z.user.account m.subject ≡ []
  others =
      ap (λ (rs : List ViewItem). others_with (rows_of doc) rs z.user.account m.subject) (no_response_elsewhere t.routes z.user.account m.subject at.of.alone.allowed.unrouted)
      ∙ at.of.alone.others

  -- so these are the deliveries of all its views, no row is reported, and no route changes
  pub all_are : all ≡ after.deliveries
  all_are =
      at.deliveries
      ∙ own_first zs subs z m word going
      ∙ ap (λ (vs : List ViewItem). (addressed_after t p (addressing ds []) vs).deliveries) (sym others)

  unreported : [] ≡ reports_after t p (addressing [] []) vs
  unreported = ap (λ (vs : List ViewItem). reports_after t p (addressing ds []) vs) (sym others)

  unchanged : t.routes ≡ spent z.user.account m.subject (opened_each after.openings t.routes)
  unchanged =
      sym (spent_elsewhere z.user.account m.subject t.routes at.of.alone.allowed.unrouted)
      ∙ ap (λ (vs : List ViewItem). spent z.user.account m.subject (opened_each (addressed_after t p (addressing ds []) vs).openings t.routes)) (sym others)

  -- without a reply none of them has one
  pub alone_unsaid : m.reply ≡ None → All (λ (a : Addressed). a.delivery.message.reply ≡ None) all
  alone_unsaid none =
      subst (All (λ (a : Addressed). a.delivery.message.reply ≡ None)) (sym all_are)
      (unsaid_after t p (addressing [] []) vs none (All-nil (λ (a : Addressed). a.delivery.message.reply ≡ None)))

  -- and what is planned for them is what the publish comes to
  pub alone_planned : Apart subs → (plan : Plan) → IsToldPlan zs by None None all plan → (w : World) → tables_of w ≡ t → IsPlanned w (published_by w conn m word) (Ok plan)
  alone_planned apart plan is w of =
      let found = sym at.of.seated ∙ ap (λ (x : Tables). session_of x.sessions conn) (sym of) in
      let allowed : Allowed by ≡ verdict_on w.moment z m.subject = sym (ap (or_granted (is_granted w.moment m.subject z)) at.of.alone.allowed.verdict) in
      planned_publish conn z w found (Ok plan) by m word m.subject refl allowed
      (planned_unmapped conn z w found (Ok plan) by m word at.of.alone.allowed.unmapped
      (planned_told t conn m word z m (sym at.of.seated) by apart going None (none_answered by z.conn m at.of.alone.allowed.lists) None unreported unchanged tt all all_are plan is w of))

  -- without memory the publish is refused
  pub alone_comes : Apart subs → (result : Result Plan HubRefusal) → IfOk result (IsToldPlan zs by None None all) → IfErr result (λ r. r ≡ refusal.NoMemory) →
      (w : World) → tables_of w ≡ t → IsPlanned w (published_by w conn m word) result
  alone_comes apart (Ok plan) is none w of = alone_planned apart plan is w of
  alone_comes apart (Err r) is none w of = alone_refused (rows_of doc) t conn m word by at.of w of r none

  -- its verdict has its reason
  pub alone_reason : IfSome (session_of zs conn) (λ (z : Session). IsJustifiedPublish m.subject z.user.rules.publish (publish_verdict z.user.rules m.subject))
  alone_reason = publish_reason (session_of zs conn) z m.subject m.subject (Allowed by) (sym at.of.seated) refl (sym at.of.alone.allowed.verdict) at.of.alone.allowed.justified
