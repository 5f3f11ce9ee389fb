-- A message that is sent as is known of its draw is addressed in all its views under the subject under which it is sent on.
use Rattle.std.proofs.Common.{◌≡◌, ◌∙◌, ℕ, List, [], Option, Some, None, Ok, ap, sym}
use Rattle.subjects.specs.Subject.{Token}
use Rattle.account_mappings.specs.declared.drawing.Mapped.{Mapped}
use Rattle.account_mappings.specs.declared.drawing.Mapped.TheVariants.{Same, To, Unmapped, TooLong}
use Rattle.policy_doc.specs.declared.document.PolicyDoc.{PolicyDoc}
use Rattle.events.specs.Messages.{Message}
use Rattle.events.specs.declared.answer.Addressed.{Addressed}
use Rattle.policy_ready.specs.imports.Across.{views}
use Rattle.policy_ready.specs.imports.Views.{rows_of}
use Rattle.policy_ready.specs.declared.imports.view.ViewItem.{ViewItem}
use Rattle.service_exporter.specs.Routes.{Exporter}
use Rattle.service_routes.specs.Routes.{Name, spent}
use Rattle.world_sessions.specs.declared.deliveries.session.Session.{Session}
use Rattle.world_rows.specs.declared.subscription.Subscription.{Subscription}
use Rattle.receivers.specs.cache.Drawn.{IsSentOn, subject_of}
use Rattle.receivers.specs.views.CachedViews.{addressed_in_each, others_in, others_with, under_subject}
use Rattle.world_views.specs.addressing.Standing.{addressed_behind_in}
use Rattle.world_views.proofs.addressing.Behind.{view_told}
use Rattle.world_views.specs.Changing.{opened_each}
use Rattle.world_routing.specs.Publishing.{IsElsewhere}
use Rattle.world_views.specs.Requests.{responses_on}
use Rattle.world_views.specs.Viewing.{Tables, Publication, Addressing, addressing, addressed_after, publication, reports_after, tables_at}
use Rattle.world_routing.specs.declared.planning.Elsewhere.{Elsewhere}
use Rattle.world_routing.specs.declared.planning.Elsewhere.TheVariants.{Under, Nowhere}
use Rattle.world_views.proofs.InTurn.{spent_elsewhere}
use Rattle.world_views.proofs.Seeing.{no_response_elsewhere}
use Rattle.world_views.proofs.Addressed.{known_after, known_reports}
use Rattle.world_views.proofs.Under.{same_addressed}

module _ (doc : PolicyDoc) (now : ℕ) (zs : List Session) (subs : List Subscription) (routes : List (Name × Exporter)) (z : Session) (m : Message) (word : ℕ) (all : List Addressed)
    (sent : IsSentOn (rows_of doc) zs subs z m word all) where
  abbrev s : List Token
  s = subject_of sent.drawn

  abbrev account : Name
  account = z.user.account

  abbrev t : Tables
  t = tables_at doc now zs subs routes

  abbrev p : Publication
  p = publication z m word

  abbrev q : Publication
  q = publication z (under_subject s m) word

  abbrev vs : List ViewItem
  vs = views doc account s (responses_on t.routes account s)

  -- its deliveries in its publisher's account
  abbrev ds : List Addressed
  ds = addressed_behind_in zs subs [] z (under_subject s m) word account

  others : others_with (rows_of doc) (responses_on t.routes account s) account s ≡ others_in (rows_of doc) account s
  others = ap (λ (rs : List ViewItem). others_with (rows_of doc) rs account s) (no_response_elsewhere t.routes account s sent.sent.unrouted)

  known : addressing all [] ≡ addressed_after t q (addressing [] []) vs
  known =
      ap (λ (items : List Addressed). addressing items []) sent.deliveries
      ∙ ap (λ (before : List Addressed). addressing (addressed_in_each m word before sent.drawn.others.items) []) (view_told zs [] z account s subs sent.drawn.own m word sent.sent.own)
      ∙ known_after t p (addressing ds []) sent.drawn.others.items (others_in (rows_of doc) account s) sent.sent.others
      ∙ same_addressed t z m word s (addressing ds []) (others_in (rows_of doc) account s)
      ∙ ap (λ (us : List ViewItem). addressed_after t q (addressing ds []) us) (sym others)

  pub drawn_addressed : all ≡ (addressed_after t q (addressing [] []) vs).deliveries
  drawn_addressed = ap (λ (a : Addressing). a.deliveries) known

  -- no row is reported, and no route is opened or ends
  pub drawn_unreported : [] ≡ reports_after t q (addressing [] []) vs
  drawn_unreported =
      sym (known_reports t q (addressing ds []) sent.drawn.others.items (others_in (rows_of doc) account s) sent.sent.others)
      ∙ ap (λ (us : List ViewItem). reports_after t q (addressing ds []) us) (sym others)

  pub drawn_unchanged : t.routes ≡ spent account s (opened_each (addressed_after t q (addressing [] []) vs).openings t.routes)
  drawn_unchanged =
      sym (spent_elsewhere account s t.routes sent.sent.unrouted)
      ∙ ap (λ (a : Addressing). spent account s (opened_each a.openings t.routes)) known

-- where a message goes under a subject, its account's mappings send it on under that
abbrev under_or : List Token → Option Elsewhere → List Token
under_or other None = other
under_or other (Some (Under u)) = u
under_or other (Some (Nowhere item)) = other

pub goes_under : (mapped : Mapped) (u : List Token) → IsElsewhere mapped (Ok (Some (Under u))) → mapped ≡ To u
goes_under Same u is = absurd (cc)
goes_under (To v) u is = ap (λ (o : Option Elsewhere). To (under_or u o)) (sym is)
goes_under Unmapped u is = absurd (cc)
goes_under (TooLong index) u is = absurd (cc)
