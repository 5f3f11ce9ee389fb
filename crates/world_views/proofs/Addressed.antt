-- What a message is addressed to in its views: without a reply, and in views that are known.
use Rattle.std.proofs.Common.{◌≡◌, ◌∙◌, ◌++◌, ◌∷◌, ℕ, List, [], All, Option, Some, None, map, ap, sym, refl}
use Rattle.std.proofs.lemmas.List.{append-nil}
use Rattle.std.proofs.lemmas.List.Elements.{All-append, All-map}
use Rattle.std.specs.Global.{Vec}
use Rattle.subjects.specs.Subject.{Token}
use Rattle.policy_doc.specs.declared.exports.document.Row.{Row}
use Rattle.events.specs.Messages.{Message}
use Rattle.events.specs.declared.answer.Addressed.{Addressed}
use Rattle.policy_ready.specs.declared.imports.rows.ImportRow.{ImportRow}
use Rattle.policy_ready.specs.declared.imports.view.ViewItem.{ViewItem}
use Rattle.policy_ready.specs.declared.imports.view.ViewItem.TheVariants.{At, TooLong}
use Rattle.policy_ready.specs.declared.imports.view.Way.TheVariants.{Own, Stream, Service, Response}
use Rattle.world_subscriptions.specs.Addressing.{addressed_to}
use Rattle.world_rows.specs.declared.subscription.Subscription.{Subscription}
use Rattle.world_subscriptions.specs.groups.Served.{served}
use Rattle.receivers.specs.views.CachedViews.{IsSeen, AreSeen, addressed_in, addressed_in_each, others_in, under_subject, KnowsOthers}
use Rattle.receivers.specs.cache.Cached.{TellsOthers}
use Rattle.receivers.specs.declared.views.cached_view.CachedView.{CachedView}
use Rattle.world_views.specs.addressing.Standing.{standing_among, addressed_behind_in}
use Rattle.world_views.proofs.addressing.Behind.{view_told}
use Rattle.world_views.specs.Viewing.{Tables, Publication, Addressing, addressing, seen, seen_with, request_in, effect_of, with_effect, addressed_after, reports_after}
use Rattle.world_views.specs.declared.changing.Opening.{Opening}

-- ---- replies

-- where a message has no reply, none of its deliveries has one
unsaid_by : (t : Tables) (p : Publication) (a : Addressing) (v : ViewItem) → p.message.reply ≡ None →
    All (λ (d : Addressed). d.delivery.message.reply ≡ None) a.deliveries →
    All (λ (d : Addressed). d.delivery.message.reply ≡ None) (with_effect t p a (effect_of t p a v)).deliveries
unsaid_by t p a v none all = by_view v
  where
    Unsaid : List Addressed → Type 0
    Unsaid ds = All (λ (d : Addressed). d.delivery.message.reply ≡ None) ds

    more : (account : List ℕ) (as_seen : Message) (os : List Opening) → as_seen.reply ≡ None → Unsaid (with_effect t p a (seen account as_seen os)).deliveries
    more account as_seen os unsaid =
        let found : List Subscription = served p.word (standing_among t.sessions t.subscriptions a.deliveries p.publisher account as_seen.subject) in
        All-append (λ (d : Addressed). d.delivery.message.reply ≡ None) a.deliveries (map (addressed_to as_seen) found) all
        (All-map (λ (d : Addressed). d.delivery.message.reply ≡ None) (addressed_to as_seen) found (λ k d h. unsaid))

    request : (account : List ℕ) (s : List Token) (row : Row) (o : Option (List Token)) → o ≡ None → Unsaid (with_effect t p a (request_in t p a account s row o)).deliveries
    request account s row None is = more account (under_subject s p.message) [] none
    request account s row (Some reply) is = absurd (cc)

    by_view : (v : ViewItem) → Unsaid (with_effect t p a (effect_of t p a v)).deliveries
    by_view (At account s Own) = more account (under_subject s p.message) [] none
    by_view (At account s (Stream row)) = more account (under_subject s p.message) [] none
    by_view (At account s (Service row)) = request account s row p.message.reply none
    by_view (At account s (Response row)) = more account (seen_with s None p.message) [] refl
    by_view (TooLong row) = all

pub unsaid_after : (t : Tables) (p : Publication) (a : Addressing) (vs : List ViewItem) → p.message.reply ≡ None →
    All (λ (d : Addressed). d.delivery.message.reply ≡ None) a.deliveries →
    All (λ (d : Addressed). d.delivery.message.reply ≡ None) (addressed_after t p a vs).deliveries
unsaid_after t p a [] none all = all
unsaid_after t p a (v ∷ vs) none all = unsaid_after t p (with_effect t p a (effect_of t p a v)) vs none (unsaid_by t p a v none all)

-- ---- known views

-- in views that are known the deliveries are those of the views, no row is reported, and no route is opened
known_step : (t : Tables) (p : Publication) (a : Addressing) (k : CachedView) (account : List ℕ) (s : List Token) → IsSeen t.sessions t.subscriptions p.publisher k account s →
    addressing (addressed_in p.message p.word a.deliveries k) a.openings ≡ with_effect t p a (seen account (under_subject s p.message) [])
known_step t p a k account s is =
    ap (λ (ds : List Addressed). addressing ds a.openings) (view_told t.sessions a.deliveries p.publisher account s t.subscriptions k p.message p.word is)
    ∙ ap (λ (os : List Opening). addressing (a.deliveries ++ addressed_behind_in t.sessions t.subscriptions a.deliveries p.publisher (under_subject s p.message) p.word account) os) (sym (append-nil a.openings))

pub known_after : (t : Tables) (p : Publication) (a : Addressing) (known : List CachedView) (vs : List ViewItem) → AreSeen t.sessions t.subscriptions p.publisher known vs →
    addressing (addressed_in_each p.message p.word a.deliveries known) a.openings ≡ addressed_after t p a vs
known_after t p a [] [] is = refl
known_after t p a [] (v ∷ vs) is = absurd is
known_after t p a (k ∷ known) [] is = absurd is
known_after t p a (k ∷ known) (TooLong row ∷ vs) is = absurd is
known_after t p a (k ∷ known) (At account s Own ∷ vs) is = absurd is
known_after t p a (k ∷ known) (At account s (Service row) ∷ vs) is = absurd is
known_after t p a (k ∷ known) (At account s (Response row) ∷ vs) is = absurd is
known_after t p a (k ∷ known) (At account s (Stream row) ∷ vs) is =
    known_after t p (addressing (addressed_in p.message p.word a.deliveries k) a.openings) known vs is.1
    ∙ ap (λ (b : Addressing). addressed_after t p b vs) (known_step t p a k account s is.0)

pub known_reports : (t : Tables) (p : Publication) (a : Addressing) (known : List CachedView) (vs : List ViewItem) → AreSeen t.sessions t.subscriptions p.publisher known vs →
    reports_after t p a vs ≡ []
known_reports t p a [] [] is = refl
known_reports t p a [] (v ∷ vs) is = absurd is
known_reports t p a (k ∷ known) [] is = absurd is
known_reports t p a (k ∷ known) (TooLong row ∷ vs) is = absurd is
known_reports t p a (k ∷ known) (At account s Own ∷ vs) is = absurd is
known_reports t p a (k ∷ known) (At account s (Service row) ∷ vs) is = absurd is
known_reports t p a (k ∷ known) (At account s (Response row) ∷ vs) is = absurd is
known_reports t p a (k ∷ known) (At account s (Stream row) ∷ vs) is = known_reports t p (with_effect t p a (seen account (under_subject s p.message) [])) known vs is.1

-- so it is with what the cache tells of the views behind the publisher's own
module _ (rows : List ImportRow) (t : Tables) (p : Publication) (a : Addressing) where
  pub others_told : (o : Option (Vec CachedView)) (all : List Addressed) → KnowsOthers o rows t.sessions t.subscriptions p.publisher p.message.subject → TellsOthers o p.message p.word a.deliveries all →
      addressing all a.openings ≡ addressed_after t p a (others_in rows p.publisher.user.account p.message.subject)
  others_told None all known tells = absurd tells
  others_told (Some views) all known tells =
      ap (λ (ds : List Addressed). addressing ds a.openings) tells ∙ known_after t p a views.items (others_in rows p.publisher.user.account p.message.subject) known

  pub others_unreported : (o : Option (Vec CachedView)) (all : List Addressed) → KnowsOthers o rows t.sessions t.subscriptions p.publisher p.message.subject → TellsOthers o p.message p.word a.deliveries all →
      reports_after t p a (others_in rows p.publisher.user.account p.message.subject) ≡ []
  others_unreported None all known tells = absurd tells
  others_unreported (Some views) all known tells = known_reports t p a views.items (others_in rows p.publisher.user.account p.message.subject) known
