-- A message is addressed in its views alike, whatever subject it was published on: in each view it has the subject of that.
use Rattle.std.proofs.Common.{◌≡◌, ◌∙◌, ◌++◌, ◌∷◌, ℕ, Bool, true, false, List, [], Option, Some, None, ap, refl}
use Rattle.subjects.specs.Subject.{Token}
use Rattle.events.specs.Messages.{Message}
use Rattle.policy_doc.specs.declared.exports.document.Row.{Row}
use Rattle.policy_ready.specs.declared.imports.view.ViewItem.{ViewItem}
use Rattle.policy_ready.specs.declared.imports.view.ViewItem.TheVariants.{At, TooLong}
use Rattle.policy_ready.specs.declared.imports.view.Way.TheVariants.{Own, Stream, Service, Response}
use Rattle.service_exporter.specs.Routes.{Exporter}
use Rattle.service_routes.specs.Routes.{Name}
use Rattle.world_sessions.specs.declared.deliveries.session.Session.{Session}
use Rattle.receivers.specs.views.CachedViews.{under_subject}
use Rattle.world_views.specs.Viewing.{Tables, Publication, Addressing, Effect, seen, reports, nothing, addressed_after, effect_of, publication, reports_after, reports_by, request_in, requested_if, with_effect}
use Rattle.world_views.specs.declared.viewing.Report.{Report}

module _ (t : Tables) (z : Session) (m : Message) (word : ℕ) (s : List Token) where
  abbrev p : Publication
  p = publication z m word

  abbrev q : Publication
  q = publication z (under_subject s m) word

  same_tests : (nobody full : Bool) (routes : List (Name × Exporter)) (account : Name) (local : List Token) (row : Row) (reply : List Token) →
      requested_if nobody full t p routes account local row reply ≡ requested_if nobody full t q routes account local row reply
  same_tests true full routes account local row reply = refl
  same_tests false true routes account local row reply = refl
  same_tests false false routes account local row reply = refl

  same_request : (a : Addressing) (account : Name) (local : List Token) (row : Row) (reply : Option (List Token)) →
      request_in t p a account local row reply ≡ request_in t q a account local row reply
  same_request a account local row None = refl
  same_request a account local row (Some reply) = same_tests _ _ _ account local row reply

  same_effect : (a : Addressing) (v : ViewItem) → effect_of t p a v ≡ effect_of t q a v
  same_effect a (At account local Own) = refl
  same_effect a (At account local (Stream row)) = refl
  same_effect a (At account local (Service row)) = same_request a account local row m.reply
  same_effect a (At account local (Response row)) = refl
  same_effect a (TooLong row) = refl

  same_with : (a : Addressing) (e : Effect) → with_effect t p a e ≡ with_effect t q a e
  same_with a (seen account as_seen os) = refl
  same_with a (reports why row) = refl
  same_with a nothing = refl

  same_after : (a : Addressing) (v : ViewItem) → with_effect t p a (effect_of t p a v) ≡ with_effect t q a (effect_of t q a v)
  same_after a v = same_with a (effect_of t p a v) ∙ ap (with_effect t q a) (same_effect a v)

  pub same_addressed : (a : Addressing) (vs : List ViewItem) → addressed_after t p a vs ≡ addressed_after t q a vs
  same_addressed a [] = refl
  same_addressed a (v ∷ vs) =
      ap (λ (b : Addressing). addressed_after t p b vs) (same_after a v) ∙ same_addressed (with_effect t q a (effect_of t q a v)) vs

  pub same_reports : (a : Addressing) (vs : List ViewItem) → reports_after t p a vs ≡ reports_after t q a vs
  same_reports a [] = refl
  same_reports a (v ∷ vs) =
      ap (λ (e : Effect). reports_by a e ++ reports_after t p (with_effect t p a (effect_of t p a v)) vs) (same_effect a v)
      ∙ ap (λ (b : Addressing). reports_by a (effect_of t q a v) ++ reports_after t p b vs) (same_after a v)
      ∙ ap (λ (rs : List Report). reports_by a (effect_of t q a v) ++ rs) (same_reports (with_effect t q a (effect_of t q a v)) vs)
