-- A request: what is addressed, opened and reported is what its view gives.
use Rattle.std.proofs.Common.{◌≡◌, ◌∙◌, ◌+◌, ◌++◌, ◌∷◌, ℕ, Bool, true, false, cond, List, [], Some, All, length, ap, sym, refl, subst}
use Rattle.std.proofs.lemmas.List.{append-nil}
use Rattle.std.proofs.lemmas.List.Elements.{All-append, All-cons, All-nil}
use Rattle.subjects.specs.Subject.{Token}
use Rattle.policy_doc.specs.declared.exports.document.Row.{Row}
use Rattle.events.specs.declared.answer.Addressed.{Addressed}
use Rattle.service_exporter.specs.service_subjects.Names.{route_subject}
use Rattle.service_exporter.specs.Routes.{Exporter}
use Rattle.service_routes.specs.Routes.{Name, exporter_of}
use Rattle.world_views.specs.addressing.Standing.{addressed_behind_in}
use Rattle.world_views.specs.Changing.{IsNotedAt}
use Rattle.world_views.specs.Viewing.{Tables, Publication, Addressing, addressing, opening_for, seen_with, requested_if, with_effect, report, reports_by}
use Rattle.world_views.specs.declared.changing.Opening.{Opening}
use Rattle.world_views.specs.declared.viewing.Cause.TheVariants as cause
use Rattle.world_views.specs.declared.viewing.Report.{Report}

module _ (t : Tables) (m : Publication) (a : Addressing) (routes : List (Name × Exporter)) (account : Name) (s : List Token) (row : Row) (reply : List Token) where
  -- its deliveries with the subject of a route of that number
  abbrev pub on_number : ℕ → List Addressed
  on_number number = a.deliveries ++ addressed_behind_in t.sessions t.subscriptions a.deliveries m.publisher (seen_with s (Some (route_subject m.word number)) m.message) m.word account

  abbrev pub one_more : List Opening
  one_more = a.openings ++ opening_for account t.policy row reply m.word t.now ∷ []

  pub opened_request : (nobody : Bool) (number : ℕ) (ds : List Addressed) (os : List Opening) → number ≡ (exporter_of account routes).last + 1 →
      ds ≡ cond nobody a.deliveries (on_number number) → os ≡ cond nobody a.openings one_more →
      addressing ds os ≡ with_effect t m a (requested_if nobody false t m routes account s row reply)
  opened_request true number ds os is eds eos = (λ i. addressing (eds i) (eos i))
  opened_request false number ds os is eds eos = (λ i. addressing (eds i) (eos i)) ∙ ap (λ n. addressing (on_number n) one_more) is

  pub opened_reports : (nobody : Bool) (before : List Report) → before ≡ before ++ reports_by a (requested_if nobody false t m routes account s row reply)
  opened_reports true before = sym (append-nil before)
  opened_reports false before = sym (append-nil before)

  pub opened_noted : (nobody : Bool) (os : List Opening) → os ≡ cond nobody a.openings one_more → All (IsNotedAt t.now) a.openings → All (IsNotedAt t.now) os
  opened_noted true os is all = subst (λ (xs : List Opening). All (IsNotedAt t.now) xs) (sym is) all
  opened_noted false os is all =
      let o : Opening = opening_for account t.policy row reply m.word t.now in
      subst (λ (xs : List Opening). All (IsNotedAt t.now) xs) (sym is) (All-append (IsNotedAt t.now) a.openings (o ∷ []) all (All-cons (IsNotedAt t.now) o [] refl (All-nil (IsNotedAt t.now))))

  pub full_request : (nobody : Bool) (ds : List Addressed) (os : List Opening) → ds ≡ a.deliveries → os ≡ a.openings →
      addressing ds os ≡ with_effect t m a (requested_if nobody true t m routes account s row reply)
  full_request true ds os eds eos = (λ i. addressing (eds i) (eos i))
  full_request false ds os eds eos = (λ i. addressing (eds i) (eos i))

  pub full_reports : (nobody : Bool) (before after : List Report) → after ≡ cond nobody before (before ++ report (length a.deliveries) cause.RouteFull row ∷ []) →
      after ≡ before ++ reports_by a (requested_if nobody true t m routes account s row reply)
  full_reports true before after is = is ∙ sym (append-nil before)
  full_reports false before after is = is
