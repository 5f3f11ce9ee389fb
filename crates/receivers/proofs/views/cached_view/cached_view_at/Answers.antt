-- the receivers are chosen of those that may be sent the message, and none of these has a limit
use Rattle.std.proofs.Common.{◌≡◌, ◌∙◌, ℕ, List, map, filter, ap, sym, refl, subst}
use Rattle.std.specs.List.{list_any}
use Rattle.subjects.specs.Subject.{Token}
use Rattle.events.specs.Sendings.{named}
use Rattle.events.specs.declared.sent.Names.{Names}
use Rattle.world_subscriptions.specs.Subscriptions.{has_subject, having}
use Rattle.receivers.specs.views.Open.{is_open, open_among}
use Rattle.receivers.specs.views.Marked.{is_marked_open}
use Rattle.receivers.specs.views.CachedViews.{IsWhom, has_limit}
use Rattle.receivers.proofs.views.Marked.{open_marked}
use Rattle.receivers.proofs.views.Tests.{both}
use Rattle.receivers.proofs.views.cached_view.cached_view_at.Goals as goal

pub returns : goal.returns
returns c =
    let zs = c.args.search.sessions.now in
    let subs = c.args.search.subscriptions.now in
    let z = c.args.search.publisher.now in
    let account : List ℕ = c.args.account.now in
    let s : List Token = c.args.subject.now in
    let found : map (λ x. x.now) c.in_ok-found.found.items ≡ open_among zs subs z account s =
    c.in_ok-found.ensures.found
    ∙ ap (λ (t : List Token). filter (is_marked_open c.args.search.marks.now zs z t) (having account t subs)) c.lend-local.ensures
    ∙ open_marked c.args.search.marks.now zs z account s (λ b sub. b) subs c.requires.marked
    ∙ both (is_open zs z s) (has_subject account s) subs in record {
      names = λ m. ap (λ (n : Names). named n m) c.in_ok-names.ensures;
      unlimited = ap (list_any has_limit) (sym found ∙ ap (map (λ x. x.now)) (sym c.as_slice-2.ensures.value)) ∙ sym c.have_limit.ensures ∙ c.if-have_limit.false;
      says = c.if-not-says.ensures refl;
      whom = subst (IsWhom c.whom_of-whom.result) (ap (map (λ x. x.now)) c.as_slice.ensures.value ∙ found) c.whom_of-whom.ensures;
    }
