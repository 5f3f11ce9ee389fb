-- its own account first, and then the views behind it
use Rattle.std.proofs.Common.{◌≡◌, List, ℕ, Option, Some, subst, sym}
use Rattle.std.specs.Global.{Vec}
use Rattle.subjects.specs.Subject.{Token}
use Rattle.receivers.specs.views.CachedViews.{IsCachedView, IsSeen, KnowsOthers}
use Rattle.receivers.specs.cache.Drawn.{IsSent, subject_of}
use Rattle.receivers.specs.declared.cache.drawn.Drawn.{Drawn}
use Rattle.receivers.specs.declared.views.cached_view.CachedView.{CachedView}
use Rattle.receivers.proofs.cache.Draws.{sent_under}
use Rattle.receivers.proofs.cache.finding.find_drawn.Goals as goal

pub returns-in_ok-new-in-Some-2 : goal.returns-in_ok-new-in-Some-2
returns-in_ok-new-in-Some-2 c =
    let zs = c.args.search.sessions.now in
    let subs = c.args.search.subscriptions.now in
    let z = c.args.search.publisher.now in
    let s : List Token = c.args.subject.now in
    subst (λ (d : Drawn). IsSent c.args.rows.now zs subs z d × (subject_of d ≡ s)) (sym c.in_ok-new-in-Some-2.ensures)
    (sent_under c.args.rows.now zs subs z c.in-Some.own c.in-Some-2.others s c.requires.unrouted
    (subst (λ (account : List ℕ). IsSeen zs subs z c.in-Some.own account s) c.as_slice-account.ensures
    (subst (λ (o : Option CachedView). IsCachedView o zs subs z c.as_slice-account.result.now s) c.in-Some.is c.in_ok-cached_view_at.ensures))
    (subst (λ (t : List Token). KnowsOthers (Some c.in-Some-2.others) c.args.rows.now zs subs z t) c.lend.ensures
    (subst (λ (o : Option (Vec CachedView)). KnowsOthers o c.args.rows.now zs subs z c.lend.result) c.in-Some-2.is c.in_ok-find_others-in-Some.ensures)))
