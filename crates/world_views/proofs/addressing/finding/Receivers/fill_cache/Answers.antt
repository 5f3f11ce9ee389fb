-- what is cached of a publisher and a subject is of those that may be sent its messages
use Rattle.std.proofs.Common.{◌∙◌, Option, map, filter, ap, sym, subst}
use Rattle.std.specs.Global.{Vec}
use Rattle.world_subscriptions.specs.Subscriptions.{has_subject, having}
use Rattle.receivers.specs.views.Open.{is_open}
use Rattle.receivers.specs.views.Marked.{is_marked_open}
use Rattle.receivers.specs.views.CachedViews.{KnowsOthers}
use Rattle.receivers.specs.declared.views.cached_view.CachedView.{CachedView}
use Rattle.receivers.proofs.views.Marked.{open_marked}
use Rattle.receivers.proofs.views.Tests.{both}
use Rattle.world_views.proofs.addressing.finding.Receivers.fill_cache.Goals as goal

pub returns-in-Ok : goal.returns-in-Ok
returns-in-Ok c =
    let zs = c.args.search.sessions.now in
    let subs = c.args.search.subscriptions.now in
    let z = c.args.search.publisher.now in
    let s = c.args.subject.now in
    let put = c.put.ensures c.args.rows.now zs subs z (c.note_asked.ensures.cached c.args.rows.now zs subs c.requires.cached) c.requires.publisher
    (ap (map (λ x. x.now)) c.as_slice.ensures.value
    ∙ c.in-Ok.ensures.found
    ∙ ap (λ account. filter (is_marked_open c.args.search.marks.now zs z s) (having account s subs)) c.as_slice-account.ensures
    ∙ open_marked c.args.search.marks.now zs z z.user.account s (λ b sub. b) subs c.requires.marked
    ∙ both (is_open zs z s) (has_subject z.user.account s) subs)
    c.others_of-others.ensures c.requires.allowed in
    record { cached = put.0; others = put.1 }

-- what it said already of its publisher and subject stays so
pub returns-then-not-note_asked : goal.returns-then-not-note_asked
returns-then-not-note_asked c = record {
  cached = c.note_asked.ensures.cached c.args.rows.now c.args.search.sessions.now c.args.search.subscriptions.now c.requires.cached;
  others = subst (λ (o : Option (Vec CachedView)). KnowsOthers o c.args.rows.now c.args.search.sessions.now c.args.search.subscriptions.now c.args.search.publisher.now c.args.subject.now)
      (sym c.note_asked.ensures.others) c.requires.others;
}

pub returns-in_default : goal.returns-in_default
returns-in_default c = record {
  cached = c.note_asked.ensures.cached c.args.rows.now c.args.search.sessions.now c.args.search.subscriptions.now c.requires.cached;
  others = subst (λ (o : Option (Vec CachedView)). KnowsOthers o c.args.rows.now c.args.search.sessions.now c.args.search.subscriptions.now c.args.search.publisher.now c.args.subject.now)
      (sym c.note_asked.ensures.others) c.requires.others;
}
