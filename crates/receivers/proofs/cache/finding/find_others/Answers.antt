-- the views behind the publisher's own are the others
use Rattle.std.proofs.Common.{◌∙◌, ℕ, List, ap}
use Rattle.receivers.specs.views.CachedViews.{others_in}
use Rattle.receivers.proofs.views.Seen.{known_if, tail_of}
use Rattle.receivers.proofs.cache.finding.find_others.Goals as goal

pub returns : goal.returns
returns c =
    let zs = c.args.search.sessions.now in
    let subs = c.args.search.subscriptions.now in
    let z = c.args.search.publisher.now in
    known_if zs subs z c.args.rows.now c.args.subject.now c.in_ok-known.known c.as_slice.result.now
    (c.as_slice.ensures.value ∙ tail_of c.in_ok-others.ensures ∙ ap (λ (a : List ℕ). others_in c.args.rows.now a c.args.subject.now) c.as_slice-account.ensures)
    c.in_ok-known.ensures
