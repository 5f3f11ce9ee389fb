-- the views so far are known
use Rattle.std.proofs.Common.{take}
use Rattle.receivers.specs.views.CachedViews.{AreSeen}
use Rattle.receivers.proofs.views.cached_view.cached_views.Given as goal

abbrev pub invariant-loop-view : goal.invariant-loop-view
invariant-loop-view l = AreSeen l.search.sessions.now l.search.subscriptions.now l.search.publisher.now l.all.items (take l.view-index l.views)
