-- what is left to address, behind what has been
use Rattle.std.proofs.Common.{◌≡◌, drop}
use Rattle.receivers.specs.views.CachedViews.{addressed_in_each}
use Rattle.receivers.proofs.views.cached_view.address_cached.Given as goal

abbrev pub invariant-loop-view : goal.invariant-loop-view
invariant-loop-view l =
    addressed_in_each l.message l.word l.all.items (drop l.view-index l.views) ≡ addressed_in_each l.message l.word l.initial.all.items l.views
