-- What may stand in a slot.
use Rattle.std.specs.Prelude.{◌≤◌, ◌+◌, ℕ, Option, Some, None, length}
use Rattle.std.specs.Global.{Vec}
use Rattle.std.specs.List.{sum_by}
use Rattle.receivers.specs.views.CachedViews.{count_of}
use Rattle.receivers.specs.declared.views.cached_view.CachedView.{CachedView}
use Rattle.receivers.specs.declared.cache.cached.CachedReceivers.{CachedReceivers}

-- how many receivers a view keeps, and the view itself
abbrev pub count_with : CachedView → ℕ
count_with known = count_of known.whom + 1

-- how many receivers are kept of the views behind the publisher's own, each view counted as one more
abbrev pub count_of_others : Option (Vec CachedView) → ℕ
count_of_others None = 0
count_of_others (Some known) = sum_by count_with known.items

-- It may stand in a slot: a subject of up to 128 bytes, and up to 32 receivers. So the slots have a bound.
pub record IsSmall (cached : CachedReceivers) : Type 0 where
  pub subject : length cached.key.subject.items ≤ 128
  pub receivers : count_of cached.whom + count_of_others cached.others ≤ 32
