-- What the cached ids say of the entries of a map of trees.
use Rattle.std.specs.Prelude.{◌≡◌, ℕ, Some}
use Rattle.stores.specs.slot_cache.Slots.{value_at}
use Rattle.world_rows.specs.ids.CachedIds.{IsSaid}
use Rattle.world_rows.specs.ids.Entries.{Entries}
use Rattle.world_rows.specs.declared.ids.cached_ids.CachedIds.{CachedIds}
use Rattle.world_rows.specs.declared.ids.id_cache.IdCache.{IdCache}

-- those of each slot are so
abbrev pub AreTold : IdCache → Entries → Type 0
AreTold cache entries = (place : ℕ) (cached : CachedIds) → value_at cache.slots place ≡ Some cached → IsSaid cached entries
