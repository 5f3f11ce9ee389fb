-- What is cached in slots.
use Rattle.std.specs.Prelude.{◌==◌, ℕ, Option, Some, None, slice_get, if◌then◌else◌}
use Rattle.stores.specs.declared.slot_cache.slots.Slot.{Slot}
use Rattle.stores.specs.declared.slot_cache.slots.SlotCache.{SlotCache}

-- what a slot has, if it was put there in this generation
abbrev pub value_in : {T : Type 0} → ℕ → Option (Slot T) → Option T
value_in generation None = None
value_in generation (Some slot) = if slot.generation == generation then slot.value else None

-- what the slot at a place has
abbrev pub value_at : {T : Type 0} → SlotCache T → ℕ → Option T
value_at cache place = value_in cache.generation (slice_get cache.slots.items place)
