use Rattle.std.proofs.Common.{◌≡◌, All}
use Rattle.std.specs.Prelude.{None}
use Rattle.stores.proofs.slot_cache.slots.empty_slots.Given as goal

-- those that are made have nothing
abbrev pub invariant-loop-slot : goal.invariant-loop-slot
invariant-loop-slot g l = All (λ slot. (slot.generation ≡ 0) × (slot.value ≡ None)) l.slots.items
