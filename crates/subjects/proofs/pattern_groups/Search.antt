-- The least pattern that passes, by the hashes of a text's fronts.
use Rattle.std.proofs.Common.{◌<◌, ◌≤◌, ℕ, Bool, Some, None, arith}
use Rattle.subjects.specs.pattern_groups.Links.{IsLeast, IsLeastBelow}

pub least_found : (passes : ℕ → Bool) (count place : ℕ) → place < count → IsLeastBelow passes count place → IsLeast passes count (Some place)
least_found passes count place below least = (below, least.found below, least.none_before)

pub none_found : (passes : ℕ → Bool) (count place : ℕ) → count ≤ place → IsLeastBelow passes count place → IsLeast passes count None
none_found passes count place end least j below = least.none_before j (omega (arith, end, below))
