-- sorted numbers are the ascending ones
use Rattle.std.proofs.Common.{◌∙◌, ap}
use Rattle.std.proofs.lemmas.List.Sorted.{IsNonDecreasingBy-from_sort}
use Rattle.world_sessions.specs.Renewal.{ascending}
use Rattle.world_sessions.proofs.Ascending.{ascending_by_sort}
use Rattle.world_sessions.proofs.renewal.closed.Goals as goal

pub returns : goal.returns
returns c =
    ascending_by_sort _ _ c.sort_unstable.ensures.permutation (IsNonDecreasingBy-from_sort (λ n. n) _ c.sort_unstable.ensures.sorted)
    ∙ ap ascending c.in_ok-gone.ensures
