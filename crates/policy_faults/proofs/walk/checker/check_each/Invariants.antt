use Rattle.std.proofs.Common.{◌≡◌, drop}
use Rattle.serde_json.specs.View.{items_view}
use Rattle.policy_faults.specs.walk.Walk.{with_each}
use Rattle.policy_faults.proofs.walk.checker.check_each.Given as goal

abbrev pub invariant-loop-index : goal.invariant-loop-index
invariant-loop-index g l =
    with_each (g.C.Checker.finds l.checker) l.path l.index (items_view (drop l.index l.values)) l.found.items
    ≡ with_each (g.C.Checker.finds l.checker) l.path 0 (items_view l.values) l.initial.found.items
