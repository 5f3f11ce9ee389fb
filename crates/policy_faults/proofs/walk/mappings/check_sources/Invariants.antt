use Rattle.std.proofs.Common.{◌≡◌}
use Rattle.serde_json.specs.View.{members_view}
use Rattle.policy_faults.specs.walk.Mappings.{with_sources}
use Rattle.policy_faults.proofs.walk.mappings.check_sources.Given as goal

abbrev pub invariant-loop-key : goal.invariant-loop-key
invariant-loop-key l =
    with_sources l.path (members_view l.key-iterator) l.found.items ≡ with_sources l.path (members_view l.sources.entries) l.initial.found.items
