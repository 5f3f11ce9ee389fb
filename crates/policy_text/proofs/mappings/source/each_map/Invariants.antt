-- the sources so far, and what is left to read, make the whole
use Rattle.std.proofs.Common.{◌≡◌}
use Rattle.serde_json.specs.View.{members_view}
use Rattle.policy_walk.proofs.Lists.{with_front}
use Rattle.policy_text.specs.mappings.Mappings.{maps_from}
use Rattle.policy_text.proofs.mappings.source.each_map.Given as goal

abbrev pub invariant-loop-key : goal.invariant-loop-key
invariant-loop-key l = with_front l.maps.items (maps_from l.path (members_view l.key-iterator)) ≡ maps_from l.path (members_view l.members.entries)
