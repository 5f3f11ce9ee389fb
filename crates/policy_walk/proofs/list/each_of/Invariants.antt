-- what was read so far, and what is left to read, make the whole
use Rattle.std.proofs.Common.{◌≡◌}
use Rattle.serde_json.specs.View.{items_view}
use Rattle.policy_walk.specs.Lists.{each}
use Rattle.policy_walk.proofs.Lists.{from_index}
use Rattle.policy_walk.proofs.list.each_of.Given as goal

abbrev pub invariant-loop-index : goal.invariant-loop-index
invariant-loop-index g l = from_index (g.R.Reader.reads l.reader) l.path l.items.items l.index l.values ≡ each (g.R.Reader.reads l.reader) l.path 0 (items_view l.values)
