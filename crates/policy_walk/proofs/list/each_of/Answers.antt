use Rattle.std.proofs.Common.{rules, ◌≡◌, [], ◌∷◌, ◌++◌}
use Rattle.serde_json.specs.View.{items_view}
use Rattle.policy_walk.specs.Lists.{each}
use Rattle.policy_walk.proofs.Lists.{goes_on}
use Rattle.policy_walk.proofs.list.each_of.Goals as goal

pub loop-index-preserved : goal.loop-index-preserved
loop-index-preserved g c =
    let reads = g.R.Reader.reads c.args.reader.now in
    let e : c.push.new.self.items ≡ c.loop-index.items.items ++ c.in_ok-item.item ∷ [] = c.in_ok-push.ensures.items in
    rw e (goes_on reads c.args.path.now c.loop-index.items.items c.args.values.now c.loop-index.index c.index-values-index.result c.in_ok-item.item (each reads c.args.path.now 0 (items_view c.args.values.now))
    c.loop-index-test.true c.index-values-index.is (search rules) c.loop-index.invariant)
