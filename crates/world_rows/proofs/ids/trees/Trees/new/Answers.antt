use Rattle.world_rows.proofs.ids.trees.Trees.new.Goals as goal

pub invariant_of-result : goal.invariant_of-result
invariant_of-result c = record { told = c.new-2.ensures c.new.result.entries }
