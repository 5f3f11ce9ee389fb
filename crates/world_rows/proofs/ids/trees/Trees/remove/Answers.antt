use Rattle.std.proofs.Common.{rules}
use Rattle.world_rows.proofs.ids.Holding.{one_less}
use Rattle.world_rows.proofs.ids.trees.Trees.remove.Goals as goal

pub returns-in-Some : goal.returns-in-Some
returns-in-Some c =
    let update = (c.get_mut.follows.holds c.take_out.new.tree).3 (search rules) in
    one_less c.args.account.now _ _ c.take_out.new.tree update.1 update.3 c.in-Some.tree.now c.args.pattern.now c.args.id c.in-Some.ensures.value c.take_out.ensures

pub invariant_of-self : goal.invariant_of-self
invariant_of-self c = record { told = c.clear.ensures c.get_mut.follows.lender-at-none.entries }

pub invariant_of-self-in-Some : goal.invariant_of-self-in-Some
invariant_of-self-in-Some c = record { told = c.clear.ensures (c.get_mut.follows.lender c.take_out.new.tree).entries }
