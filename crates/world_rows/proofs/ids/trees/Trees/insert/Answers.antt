use Rattle.std.proofs.Common.{◌≡◌, None, refl, sym, subst, rules}
use Rattle.std.specs.Map.{lookup}
use Rattle.world_rows.proofs.ids.Holding.{has, one_more, first_one, same_ones}
use Rattle.world_rows.proofs.ids.trees.Trees.insert.Goals as goal

pub returns-in-Ok-clause-ok : goal.returns-in-Ok-clause-ok
returns-in-Ok-clause-ok c =
    let update = (c.get_mut.follows.holds c.add.new.tree).3 (search rules) in
    one_more c.args.account.now _ _ c.add.new.tree update.1 update.3 c.in-Some.tree.now c.args.pattern.now c.args.id c.in-Some.ensures.value c.in-Ok.ensures.ok

pub returns-in-Some-clause-err : goal.returns-in-Some-clause-err
returns-in-Some-clause-err c =
    let update = (c.get_mut.follows.holds c.add.new.tree).3 (search rules) in
    same_ones c.args.account.now _ _ c.add.new.tree update.1 update.3 c.in-Some.tree.now c.in-Some.ensures.value c.in-Err.ensures.err

pub returns-in-Ok-insert-clause-ok : goal.returns-in-Ok-insert-clause-ok
returns-in-Ok-insert-clause-ok c =
    let old = c.args.self.now.by_account.entries in
    let key = c.in_ok-key-in-None.key.items in
    let update = c.in-Ok-insert.ensures.updates in
    let lent : c.get_mut.follows.lender-at-none.entries ≡ old = rw c.get_mut.follows.holds-at-none refl in
    let is : key ≡ c.args.account.now = c.in_ok-key-in-None.ensures.items in
    let none : None ≡ lookup (has key) old = subst (λ x. None ≡ lookup (has x) old) (sym is) c.in-None.ensures.value in
    let step = first_one key old c.insert.new.self.entries c.in_ok-tree-in-None.tree update.1 (rw lent at update.3) c.args.pattern.now c.args.id none c.in_ok-tree-in-None.ensures in
    rw is at step

pub invariant_of-self : goal.invariant_of-self
invariant_of-self c = record { told = c.clear.ensures (c.get_mut.follows.lender c.add.new.tree).entries }

pub invariant_of-self-in-Break-1 : goal.invariant_of-self-in-Break-1
invariant_of-self-in-Break-1 c = record { told = c.clear.ensures c.get_mut.follows.lender-at-none.entries }

pub invariant_of-self-in-Break-branch-2 : goal.invariant_of-self-in-Break-branch-2
invariant_of-self-in-Break-branch-2 c = record { told = c.clear.ensures c.get_mut.follows.lender-at-none.entries }

pub invariant_of-self-in-None : goal.invariant_of-self-in-None
invariant_of-self-in-None c = record { told = c.clear.ensures c.insert.new.self.entries }
