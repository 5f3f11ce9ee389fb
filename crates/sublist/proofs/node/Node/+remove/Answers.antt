use Rattle.std.proofs.Common.{◌≡◌, ◌==◌, not, ℕ, List, [], ◌∷◌, refl, sym, ap, ◌∙◌, rules}
use Rattle.std.specs.List.{filter}
use Rattle.std.specs.Box.{with_value}
use Rattle.sublist.specs.Tree.{ids_at}
use Rattle.sublist.specs.declared.node.Node.TheViews.{out-roll-Node}
use Rattle.sublist.proofs.Levels.{changed-ids, changed-tail, changed-star, changed-child, below_changed, pruned_below, nothing_behind, at_child, none_left, below_absent}
use Rattle.sublist.proofs.node.Node.+remove.Goals as goal

-- the ids at a path without one
abbrev one_less : ℕ → List ℕ → List ℕ
one_less id = filter (λ i. not (i == id))

pub returns-in-End : goal.returns-in-End
returns-in-End t c =
    let path = c.in-End.ensures in
    rw path (changed-ids (one_less c.args.id) c.args.self.now c.take_out.new.self c.take_out.ensures)

pub returns-in-Tail : goal.returns-in-Tail
returns-in-Tail t c =
    let path = c.in-Tail.ensures in
    let last = nothing_behind (62 ∷ []) c.next_branch.new.path (rw path at c.requires) refl in
    rw (path, last) (changed-tail (one_less c.args.id) c.args.self.now c.take_out-in-Tail.new.self (62 ∷ []) refl c.take_out-in-Tail.ensures)

pub returns-in-None : goal.returns-in-None
returns-in-None t c =
    let path = c.in-Star.ensures in
    rw path (changed-star (one_less c.args.id) c.args.self.now _ (42 ∷ []) _ refl refl (λ us. rw c.in-None.is (none_left _ (λ i. not (i == c.args.id)))))

pub returns-then-is_bare : goal.returns-then-is_bare
returns-then-is_bare t c =
    let path = c.in-Star.ensures in
    rw (out-roll-Node, path) (changed-star (one_less c.args.id) c.args.self.now _ (42 ∷ []) _ refl refl (λ us. rw (c.in-Some.is, ← c.deref_mut.ensures.value) (sym (c.if-is_bare.ensures us) ∙ (ap (ids_at us) c.deref.ensures ∙ c.remove.ensures us))))

pub returns-else-is_bare : goal.returns-else-is_bare
returns-else-is_bare t c =
    let path = c.in-Star.ensures in
    rw path (changed-star (one_less c.args.id) c.args.self.now _ (42 ∷ []) _ refl refl (λ us. rw (c.in-Some.is, ← c.deref_mut.ensures.value) (c.remove.ensures us)))

pub returns-then-is_bare-2 : goal.returns-then-is_bare-2
returns-then-is_bare-2 t c =
    let step = c.in-Literal.ensures in
    let table = c.deref_mut-in-Some-children.ensures.value in
    let update = (c.get_mut.follows.holds (with_value c.in-Some-get_mut.child.now c.remove-in-Some-get_mut.new.self)).3 (search rules) in
    let pruned = rw c.deref_mut-then-is_bare-2.ensures.value at c.remove-then-is_bare-2.ensures.updates in
    let f = one_less c.args.id in
    let inside = rw c.deref_mut-in-Some-get_mut.ensures.value at c.remove-in-Some-get_mut.ensures in
    let bare = rw c.deref-in-Some-get_mut.ensures at c.if-is_bare-2.ensures in
    rw step.0 (changed-child f c.args.self.now _ _ _ (record { here = refl; behind = refl; any = refl }) step.1 step.2
    (λ u us. rw c.in-Some-children.is (pruned_below _ _ _ _ update.1 bare pruned.1 pruned.3 u us
    ∙ below_changed _ _ _ _ f _ update.1 (rw table at update.3) (λ us. at_child f _ us c.in-Literal.token.now c.in-Some-children.children.value.entries _ _ (rw table at c.in-Some-get_mut.ensures.value) (inside us)) u us)))

pub returns-else-is_bare-2 : goal.returns-else-is_bare-2
returns-else-is_bare-2 t c =
    let step = c.in-Literal.ensures in
    let table = c.deref_mut-in-Some-children.ensures.value in
    let update = (c.get_mut.follows.holds (with_value c.in-Some-get_mut.child.now c.remove-in-Some-get_mut.new.self)).3 (search rules) in
    let f = one_less c.args.id in
    let inside = rw c.deref_mut-in-Some-get_mut.ensures.value at c.remove-in-Some-get_mut.ensures in
    rw step.0 (changed-child f c.args.self.now _ _ _ (record { here = refl; behind = refl; any = refl }) step.1 step.2
    (λ u us. rw c.in-Some-children.is (below_changed _ _ _ _ f _ update.1 (rw table at update.3) (λ us. at_child f _ us c.in-Literal.token.now c.in-Some-children.children.value.entries _ _ (rw table at c.in-Some-get_mut.ensures.value) (inside us)) u us)))

pub returns-in-None-get_mut : goal.returns-in-None-get_mut
returns-in-None-get_mut t c =
    let step = c.in-Literal.ensures in
    let f = one_less c.args.id in
    let table : c.get_mut.follows.lender-at-none.entries ≡ c.in-Some-children.children.value.entries = rw (c.get_mut.follows.holds-at-none, c.deref_mut-in-Some-children.ensures.value) refl in
    rw step.0 (changed-child f c.args.self.now _ _ _ (record { here = refl; behind = refl; any = refl }) step.1 step.2
    (λ u us. rw (c.in-Some-children.is, table) (below_absent f _ _ c.in-Some-children.children.value.entries refl (rw c.deref_mut-in-Some-children.ensures.value at (sym c.in-None-get_mut.ensures.value)) u us)))

pub returns-in-None-children : goal.returns-in-None-children
returns-in-None-children t c =
    let step = c.in-Literal.ensures in
    let f = one_less c.args.id in
    rw step.0 (changed-child f c.args.self.now _ _ _ (record { here = refl; behind = refl; any = refl }) step.1 step.2
    (λ u us. rw c.in-None-children.is (below_absent f _ c.in-Literal.token.now [] refl refl u us)))
