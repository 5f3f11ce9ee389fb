use Rattle.std.proofs.Common.{◌≡◌, ℕ, List, [], ◌∷◌, refl, sym, rules}
use Rattle.std.proofs.lemmas.Result.{on_ok_weaker, on_err_weaker}
use Rattle.std.specs.BTreeSet.{insert_key}
use Rattle.std.specs.Box.{with_value}
use Rattle.std.specs.Ordering.{nat_cmp}
use Rattle.sublist.proofs.Levels.{same-ids, same-tail, same-star, same-children, changed-ids, changed-tail, changed-star, changed-child, below_changed, below_put, nothing_behind, at_child, same_below}
use Rattle.sublist.specs.Tree.{IsPut}
use Rattle.sublist.specs.declared.node.Node.TheViews.{out-roll-Node}
use Rattle.sublist.proofs.node.Node.+insert.Goals as goal

-- the ids at a path, and one more
abbrev one_more : ℕ → List ℕ → List ℕ
one_more id ids = insert_key nat_cmp ids id

pub insert-returns-in-End-clause-ok : goal.insert-returns-in-End-clause-ok
insert-returns-in-End-clause-ok t c =
    let path = c.in-End.ensures in
    on_ok_weaker c.add.result (λ is. rw path (changed-ids (one_more c.args.id) c.args.self.now c.add.new.self is)) c.add.ensures.ok

pub insert-returns-in-End-clause-err : goal.insert-returns-in-End-clause-err
insert-returns-in-End-clause-err t c = on_err_weaker c.add.result (same-ids c.args.self.now c.add.new.self) c.add.ensures.err

pub insert-returns-in-Tail-clause-ok : goal.insert-returns-in-Tail-clause-ok
insert-returns-in-Tail-clause-ok t c =
    let path = c.in-Tail.ensures in
    let last = nothing_behind (62 ∷ []) c.next_branch.new.path (rw path at c.requires) refl in
    on_ok_weaker c.add-in-Tail.result (λ is. rw (path, last) (changed-tail (one_more c.args.id) c.args.self.now c.add-in-Tail.new.self (62 ∷ []) refl is)) c.add-in-Tail.ensures.ok

pub insert-returns-in-Tail-clause-err : goal.insert-returns-in-Tail-clause-err
insert-returns-in-Tail-clause-err t c = on_err_weaker c.add-in-Tail.result (same-tail c.args.self.now c.add-in-Tail.new.self) c.add-in-Tail.ensures.err

pub insert-returns-in-Some-clause-ok : goal.insert-returns-in-Some-clause-ok
insert-returns-in-Some-clause-ok t c =
    let path = c.in-Star.ensures in
    on_ok_weaker c.insert.result (λ more. rw path (changed-star (one_more c.args.id) c.args.self.now _ (42 ∷ []) _ refl refl (λ us. rw (c.in-Some.is, ← c.deref_mut.ensures.value) (more us)))) c.insert.ensures.ok

pub insert-returns-in-Some-clause-err : goal.insert-returns-in-Some-clause-err
insert-returns-in-Some-clause-err t c = on_err_weaker c.insert.result (λ more. same-star c.args.self.now _ (λ us. rw (c.in-Some.is, ← c.deref_mut.ensures.value) (more us))) c.insert.ensures.err

pub insert-returns-in_ok-grown-in-None-clause-ok : goal.insert-returns-in_ok-grown-in-None-clause-ok
insert-returns-in_ok-grown-in-None-clause-ok t c =
    let path = c.in-Star.ensures in
    rw (out-roll-Node, path) (changed-star (one_more c.args.id) c.args.self.now _ (42 ∷ []) _ refl refl (λ us. rw c.in-None.is (c.in_ok-grown-in-None.ensures us)))

pub insert-returns-in-Some-get_mut-clause-ok : goal.insert-returns-in-Some-get_mut-clause-ok
insert-returns-in-Some-get_mut-clause-ok t c =
    let step = c.in-Literal.ensures in
    let table = c.deref_mut-in-Some-children.ensures.value in
    let update = (c.get_mut.follows.holds (with_value c.in-Some-get_mut.child.now c.insert-in-Some-get_mut.new.self)).3 (search rules) in
    let f = one_more c.args.id in
    on_ok_weaker c.insert-in-Some-get_mut.result (λ more.
    let inside = rw c.deref_mut-in-Some-get_mut.ensures.value at more in
    rw step.0 (changed-child f c.args.self.now _ _ _ (record { here = refl; behind = refl; any = refl }) step.1 step.2
    (λ u us. rw c.in-Some-children.is (below_changed _ _ _ _ f _ update.1 (rw table at update.3) (λ us. at_child f _ us c.in-Literal.token.now c.in-Some-children.children.value.entries _ _ (rw table at c.in-Some-get_mut.ensures.value) (inside us)) u us)))) c.insert-in-Some-get_mut.ensures.ok

pub insert-returns-in-Some-get_mut-clause-err : goal.insert-returns-in-Some-get_mut-clause-err
insert-returns-in-Some-get_mut-clause-err t c =
    let table = c.deref_mut-in-Some-children.ensures.value in
    let update = (c.get_mut.follows.holds (with_value c.in-Some-get_mut.child.now c.insert-in-Some-get_mut.new.self)).3 (search rules) in
    on_err_weaker c.insert-in-Some-get_mut.result (λ more.
    let inside = rw c.deref_mut-in-Some-get_mut.ensures.value at more in
    same-children c.args.self.now _ (record { here = refl; behind = refl; any = refl })
    (λ u us. rw c.in-Some-children.is (same_below c.in-Literal.token.now _ _ _ _ (rw table at c.in-Some-get_mut.ensures.value) update.1 (rw table at update.3) inside u us))) c.insert-in-Some-get_mut.ensures.err

pub insert-returns-in_ok-child-in-None-get_mut-clause-ok : goal.insert-returns-in_ok-child-in-None-get_mut-clause-ok
insert-returns-in_ok-child-in-None-get_mut-clause-ok t c =
    let step = c.in-Literal.ensures in
    let f = one_more c.args.id in
    let table : c.deref_mut-in-None-get_mut.result.now.entries ≡ c.in-Some-children.children.value.entries = rw (c.deref_mut-in-None-get_mut.ensures.value, c.get_mut.follows.holds-at-none, c.deref_mut-in-Some-children.ensures.value) refl in
    on_ok_weaker c.put.result (λ (is : IsPut c.deref_mut-in-None-get_mut.result.now.entries c.in-Literal.token.now c.in_ok-child-in-None-get_mut.child c.put.new.children.entries). rw step.0 (changed-child f c.args.self.now _ _ _ (record { here = refl; behind = refl; any = refl }) step.1 step.2
    (λ u us. rw c.in-Some-children.is (below_put f _ c.in-Literal.token.now c.in-Some-children.children.value.entries _ _ _ table (rw c.deref_mut-in-Some-children.ensures.value at (sym c.in-None-get_mut.ensures.value)) is c.in_ok-child-in-None-get_mut.ensures u us)))) c.put.ensures.ok

pub insert-returns-in_ok-child-in-None-get_mut-clause-err : goal.insert-returns-in_ok-child-in-None-get_mut-clause-err
insert-returns-in_ok-child-in-None-get_mut-clause-err t c =
    let table : c.deref_mut-in-None-get_mut.result.now.entries ≡ c.in-Some-children.children.value.entries = rw (c.deref_mut-in-None-get_mut.ensures.value, c.get_mut.follows.holds-at-none, c.deref_mut-in-Some-children.ensures.value) refl in
    on_err_weaker c.put.result (λ same. same-children c.args.self.now _ (record { here = refl; behind = refl; any = refl }) (λ u us. rw (c.in-Some-children.is, same, table) refl)) c.put.ensures.err

pub insert-returns-in_ok-alone-in-None-children-clause-ok : goal.insert-returns-in_ok-alone-in-None-children-clause-ok
insert-returns-in_ok-alone-in-None-children-clause-ok t c =
    let step = c.in-Literal.ensures in
    let f = one_more c.args.id in
    rw (out-roll-Node, step.0) (changed-child f c.args.self.now _ _ _ (record { here = refl; behind = refl; any = refl }) step.1 step.2
    (λ u us. rw c.in-None-children.is (below_put f _ c.in-Literal.token.now [] [] _ _ refl refl c.in_ok-alone-in-None-children.ensures c.in_ok-child-in-None-children.ensures u us)))
