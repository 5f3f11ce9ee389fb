use Rattle.std.proofs.Common.{[], ◌∷◌, refl}
use Rattle.sublist.proofs.Levels.{ids_at-end, at_star, at_literal, at_tail_end, nothing_behind}
use Rattle.sublist.proofs.node.Node.+contains.Goals as goal

pub returns-in-End : goal.returns-in-End
returns-in-End t c =
    let path = c.in-End.ensures in
    rw (path, ids_at-end) c.contains.ensures

pub returns-in-Tail : goal.returns-in-Tail
returns-in-Tail t c =
    let path = c.in-Tail.ensures in
    let last = nothing_behind (62 ∷ []) c.next_branch.new.path (rw path at c.requires) refl in
    rw (path, last, at_tail_end (62 ∷ []) c.args.self.now refl) c.contains-in-Tail.ensures

pub returns-in-Some : goal.returns-in-Some
returns-in-Some t c =
    let path = c.in-Star.ensures in
    rw (path, at_star (42 ∷ []) c.next_branch.new.path c.args.self.now refl refl, c.in-Some.is, ← c.deref.ensures) c.contains-in-Some.ensures

pub returns-in-None : goal.returns-in-None
returns-in-None t c =
    let path = c.in-Star.ensures in
    rw (path, at_star (42 ∷ []) c.next_branch.new.path c.args.self.now refl refl, c.in-None.is) refl

pub returns-in-Some-child : goal.returns-in-Some-child
returns-in-Some-child t c =
    let step = c.in-Literal.ensures in
    rw (step.0, at_literal c.in-Literal.token.now c.next_branch.new.path c.args.self.now step.1 step.2, ← c.in-Some-child.ensures, ← c.deref-in-Some-child.ensures) c.contains-in-Some-child.ensures

pub returns-in-None-child : goal.returns-in-None-child
returns-in-None-child t c =
    let step = c.in-Literal.ensures in
    rw (step.0, at_literal c.in-Literal.token.now c.next_branch.new.path c.args.self.now step.1 step.2, ← c.in-None-child.ensures) refl
