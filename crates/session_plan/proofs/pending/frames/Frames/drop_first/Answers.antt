use Rattle.std.proofs.Common.{drop, ap, ◌∙◌, arith, append-nil}
use Rattle.session_plan.proofs.pending.Lists.{drop_one_behind, last_behind}
use Rattle.session_plan.proofs.pending.frames.Frames.drop_first.Goals as goal

pub returns-then-len-self-gt1 : goal.returns-then-len-self-gt1
returns-then-len-self-gt1 c =
    drop_one_behind c.self.inside.front.items c.self.inside.back.items c.self.inside.done (omega (arith, c.if-len-self-gt1.true, c.len.ensures))
    ∙ ap (drop 1) c.self.view_is

pub returns : goal.returns
returns c =
    rw (c.swap.ensures.x_after, c.swap.ensures.y_after, c.clear.ensures.items)
    (append-nil c.self.inside.back.items
    ∙ last_behind c.self.inside.front.items c.self.inside.back.items c.self.inside.done (omega (arith, c.if-len-self-gt1.false, c.len.ensures)) c.self.invariant.1
    ∙ ap (drop 1) c.self.view_is)
