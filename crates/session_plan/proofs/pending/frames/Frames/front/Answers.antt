-- the frames of the latest piece are behind
use Rattle.std.proofs.Common.{◌∙◌, ◌++◌, List, length-drop, drop, ap, sym, arith}
use Rattle.std.proofs.lemmas.List.{take_all}
use Rattle.wire_read.specs.declared.frame.Frame.{Frame}
use Rattle.session_plan.proofs.pending.frames.Frames.front.Goals as goal

pub returns : goal.returns
returns c =
    let back = c.self.inside.back.items in
    let whole = take_all _ (drop c.self.inside.done c.deref.result.now) (omega (arith, length-drop c.self.inside.done c.deref.result.now)) in
    (back, sym c.self.view_is ∙ ap (λ (l : List Frame). drop c.self.inside.done l ++ back) (sym c.deref.ensures.value) ∙ ap (λ (l : List Frame). l ++ back) (sym whole))
