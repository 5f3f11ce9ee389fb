use Rattle.std.proofs.Common.{◌∙◌, ◌++◌, ◌∷◌, [], ap, sym, true, false, filter}
use Rattle.std.specs.List.{range_with_len}
use Rattle.std.proofs.lemmas.List.{append-nil}
use Rattle.subjects.proofs.pattern_groups.Found.{range_on}
use Rattle.subjects.proofs.pattern_groups.groups.walk_all.Goals as goal
use Rattle.subjects.proofs.pattern_groups.groups.walk_all.Goals.{then-passes+in_ok-push, else-passes}

pub loop-index-preserved : goal.loop-index-preserved
loop-index-preserved g c =
    let passes = g.P.Patterns.passes c.args.patterns.now in
    let i = c.loop-index.index in
    elim c.if-passes.branch [
      | then-passes+in_ok-push w ↦
          ap (λ v. v.items) w.all-is ∙ w.in_ok-push.ensures.items ∙ ap (λ l. l ++ i ∷ []) c.loop-index.invariant
          ∙ sym (range_on passes i true (sym c.passes.ensures ∙ w.if-passes.true))
      | else-passes w ↦
          ap (λ v. v.items) w.all-is ∙ c.loop-index.invariant ∙ sym (append-nil (filter passes (range_with_len 0 i)))
          ∙ sym (range_on passes i false (sym c.passes.ensures ∙ w.if-passes.false))
    ]
