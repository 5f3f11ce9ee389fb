use Rattle.std.proofs.Common.{◌∙◌, ap, ◌++◌, ◌∷◌, [], sym, List, ℕ}
use Rattle.policy_sets.proofs.Places.{one_more}
use Rattle.policy_sets.proofs.joining.places.Goals as goal

pub loop-place-preserved : goal.loop-place-preserved
loop-place-preserved c =
    c.in_ok-push.ensures.items ∙ ap (λ (l : List ℕ). l ++ c.loop-place.place ∷ []) c.loop-place.invariant ∙ sym (one_more c.loop-place.place)
