use Rattle.std.proofs.Common.{◌∙◌, ap, map, sym, List, ℕ, Bor}
use Rattle.std.proofs.lemmas.List.{map_push}
use Rattle.pattern_sets.proofs.Parts.{filled_more}
use Rattle.pattern_sets.proofs.part.fill.Goals as goal

pub loop-left-preserved : goal.loop-left-preserved
loop-left-preserved c =
    let of = λ (t : Bor (List ℕ)). t.now in
    let more = ap (map of) c.in_ok-push.ensures.items ∙ map_push of c.loop-left.part.items _ in
    sym (filled_more c.args.has_tail c.loop-left.left _ _ c.loop-left-test.true more) ∙ c.loop-left.invariant
