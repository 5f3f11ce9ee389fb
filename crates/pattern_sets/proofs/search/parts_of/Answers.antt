use Rattle.std.proofs.Common.{◌∙◌, ◌++◌, ◌∷◌, [], ap, map, sym, take, List, ℕ, Option}
use Rattle.std.specs.Option.{option_map}
use Rattle.std.proofs.lemmas.List.{map_more, map_push}
use Rattle.pattern_sets.specs.Asking.{part_view, reason_part}
use Rattle.pattern_sets.specs.declared.search.Reason.{Reason}
use Rattle.pattern_sets.proofs.search.parts_of.Goals as goal

pub loop-reason-preserved : goal.loop-reason-preserved
loop-reason-preserved c =
    let b = c.args.length.has_tail in
    let n = c.args.length.tokens in
    let i = c.loop-reason.reason-index in
    ap (map (option_map part_view)) c.in_ok-push.ensures.items ∙ map_push (option_map part_view) c.loop-reason.parts.items c.in_ok-part.part
    ∙ ap (λ (l : List (Option (List (List ℕ) × List (List ℕ)))). l ++ (option_map part_view c.in_ok-part.part ∷ [])) c.loop-reason.invariant
    ∙ ap (λ (o : Option (List (List ℕ) × List (List ℕ))). map (reason_part b n) (take i c.args.reasons.now) ++ (o ∷ [])) c.in_ok-part.ensures
    ∙ ap (λ (r : Reason). map (reason_part b n) (take i c.args.reasons.now) ++ (reason_part b n r ∷ [])) c.reason-item.is
    ∙ sym (map_more (reason_part b n) c.args.reasons.now i c.reason-item.result c.loop-reason-test.true)
