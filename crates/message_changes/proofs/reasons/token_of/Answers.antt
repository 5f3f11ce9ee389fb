use Rattle.std.proofs.Common.{◌≡◌, ◌∙◌, ◌++◌, ap, sym, map, List, ℕ, Bor}
use Rattle.std.specs.List.{list_any}
use Rattle.std.proofs.lemmas.List.{map-append}
use Rattle.pattern_sets.specs.Laws.{has_token}
use Rattle.message_changes.proofs.Members.{any_map}
use Rattle.message_changes.specs.Reasons.{all_entries, first_of, parts_of, second_of, subject_of}
use Rattle.message_changes.proofs.reasons.token_of.Goals as goal

pub returns-clause-fresh : goal.returns-clause-fresh
returns-clause-fresh c =
    let of = λ (p : Bor (List (List ℕ))). p.now in
    let one = first_of c.args.rules in
    let other = second_of c.args.rules in
    let t = c.in_ok-token.token.items in
    let whole : map of c.as_slice-patterns.result.now ≡ map subject_of (all_entries one other) ++ parts_of (all_entries one other) =
    ap (map of) (c.as_slice-patterns.ensures.value ∙ c.in_ok-extend_from_slice.ensures.items) ∙ map-append of c.in_ok-all.all.items c.as_slice-parts.result.now
    ∙ ap (λ (l : List (List (List ℕ))). l ++ map of c.as_slice-parts.result.now) c.in_ok-all.ensures
    ∙ ap (λ (l : List (List (List ℕ))). map subject_of (all_entries one other) ++ l) (ap (map of) c.as_slice-parts.ensures.value ∙ c.in_ok-queues.ensures) in
    ap (list_any (has_token t)) (sym whole) ∙ any_map of (has_token t) c.as_slice-patterns.result.now ∙ c.in_ok-token.ensures.fresh
