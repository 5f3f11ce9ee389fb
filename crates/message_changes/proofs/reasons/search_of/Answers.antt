use Rattle.std.proofs.Common.{◌∙◌, ap, map, List, ℕ, Bor}
use Rattle.pattern_sets.specs.Longest.{most_tokens}
use Rattle.message_changes.proofs.reasons.search_of.Goals as goal

pub returns : goal.returns
returns c =
    let of = λ (p : Bor (List (List ℕ))). p.now in
    record {
      allowing = c.in_ok-allowing.ensures;
      refusing = c.in_ok-refusing.ensures.reasons;
      literal = c.requires.literal;
      free = c.requires.fresh;
      most = c.most_tokens-most.ensures ∙ ap most_tokens (ap (map of) c.as_slice-patterns.ensures.value ∙ c.in_ok-subjects.ensures);
      most_of_queues = c.in_ok-most_of_queues.ensures;
    }
