-- what was found, with what is left, decides the same as the whole
use Rattle.std.proofs.Common.{◌≡◌, ◌||◌, length}
use Rattle.std.specs.List.{list_any}
use Rattle.subjects.specs.Subject.{tokens_of}
use Rattle.mapping.specs.templates.Template.{part_of, is_bad_part, is_star_part, is_numbered_part}
use Rattle.mapping.proofs.templates.template.kinds_of.Given as goal

abbrev pub invariant-loop-token : goal.invariant-loop-token
invariant-loop-token l = record {
  bad : (l.kinds.has_bad || list_any (λ t. is_bad_part (part_of t)) l.tokens) ≡ list_any (λ t. is_bad_part (part_of t)) (tokens_of l.text);
  star : (l.kinds.has_star || list_any (λ t. is_star_part (part_of t)) l.tokens) ≡ list_any (λ t. is_star_part (part_of t)) (tokens_of l.text);
  numbered : (l.kinds.has_numbered || list_any (λ t. is_numbered_part (part_of t)) l.tokens) ≡ list_any (λ t. is_numbered_part (part_of t)) (tokens_of l.text);
}

abbrev pub decreases-loop-token : goal.decreases-loop-token
decreases-loop-token l = length l.tokens
