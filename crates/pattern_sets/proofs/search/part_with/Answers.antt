use Rattle.std.proofs.Common.{map}
use Rattle.pattern_sets.proofs.Searching.{valid_part}
use Rattle.pattern_sets.proofs.search.part_with.Goals as goal

pub invariant_of-part : goal.invariant_of-part
invariant_of-part c = record {
  valid = valid_part c.args.length.has_tail c.args.length.tokens c.args.reason.now.subject.now c.in_ok-found.found c.in-Some.tokens (λ tokens. map (λ t. t.now) tokens.items) c.tokens.ensures.grammar c.in_ok-found.ensures c.in-Some.is;
}
