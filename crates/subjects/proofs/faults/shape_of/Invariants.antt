-- what was found, with what is left, decides the same as the whole
use Rattle.std.proofs.Common.{◌≡◌, ◌≤◌, ◌+◌, ◌==◌, ◌&&◌, ◌||◌, not, ltb, length}
use Rattle.std.specs.List.{list_any}
use Rattle.subjects.specs.Subject.{Token, is_wildcard, tail_is_last, tokens_of}
use Rattle.subjects.proofs.Walks.{last_behind}
use Rattle.subjects.proofs.faults.shape_of.Given as goal

abbrev pub invariant-loop-token : goal.invariant-loop-token
invariant-loop-token l = record {
  empty_token : (l.has_empty_token || list_any (λ (t : Token). length t == 0) l.tokens) ≡ list_any (λ (t : Token). length t == 0) (tokens_of l.text);
  tail_last : (not l.has_tail_before && last_behind l.was_tail l.tokens) ≡ tail_is_last (tokens_of l.text);
  too_many : ltb 512 (l.count + length l.tokens) ≡ ltb 512 (length (tokens_of l.text));
  bound : l.count ≤ 513;
  wildcard : (l.has_wildcard || list_any is_wildcard l.tokens) ≡ list_any is_wildcard (tokens_of l.text);
}

abbrev pub decreases-loop-token : goal.decreases-loop-token
decreases-loop-token l = length l.tokens
