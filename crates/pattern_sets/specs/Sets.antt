-- The search for what one set of subjects has and another hasn't.
use Rattle.std.specs.Prelude.{◌≡◌, ◌<◌, ◌≤◌, ◌++◌, ◌∷◌, [], ℕ, false, true, List, length, map, None}
use Rattle.std.specs.List.{list_any, slice_index_or}
use Rattle.subjects.specs.Subject.{Token, is_literal}
use Rattle.pattern_sets.specs.Laws.{has_token}
use Rattle.pattern_sets.specs.Longest.{most_tokens}
use Rattle.pattern_sets.specs.Samples.{tail}
use Rattle.pattern_sets.specs.declared.search.Allowing.{Allowing}
use Rattle.pattern_sets.specs.declared.search.Reason.{Reason}
use Rattle.pattern_sets.specs.declared.search.Search.{Search}

-- The one set allows by its patterns. The other refuses by what it has less, or since it has no pattern for a subject, which counts
-- as `>`. Each pair is asked, with a token that no pattern has, and up to as many tokens as are enough.
pub record IsSearch {P : Type 0} (of : P → List Token) (patterns less others others_less : List P) (search : Search) : Type 0 where
  pub allowing : map (λ (a : Allowing). a.reason.subject.now) search.allowing.items ≡ map of patterns
  pub reach : (i : ℕ) (a : Allowing) → i < length search.allowing.items → length search.refusing.items ≤ (slice_index_or search.allowing.items i a).reach
  pub refusing : map (λ (r : Reason). r.subject.now) search.refusing.items ≡ map of others_less ++ ((tail ∷ []) ∷ [])
  pub queue : search.most_of_queues ≡ None
  pub most : search.most ≡ most_tokens (map of (patterns ++ less ++ others ++ others_less))
  pub literal : is_literal search.token.now ≡ true
  pub free : list_any (λ p. has_token search.token.now (of p)) (patterns ++ less ++ others ++ others_less) ≡ false
