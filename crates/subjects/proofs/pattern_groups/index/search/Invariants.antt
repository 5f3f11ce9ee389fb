-- the best so far, by the hashes of the choices that were looked at
use Rattle.subjects.specs.Subject.{tokens_of}
use Rattle.subjects.specs.pattern_groups.Links.{IsBest}
use Rattle.subjects.specs.pattern_groups.Places.{IsOneOf}
use Rattle.subjects.proofs.pattern_groups.index.search.Given as goal

abbrev pub invariant-loop-at : goal.invariant-loop-at
invariant-loop-at g l = IsBest (g.P.Patterns.passes l.patterns) l.hashes (IsOneOf l.choices l.at (tokens_of l.text)) l.best
