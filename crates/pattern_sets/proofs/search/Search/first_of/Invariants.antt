-- the samples of each reason to allow so far are judged alike
use Rattle.std.proofs.Common.{ℕ, ◌<◌}
use Rattle.std.specs.List.{slice_index_or}
use Rattle.pattern_sets.specs.Asking.{IsAlikeWithin}
use Rattle.pattern_sets.specs.declared.search.Allowing.{Allowing}
use Rattle.pattern_sets.proofs.search.Search.first_of.Given as goal

abbrev pub invariant-loop-one : goal.invariant-loop-one
invariant-loop-one g l = (i : ℕ) (a : Allowing) → i < l.one-index →
    IsAlikeWithin (g.J.Judges.differs l.judges) l.self l.length.has_tail l.length.tokens (slice_index_or l.self.allowing.items i a)
