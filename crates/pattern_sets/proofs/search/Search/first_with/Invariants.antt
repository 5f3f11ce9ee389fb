-- the samples with each part so far are judged alike
use Rattle.std.proofs.Common.{ℕ, ◌<◌, Option}
use Rattle.std.specs.List.{slice_index_or}
use Rattle.std.specs.Option.{option_map}
use Rattle.pattern_sets.specs.Asking.{part_view, IsAlikePart}
use Rattle.pattern_sets.specs.declared.part.Part.{Part}
use Rattle.pattern_sets.proofs.search.Search.first_with.Given as goal

abbrev pub invariant-loop-other : goal.invariant-loop-other
invariant-loop-other g l = (j : ℕ) (d : Option Part) → j < l.other-index →
    IsAlikePart (g.J.Judges.differs l.judges) l.self (part_view l.one) (option_map part_view (slice_index_or l.others j d))
