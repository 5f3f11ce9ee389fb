use Rattle.std.proofs.Common.{sym, subst, Option}
use Rattle.std.specs.Option.{option_map}
use Rattle.pattern_sets.specs.Asking.{part_view, IsAlikePart}
use Rattle.pattern_sets.specs.declared.part.Part.{Part}
use Rattle.pattern_sets.proofs.search.Search.first_of_two.Goals as goal

pub returns-in-None-clause-alike : goal.returns-in-None-clause-alike
returns-in-None-clause-alike g c = λ none.
    subst (λ (o : Option Part). IsAlikePart (g.J.Judges.differs c.args.judges.now) c.args.self.now (part_view c.args.one.now) (option_map part_view o)) (sym c.in-None.is) tt

pub returns-in_ok-found-in-Some-clause-alike : goal.returns-in_ok-found-in-Some-clause-alike
returns-in_ok-found-in-Some-clause-alike g c = λ none.
    subst (λ (o : Option Part). IsAlikePart (g.J.Judges.differs c.args.judges.now) c.args.self.now (part_view c.args.one.now) (option_map part_view o)) (sym c.in-Some.is)
    (c.in_ok-found-in-Some.ensures.alike none)
