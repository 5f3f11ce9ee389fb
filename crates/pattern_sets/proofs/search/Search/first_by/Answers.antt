use Rattle.std.proofs.Common.{subst, ℕ, Option, List}
use Rattle.std.specs.Prelude.{IfSome}
use Rattle.pattern_sets.specs.Asking.{part_view, AreAlikeParts, IsFoundAt}
use Rattle.pattern_sets.specs.declared.part.Part.{Part}
use Rattle.pattern_sets.proofs.Searching.{part_is_long, with_part, without_part}
use Rattle.pattern_sets.proofs.search.Search.first_by.Goals as goal

pub returns-in-None-clause-alike : goal.returns-in-None-clause-alike
returns-in-None-clause-alike g c = λ none.
    without_part (g.J.Judges.differs c.args.judges.now) c.args.self.now c.args.length.has_tail c.args.length.tokens c.args.one.now c.args.others.now c.in_ok-part.part c.in-None.is c.in_ok-part.ensures

pub returns-in_ok-found-in-Some-clause-found : goal.returns-in_ok-found-in-Some-clause-found
returns-in_ok-found-in-Some-clause-found g c =
    let differs = g.J.Judges.differs c.args.judges.now in
    subst (λ (n : ℕ). IfSome c.in_ok-found-in-Some.found (IsFoundAt differs c.args.self.now.token.now n))
    (part_is_long differs c.args.self.now c.args.length.has_tail c.args.length.tokens c.args.one.now c.args.others.now c.in_ok-part.part c.in-Some.own c.in-Some.is c.in_ok-part.ensures)
    c.in_ok-found-in-Some.ensures.found

pub returns-in_ok-found-in-Some-clause-alike : goal.returns-in_ok-found-in-Some-clause-alike
returns-in_ok-found-in-Some-clause-alike g c = λ none.
    let differs = g.J.Judges.differs c.args.judges.now in
    with_part differs c.args.self.now c.args.length.has_tail c.args.length.tokens c.args.one.now c.args.others.now c.requires c.in_ok-part.part c.in-Some.own c.in-Some.is c.in_ok-part.ensures
    (subst (λ (l : List (Option Part)). AreAlikeParts differs c.args.self.now (part_view c.in-Some.own) l) c.front_of-reached.ensures (c.in_ok-found-in-Some.ensures.alike none))
