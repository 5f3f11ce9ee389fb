use Rattle.std.proofs.Common.{◌∙◌, sym, subst, arith, below_more, Option}
use Rattle.std.specs.List.{slice_index_or}
use Rattle.std.specs.Option.{option_map}
use Rattle.std.proofs.lemmas.List.{get_or_default}
use Rattle.pattern_sets.specs.Asking.{part_view, IsAlikePart}
use Rattle.pattern_sets.specs.declared.part.Part.{Part}
use Rattle.pattern_sets.proofs.Finding.{both}
use Rattle.pattern_sets.proofs.search.Search.first_with.Goals as goal

pub loop-other-preserved : goal.loop-other-preserved
loop-other-preserved g c =
    let differs = g.J.Judges.differs c.args.judges.now in
    let none = sym c.is_some.ensures ∙ c.if-is_some.false in
    λ j d less.
    below_more (λ k. (e : Option Part) → IsAlikePart differs c.args.self.now (part_view c.args.one.now) (option_map part_view (slice_index_or c.args.others.now k e)))
    c.loop-other.other-index (λ k l e. c.loop-other.invariant k e l)
    (λ e. subst (λ (o : Option Part). IsAlikePart differs c.args.self.now (part_view c.args.one.now) (option_map part_view o))
    (c.other-item.is ∙ get_or_default c.args.others.now c.loop-other.other-index c.other-item.result e c.loop-other-test.true) (c.in_ok-found.ensures.alike none))
    j less d

pub returns-then-is_some-clause-alike : goal.returns-then-is_some-clause-alike
returns-then-is_some-clause-alike g c = λ none. absurd (both _ (sym c.is_some.ensures ∙ c.if-is_some.true) none)

pub returns-clause-alike : goal.returns-clause-alike
returns-clause-alike g c = λ none j d less. c.loop-other.invariant j d (omega (arith, less, c.loop-other-test.false))
