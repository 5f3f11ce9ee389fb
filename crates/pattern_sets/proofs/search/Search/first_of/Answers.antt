use Rattle.std.proofs.Common.{◌∙◌, ap, sym, arith, below_more, length, map, subst}
use Rattle.std.specs.List.{slice_index_or}
use Rattle.std.specs.Option.{option_map}
use Rattle.pattern_sets.specs.Asking.{part_view, reason_part, IsAlikeWithin}
use Rattle.pattern_sets.specs.declared.search.Allowing.{Allowing}
use Rattle.pattern_sets.proofs.Finding.{both}
use Rattle.pattern_sets.proofs.Searching.{at_any}
use Rattle.pattern_sets.proofs.search.Search.first_of.Goals as goal

pub first_by-requires : goal.first_by-requires
first_by-requires g c =
    ap (map (option_map part_view)) c.as_slice-others.ensures.value ∙ c.in_ok-parts.ensures ∙ ap (map (reason_part c.args.length.has_tail c.args.length.tokens)) c.as_slice-refusing.ensures.value

pub loop-one-preserved : goal.loop-one-preserved
loop-one-preserved g c =
    let differs = g.J.Judges.differs c.args.judges.now in
    let none = sym c.is_some.ensures ∙ c.if-is_some.false in
    λ i a less.
    below_more (λ k. (b : Allowing) → IsAlikeWithin differs c.args.self.now c.args.length.has_tail c.args.length.tokens (slice_index_or c.args.self.now.allowing.items k b))
    c.loop-one.one-index (λ k l b. c.loop-one.invariant k b l)
    (λ b. at_any (IsAlikeWithin differs c.args.self.now c.args.length.has_tail c.args.length.tokens) c.as_slice-allowing.result.now c.args.self.now.allowing.items c.loop-one.one-index c.one-item.result b
    c.as_slice-allowing.ensures.value c.loop-one-test.true (subst (IsAlikeWithin differs c.args.self.now c.args.length.has_tail c.args.length.tokens) c.one-item.is (c.in_ok-found.ensures.alike none)))
    i less a

pub returns-then-is_some-clause-alike : goal.returns-then-is_some-clause-alike
returns-then-is_some-clause-alike g c = λ none. absurd (both _ (sym c.is_some.ensures ∙ c.if-is_some.true) none)

pub returns-clause-alike : goal.returns-clause-alike
returns-clause-alike g c = λ none i a less.
    let long = ap length c.as_slice-allowing.ensures.value in
    c.loop-one.invariant i a (omega (arith, less, long, c.loop-one-test.false))
