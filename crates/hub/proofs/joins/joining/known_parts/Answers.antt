-- each segment in turn, and then the tail
use Rattle.std.proofs.Common.{◌≡◌, ◌∙◌, ◌<◌, ◌∷◌, ℕ, [], All, ap, sym, subst, arith}
use Rattle.std.proofs.lemmas.List.{take_all}
use Rattle.std.proofs.lemmas.List.Elements.{All-more, All-push}
use Rattle.world.specs.World.{World}
use Rattle.hub.specs.Segments.{HistoryPart, IsHistoryPart, tail_of}
use Rattle.hub.proofs.joins.joining.known_parts.Goals as goal

abbrev IsNumbered : HistoryPart → Type 0
IsNumbered p = p.closing.number < 18446744073709551616

pub loop-segment-preserved : goal.loop-segment-preserved
loop-segment-preserved c =
    let part : IsHistoryPart c.segment-item.result = record { reached = c.prove_invariant.ensures.reached; legal = c.prove_invariant.ensures.legal } in
    let number = c.number.ensures ∙ ap (λ (w : World). w.number) c.closing.ensures in
    let numbered : IsNumbered c.segment-item.result = subst (λ n. n < 18446744073709551616) number c.number.type_inv in
    record {
      parts = All-more IsHistoryPart c.args.segments.now c.loop-segment.segment-index c.segment-item.result c.loop-segment-test.true c.loop-segment.invariant.parts (subst IsHistoryPart c.segment-item.is part);
      numbers = All-more IsNumbered c.args.segments.now c.loop-segment.segment-index c.segment-item.result c.loop-segment-test.true c.loop-segment.invariant.numbers (subst IsNumbered c.segment-item.is numbered);
    }

pub returns-clause-parts : goal.returns-clause-parts
returns-clause-parts c =
    All-push IsHistoryPart c.args.segments.now (tail_of c.args.hub.now) (subst (All IsHistoryPart) (take_all _ _ c.loop-segment-test.false) c.loop-segment.invariant.parts)
    (record { reached = c.prove_invariant-2.ensures.reached; legal = c.prove_invariant-2.ensures.legal })

pub returns-clause-numbers : goal.returns-clause-numbers
returns-clause-numbers c =
    All-push IsNumbered c.args.segments.now (tail_of c.args.hub.now) (subst (All IsNumbered) (take_all _ _ c.loop-segment-test.false) c.loop-segment.invariant.numbers)
    (subst (λ n. n < 18446744073709551616) c.number-2.ensures c.number-2.type_inv)
