-- a segment that ends elsewhere, and the tail
use Rattle.std.proofs.Common.{◌≡◌, All, true, subst}
use Rattle.std.proofs.lemmas.Bool.Decides.{not_from_Decides}
use Rattle.std.proofs.lemmas.List.{take_all}
use Rattle.std.proofs.lemmas.List.Elements.{All-more}
use Rattle.hub.specs.Segments.{HistoryPart}
use Rattle.hub.specs.joins.Joins.{place}
use Rattle.hub.specs.joins.Search.{is_before}
use Rattle.hub.proofs.joins.Before.{begins-not, begins-tail}
use Rattle.hub.proofs.joins.joining.begins.Goals as goal

pub returns-then-not-leads_to : goal.returns-then-not-leads_to
returns-then-not-leads_to c = λ q opening at empty judged. (
  λ e. absurd (cc),
  λ begins.
      absurd (begins-not c.args.segments.now c.args.hub.now q c.loop-segment.segment-index c.segment-item.result c.args.opening.now c.nearest_below-nearest.result c.args.at c.args.empty c.loop-segment-test.true c.segment-item.is
      opening at empty c.nearest_below-nearest.ensures (not_from_Decides c.leads_to.result c.leads_to.ensures c.if-not-leads_to.true) begins),
)

pub loop-segment-preserved : goal.loop-segment-preserved
loop-segment-preserved c =
    let P : HistoryPart → Type 0 = λ p. is_before (place p) c.nearest_below-nearest.result c.args.at c.args.empty ≡ true → c.args.opening.now ≡ p.closing in
    All-more P c.args.segments.now c.loop-segment.segment-index c.segment-item.result c.loop-segment-test.true c.loop-segment.invariant (subst P c.segment-item.is (c.leads_to.ensures.0 c.if-not-leads_to.false))

pub returns : goal.returns
returns c = λ q opening at empty judged.
    let P : HistoryPart → Type 0 = λ p. is_before (place p) c.nearest_below-nearest.result c.args.at c.args.empty ≡ true → c.args.opening.now ≡ p.closing in
    begins-tail c.args.segments.now c.args.hub.now q c.args.opening.now c.nearest_below-nearest.result c.args.at c.args.empty c.tail_leads_to.result c.prove_invariant.ensures.legal
    opening at empty judged c.nearest_below-nearest.ensures (subst (All P) (take_all _ _ c.loop-segment-test.false) c.loop-segment.invariant) c.tail_leads_to.ensures
