-- a number is in a segment, in the tail, or in none
use Rattle.std.proofs.Common.{◌≡◌, false, List, All, subst}
use Rattle.std.specs.Option.{option_copied}
use Rattle.std.proofs.lemmas.List.{take_all}
use Rattle.hub.specs.Segments.{HistoryPart}
use Rattle.hub.specs.joins.Joins.{has_number}
use Rattle.shared_hub.proofs.Entered.{lacks-more, segment_found, tail_found}
use Rattle.shared_hub.proofs.audit.entry_at.Goals as goal

pub loop-segment-preserved : goal.loop-segment-preserved
loop-segment-preserved c =
    lacks-more c.args.number c.args.segments.now c.loop-segment.segment-index c.segment-item.result c.loop-segment-test.true c.segment-item.is c.in_default.ensures c.loop-segment.invariant

pub returns : goal.returns
returns c history joined =
    let ps = c.args.segments.now in
    let P : List HistoryPart → Type 0 = λ l. All (λ (p : HistoryPart). has_number c.args.number p ≡ false) l in
    tail_found ps c.args.hub.now history c.args.number (option_copied c.tail_entry.result) joined
    (subst P (take_all c.loop-segment.segment-index ps c.loop-segment-test.false) c.loop-segment.invariant) c.tail_entry.ensures

pub returns-in-Some : goal.returns-in-Some
returns-in-Some c history joined =
    segment_found c.args.segments.now c.args.hub.now history c.args.number c.loop-segment.segment-index c.segment-item.result c.in-Some.entry.now joined c.loop-segment-test.true c.segment-item.is c.in-Some.ensures
