use Rattle.std.proofs.Common.{◌≡◌, ◌∙◌, rules, refl, ap, map}
use Rattle.std.specs.BTreeMap.{get}
use Rattle.policy_notes.specs.positions.Repeats.{nothing_seen, repeated, with_seen}
use Rattle.policy_notes.proofs.positions.Seen.{order, Key, repeats_end, repeats_more, seen_more}
use Rattle.policy_notes.proofs.positions.repeats.repeats_of.Goals as goal

pub loop-spot-init : goal.loop-spot-init
loop-spot-init c = (nothing_seen, search rules, rw c.new-repeats.ensures.items refl)

pub loop-spot-preserved : goal.loop-spot-preserved
loop-spot-preserved c =
    let known = c.loop-spot.invariant.0 in
    let knows = c.loop-spot.invariant.1 in
    let s = c.spot-item.result in
    let key : Key = (s.container, c.as_str.result) in
    let was : c.in_ok-first.first ≡ known s.container s.name = c.in_ok-first.ensures.old ∙ knows key ∙ ap (λ n. known s.container n) c.as_str.ensures in (
      with_seen s known,
      seen_more s known (get order c.loop-spot.seen) (get order c.insert.new.self) key refl c.as_str.ensures knows c.in_ok-first.ensures.updates.0,
      repeats_more c.args.spots.now c.loop-spot.spot-index s known (map repeated c.loop-spot.repeats.items) _ c.in_ok-first.first c.loop-spot-test.true c.spot-item.is was c.in_ok-push_repeat.ensures c.loop-spot.invariant.2,
    )

pub returns : goal.returns
returns c = repeats_end c.args.spots.now c.loop-spot.spot-index c.loop-spot.invariant.0 (map repeated c.loop-spot.repeats.items) c.loop-spot-test.false c.loop-spot.invariant.2
