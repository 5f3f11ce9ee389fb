-- one more slot, in which a route may live
use Rattle.std.proofs.Common.{◌∙◌, ◌+◌, ◌≤◌, List, ℕ, ap, sym, arith, cond, length, take}
use Rattle.std.proofs.lemmas.List.{take_all}
use Rattle.service_exporter.specs.Routes.{living}
use Rattle.service_exporter.specs.Slots.{standing_in}
use Rattle.service_exporter.specs.declared.slots.Slot.{Slot}
use Rattle.service_exporter.proofs.Places.{lives_until, living_more}
use Rattle.service_exporter.proofs.Tallies.{fewer_later}
use Rattle.service_exporter.proofs.slots.count_living.Goals as goal
use Rattle.service_exporter.proofs.slots.count_living.Goals.{then-is_living, else-is_living}

pub loop-slot-preserved : goal.loop-slot-preserved
loop-slot-preserved c =
    let so_far = length (living c.args.now (standing_in (take c.loop-slot.slot-index c.args.slots.now))) in
    let more = living_more c.args.now c.args.slots.now c.loop-slot.slot-index c.slot-item.result c.loop-slot-test.true c.slot-item.is in
    elim c.if-is_living.branch [
      | then-is_living w ↦
          record {
            count =
                w.count-is
                ∙ ap (λ n. n + 1) c.loop-slot.invariant.count
                ∙ sym (more ∙ ap (λ b. so_far + cond b 1 0) (sym c.is_living.ensures ∙ w.if-is_living.true));
            within = omega (arith, w.count-is, c.loop-slot.invariant.within);
            least =
                let until = w.min-until.ensures in
                let before : w.min-until.result ≤ c.loop-slot.until = omega (arith, until) in
                let lives = lives_until w.end.result w.min-until.result c.args.now c.slot-item.result.route w.end.ensures (omega (arith, until)) (sym c.is_living.ensures ∙ w.if-is_living.true) in
                let later = living_more w.min-until.result c.args.slots.now c.loop-slot.slot-index c.slot-item.result c.loop-slot-test.true c.slot-item.is in
                let one = ap {B = ℕ} (λ b. cond b 1 0) lives in
                let most = fewer_later w.min-until.result c.loop-slot.until (standing_in (take c.loop-slot.slot-index c.args.slots.now)) before in
                let same = ap (λ u. length (living u (standing_in (take (c.loop-slot.slot-index + 1) c.args.slots.now)))) w.until-is in
                omega (arith, w.count-is, same, later, one, most, c.loop-slot.invariant.least);
          }
      | else-is_living w ↦
          let none = more ∙ ap (λ b. so_far + cond b 1 0) (sym c.is_living.ensures ∙ w.if-is_living.false) in
          record {
            count = omega (arith, w.count-is, c.loop-slot.invariant.count, none);
            within = omega (arith, w.count-is, c.loop-slot.invariant.within);
            least =
                let later = living_more c.loop-slot.until c.args.slots.now c.loop-slot.slot-index c.slot-item.result c.loop-slot-test.true c.slot-item.is in
                let same = ap (λ u. length (living u (standing_in (take (c.loop-slot.slot-index + 1) c.args.slots.now)))) w.until-is in
                omega (arith, w.count-is, same, later, c.loop-slot.invariant.least);
          }
    ]

pub returns-clause-tallied : goal.returns-clause-tallied
returns-clause-tallied c =
    let all = take_all c.loop-slot.slot-index c.args.slots.now (let h = c.loop-slot-test.false in omega (arith, h)) in
    record {
      most = λ few. let e = c.loop-slot.invariant.count ∙ ap (λ (l : List Slot). length (living c.args.now (standing_in l))) all in omega (arith, e);
      least = let e = ap (λ (l : List Slot). length (living c.loop-slot.until (standing_in l))) all in omega (arith, e, c.loop-slot.invariant.least);
    }
