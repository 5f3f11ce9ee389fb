use Rattle.std.proofs.Common.{◌<◌, length, arith}
use Rattle.std.specs.List.{slice_index}
use Rattle.std.proofs.lemmas.List.{get_or_default}
use Rattle.std.proofs.lemmas.List.Edits.{map_over_more}
use Rattle.policy_sets.specs.Firsts.{exchanged_place}
use Rattle.policy_sets.proofs.joining.exchange.Goals as goal

pub loop-place-preserved : goal.loop-place-preserved
loop-place-preserved c =
    let i = c.loop-place.place-index in
    let x = slice_index c.loop-place.places i in
    let inside : i < length c.args.places.now = omega arith in
    let within : i < length c.loop-place.places = omega arith in
    rw c.exchanged_place.ensures
    (map_over_more (exchanged_place c.args.old c.args.new) c.args.places.now c.loop-place.places i x inside c.loop-place.invariant (get_or_default c.loop-place.places i 0 x within))
