-- the places so far are exchanged
use Rattle.std.proofs.Common.{◌≡◌, ◌++◌, map, take, drop}
use Rattle.policy_sets.specs.Firsts.{exchanged_place}
use Rattle.policy_sets.proofs.joining.exchange.Given as goal

abbrev pub invariant-loop-place : goal.invariant-loop-place
invariant-loop-place l = l.places ≡ map (exchanged_place l.old l.new) (take l.place-index l.initial.places) ++ drop l.place-index l.initial.places
