-- what has entered, and what is still to enter of the room that is left
use Rattle.std.proofs.Common.{◌≡◌, ◌≤◌, ◌+◌, drop}
use Rattle.world_views.specs.addressing.Standing.{times_entering}
use Rattle.world_views.proofs.addressing.standing.times_entering.Given as goal

abbrev pub invariant-loop-addressed : goal.invariant-loop-addressed
invariant-loop-addressed l =
    (l.times ≤ l.addressed-index)
    × (l.times + times_entering l.conn l.id l.left (drop l.addressed-index l.all) ≡ times_entering l.conn l.id l.room l.all)
