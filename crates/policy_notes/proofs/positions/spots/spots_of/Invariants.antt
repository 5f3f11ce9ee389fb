-- where the rest of the tokens leads from here, all lead from the begin
use Rattle.std.proofs.Common.{drop}
use Rattle.json.specs.Lex.{tokens}
use Rattle.policy_notes.specs.positions.Spots.{nothing_passed, passed, Passed, PassesAll}
use Rattle.policy_notes.proofs.positions.spots.spots_of.Given as goal

abbrev pub invariant-loop-at : goal.invariant-loop-at
invariant-loop-at l =
    (end : Passed)
    → PassesAll (drop l.at-index l.at-items) l.reader (passed l.walk.outer.items l.walk.inner l.walk.key l.walk.spots.items) end
    → PassesAll l.at-items (tokens l.text) nothing_passed end
