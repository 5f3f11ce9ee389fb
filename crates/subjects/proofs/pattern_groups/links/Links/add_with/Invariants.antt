-- what has the hash and passes before this place is found; and the place is of the hash's row, if it is one
use Rattle.std.proofs.Common.{◌-◌, ◌<◌, ◌≡◌, length}
use Rattle.subjects.specs.pattern_groups.Links.{at, row_of, Finds}
use Rattle.subjects.proofs.pattern_groups.links.Links.add_with.Given as goal

abbrev pub invariant-loop-at : goal.invariant-loop-at
invariant-loop-at g l =
    (l.at < length l.hashes → row_of (at l.hashes l.at) (length l.self.first.items) ≡ row_of l.hash (length l.self.first.items))
    × Finds (g.P.Patterns.passes l.patterns) l.hashes l.hash l.at l.initial.found.items l.found.items

abbrev pub decreases-loop-at : goal.decreases-loop-at
decreases-loop-at g l = length l.hashes - l.at
