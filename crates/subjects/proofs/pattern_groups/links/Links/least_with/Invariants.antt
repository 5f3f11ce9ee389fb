-- none before this place has the hash and passes
use Rattle.std.proofs.Common.{◌-◌, length}
use Rattle.subjects.specs.pattern_groups.Links.{IsWalked}
use Rattle.subjects.proofs.pattern_groups.links.Links.least_with.Given as goal

abbrev pub invariant-loop-at : goal.invariant-loop-at
invariant-loop-at g l = IsWalked (g.P.Patterns.passes l.patterns) l.hashes (length l.self.first.items) l.hash l.at

abbrev pub decreases-loop-at : goal.decreases-loop-at
decreases-loop-at g l = l.best - l.at
