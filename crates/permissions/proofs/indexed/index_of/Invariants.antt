-- the patterns of the entries so far
use Rattle.std.proofs.Common.{◌≡◌, take, map}
use Rattle.permissions.specs.Indexes.{pattern_of}
use Rattle.permissions.proofs.indexed.index_of.Given as goal

abbrev pub invariant-loop-entry : goal.invariant-loop-entry
invariant-loop-entry l = map (λ p. p.now) l.patterns.items ≡ map pattern_of (take l.entry-index l.entries)
