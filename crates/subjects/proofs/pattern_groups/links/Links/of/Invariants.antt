-- the places from the last on are linked
use Rattle.std.proofs.Common.{◌-◌, ◌≡◌, length}
use Rattle.subjects.specs.pattern_groups.Links.{AreLinksFrom}
use Rattle.subjects.proofs.pattern_groups.links.Links.of.Given as goal

abbrev pub invariant-loop-done : goal.invariant-loop-done
invariant-loop-done l = AreLinksFrom l.hashes l.first.items l.next.items (length l.hashes - l.done) × (length l.first.items ≡ l.rows)
