-- what is past the bytes that are left is past all
use Rattle.std.proofs.Common.{ℕ, List, drop}
use Rattle.subjects.specs.Subject.{Token}
use Rattle.subjects.specs.pattern_groups.Hashes.{IsPast}
use Rattle.subjects.proofs.pattern_groups.hash.past_token.Given as goal

abbrev pub invariant-loop-at : goal.invariant-loop-at
invariant-loop-at l = (m : ℕ) (behind : List Token) → IsPast l.all (drop l.at l.text) m behind → IsPast l.fn.hash l.text m behind
