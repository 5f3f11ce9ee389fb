-- the tokens that are left lead to the hash of all
use Rattle.std.proofs.Common.{◌≡◌, length}
use Rattle.subjects.specs.Fingerprint.{hash_from}
use Rattle.subjects.specs.pattern_groups.Hashes.{front_from}
use Rattle.subjects.proofs.pattern_groups.hash.hash_under.Given as goal

abbrev pub invariant-loop-token : goal.invariant-loop-token
invariant-loop-token l = front_from l.hash l.tokens ≡ front_from (hash_from 7 l.fn.token) l.fn.pattern

abbrev pub decreases-loop-token : goal.decreases-loop-token
decreases-loop-token l = length l.tokens
