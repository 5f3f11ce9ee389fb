-- the bytes that are left lead to the hash of all
use Rattle.std.proofs.Common.{◌≡◌, drop}
use Rattle.subjects.specs.Fingerprint.{hash_from}
use Rattle.subjects.proofs.pattern_groups.hash.with_token.Given as goal

abbrev pub invariant-loop-byte : goal.invariant-loop-byte
invariant-loop-byte l = hash_from l.all (drop l.byte-index l.token) ≡ hash_from l.fn.hash l.token
