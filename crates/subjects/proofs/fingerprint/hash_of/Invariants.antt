-- the bytes that are left lead to the hash of all
use Rattle.std.proofs.Common.{◌≡◌, drop}
use Rattle.subjects.specs.Fingerprint.{hash_of, hash_from}
use Rattle.subjects.proofs.fingerprint.hash_of.Given as goal

abbrev pub invariant-loop-byte : goal.invariant-loop-byte
invariant-loop-byte l = hash_from l.hash (drop l.byte-index l.token) ≡ hash_of l.token
