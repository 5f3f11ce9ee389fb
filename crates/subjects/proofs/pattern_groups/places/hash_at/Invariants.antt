-- the tokens that are left lead to the hash of all
use Rattle.std.proofs.Common.{◌≡◌, length, option_copied}
use Rattle.base.specs.Pieces.{pieces_left}
use Rattle.subjects.specs.Subject.{tokens_of}
use Rattle.subjects.specs.pattern_groups.Places.{hash_at, hash_with}
use Rattle.subjects.proofs.pattern_groups.places.hash_at.Given as goal

abbrev pub invariant-loop-rest : goal.invariant-loop-rest
invariant-loop-rest l = hash_with l.left l.hash (pieces_left 46 (option_copied l.rest)) ≡ hash_at l.fn.places (tokens_of l.fn.text)

abbrev pub decreases-loop-rest : goal.decreases-loop-rest
decreases-loop-rest l = length (pieces_left 46 (option_copied l.rest))
