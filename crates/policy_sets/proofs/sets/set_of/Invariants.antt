-- the names of those so far whose first account is at the place
use Rattle.std.proofs.Common.{◌≡◌, take}
use Rattle.policy_sets.specs.Sets.{first_of, names_of, set_of}
use Rattle.policy_sets.specs.Firsts.{name_at}
use Rattle.policy_sets.proofs.sets.set_of.Given as goal

abbrev pub invariant-loop-place : goal.invariant-loop-place
invariant-loop-place l = l.names.items ≡ set_of (first_of l.accounts) (names_of (take l.place l.accounts)) (name_at (names_of l.accounts) l.first)
