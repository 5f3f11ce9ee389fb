-- the sets of the first accounts so far
use Rattle.std.proofs.Common.{◌≡◌, filter, map, take}
use Rattle.std.specs.Str.{bytes_eq}
use Rattle.policy_sets.specs.Sets.{first_of, names_of, set_of}
use Rattle.policy_sets.proofs.sets.sets_by.Given as goal

abbrev pub invariant-loop-place : goal.invariant-loop-place
invariant-loop-place l = l.sets.items ≡ map (set_of (first_of l.accounts) (names_of l.accounts)) (filter (λ n. bytes_eq (first_of l.accounts n) n) (take l.place (names_of l.accounts)))
