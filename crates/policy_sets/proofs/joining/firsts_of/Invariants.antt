-- the rows of the accounts so far have joined their ends
use Rattle.std.proofs.Common.{take}
use Rattle.policy_sets.specs.Sets.{ends_of, joined_by, names_of}
use Rattle.policy_sets.specs.Firsts.{AreFirsts}
use Rattle.policy_sets.proofs.joining.firsts_of.Given as goal

abbrev pub invariant-loop-place : goal.invariant-loop-place
invariant-loop-place l = AreFirsts (names_of l.accounts) (joined_by (λ n. n) (ends_of (take l.place l.accounts))) l.firsts.items
