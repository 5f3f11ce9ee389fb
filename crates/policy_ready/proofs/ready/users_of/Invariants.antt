-- the users of the accounts so far
use Rattle.std.proofs.Common.{◌≡◌, take}
use Rattle.std.specs.List.{flat_map}
use Rattle.policy_ready.specs.Users.{users_in}
use Rattle.policy_ready.proofs.ready.users_of.Given as goal

abbrev pub invariant-loop-account : goal.invariant-loop-account
invariant-loop-account l = l.users.items ≡ flat_map (users_in l.doc.default_permissions) (take l.account-index l.account-items)
