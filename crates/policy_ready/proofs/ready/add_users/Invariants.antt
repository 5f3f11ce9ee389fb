-- the users so far are added
use Rattle.std.proofs.Common.{◌≡◌, ◌++◌, take, map}
use Rattle.std.specs.Option.{option_copied}
use Rattle.policy_ready.specs.Users.{user_in}
use Rattle.policy_ready.proofs.ready.add_users.Given as goal

abbrev pub invariant-loop-user : goal.invariant-loop-user
invariant-loop-user l = l.users.items ≡ l.initial.users.items ++ map (user_in (option_copied l.default) l.account.name l.account.account.mappings) (take l.user-index l.user-items)
