use Rattle.std.proofs.Common.{◌≡◌}
use Rattle.serde_json.specs.View.{members_view}
use Rattle.policy_faults.specs.walk.Accounts.{with_named_accounts}
use Rattle.policy_faults.proofs.walk.account.check_named_accounts.Given as goal

abbrev pub invariant-loop-name : goal.invariant-loop-name
invariant-loop-name l =
    with_named_accounts l.version l.path (members_view l.name-iterator) l.found.items
    ≡ with_named_accounts l.version l.path (members_view l.members.entries) l.initial.found.items
