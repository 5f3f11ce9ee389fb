-- the accounts so far, and what is left to read, make the whole
use Rattle.std.proofs.Common.{◌≡◌, []}
use Rattle.serde_json.specs.View.{members_view}
use Rattle.policy_text.specs.account_config.Policy.{accounts_from}
use Rattle.policy_text.proofs.account_config.account.each_account.Given as goal

abbrev pub invariant-loop-key : goal.invariant-loop-key
invariant-loop-key l = accounts_from l.version l.accounts l.path (members_view l.key-iterator) ≡ accounts_from l.version [] l.path (members_view l.members.entries)
