use Rattle.std.proofs.Common.{sym}
use Rattle.policy_doc.proofs.UniqueNames.{HaveUniqueNames-nil, users_at-read}
use Rattle.policy_doc.proofs.unique.searched_twin.Goals as goal

pub loop-account-init : goal.loop-account-init
loop-account-init c = HaveUniqueNames-nil

pub returns-in-Some : goal.returns-in-Some
returns-in-Some c =
    rw (users_at-read c.args.accounts.now c.loop-account.account c.index-accounts-account.result c.loop-account-test.true c.index-accounts-account.is, sym c.as_slice.ensures) c.in-Some.ensures
