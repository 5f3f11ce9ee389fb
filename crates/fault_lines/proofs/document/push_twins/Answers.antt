use Rattle.std.proofs.Common.{rules}
use Rattle.fault_lines.proofs.Steps.{accounts_further}
use Rattle.fault_lines.proofs.document.push_twins.Goals as goal

pub loop-account-preserved : goal.loop-account-preserved
loop-account-preserved c =
    accounts_further c.args.accounts.now c.loop-account.account c.index-accounts-account.result
    c.loop-account.faults.items _ _ c.loop-account-test.true c.index-accounts-account.is (search rules) c.loop-account.invariant
