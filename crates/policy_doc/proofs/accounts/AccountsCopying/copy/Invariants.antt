-- the copies so far are the accounts so far
use Rattle.std.proofs.Common.{◌≡◌, take}
use Rattle.policy_doc.proofs.accounts.AccountsCopying.copy.Given as goal

abbrev pub invariant-loop-account : goal.invariant-loop-account
invariant-loop-account l = l.copies.items ≡ take l.account-index l.account-items
