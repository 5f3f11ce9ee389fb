use Rattle.policy_doc.proofs.Names.{IsByName-nil}
use Rattle.policy_doc.proofs.accounts.Accounts.new.Goals as goal

pub invariant_of-result : goal.invariant_of-result
invariant_of-result c = rw c.new.ensures.items IsByName-nil
