-- the user is among those of the accounts that are left
use Rattle.std.proofs.Common.{◌≡◌, drop}
use Rattle.std.specs.List.{find}
use Rattle.policy_doc.specs.Document.{users_of}
use Rattle.explain.specs.Reason.{has_user_name, user_named}
use Rattle.explain.proofs.asking.user_named.Given as goal

abbrev pub invariant-loop-named : goal.invariant-loop-named
invariant-loop-named l = find (has_user_name l.fn.name) (users_of (drop l.named-index l.named-items)) ≡ user_named l.fn.policy l.fn.name
