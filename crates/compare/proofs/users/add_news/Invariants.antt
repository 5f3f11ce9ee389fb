-- what is told so far is what becomes of the users so far
use Rattle.std.proofs.Common.{◌≡◌, ◌++◌, map, take}
use Rattle.policy_doc.specs.declared.document.PolicyDoc.{PolicyDoc}
use Rattle.compare.specs.Members.{user_of, AreMembers}
use Rattle.compare.specs.Users.{all_new, told_of}
use Rattle.compare.proofs.users.add_news.Given as goal

abbrev pub invariant-loop-member : goal.invariant-loop-member
invariant-loop-member l =
    (was : PolicyDoc) → AreMembers was l.old → map told_of l.told.items ≡ map told_of l.initial.told.items ++ all_new was (map user_of (take l.member-index l.members))
