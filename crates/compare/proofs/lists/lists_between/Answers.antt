use Rattle.std.proofs.Common.{List, ap, map, subst, sym}
use Rattle.std.specs.Prelude.{All}
use Rattle.permissions.specs.Lists.{Lists, lists_with}
use Rattle.policy_doc.specs.declared.document.PolicyDoc.{PolicyDoc}
use Rattle.compare.proofs.Lines.{between_same}
use Rattle.compare.specs.Members.{user_of, IsMember}
use Rattle.compare.specs.Users.{AreBetween, AreLinesOfAll}
use Rattle.compare.specs.declared.members.Member.{Member}
use Rattle.compare.proofs.lists.lists_between.Goals as goal

pub lines_of_all-requires-clause-each : goal.lines_of_all-requires-clause-each
lines_of_all-requires-clause-each c = subst (All (IsMember c.args.new.0.now)) (sym c.as_slice-members.ensures.value) c.requires.new.each

pub lines_of_all-requires-clause-usual : goal.lines_of_all-requires-clause-usual
lines_of_all-requires-clause-usual c =
    let usual : PolicyDoc → Lists = λ doc. lists_with doc.default_permissions in
    subst (AreBetween (usual c.args.old.0.now) (usual c.args.new.0.now)) (sym c.as_slice.ensures.value)
    (between_same _ _ _ _ c.in_ok-usual.usual.items (ap usual (sym c.doc-was.ensures.same)) (ap usual (sym c.doc-is.ensures.same)) c.in_ok-usual.ensures)

pub returns : goal.returns
returns c = subst (λ (ms : List Member). AreLinesOfAll c.args.old.0.now (map user_of ms) c.in_ok-lines.lines.items) c.as_slice-members.ensures.value c.in_ok-lines.ensures
