use Rattle.std.proofs.Common.{◌≡◌, ◌∙◌, sym, false, ◌++◌, take, subst}
use Rattle.policy_doc.specs.Document.{users_of, is_taken}
use Rattle.policy_doc.proofs.UniqueNames.{HaveUniqueNames-next}
use Rattle.policy_doc.specs.declared.document.UserDoc.{UserDoc}
use Rattle.policy_doc.proofs.unique.twin_row.Goals as goal

pub loop-row-preserved : goal.loop-row-preserved
loop-row-preserved c =
    let P : UserDoc → Type 0 = λ u. is_taken u.user (users_of c.args.earlier.now ++ take c.loop-row.row c.args.users.now) ≡ false in
    let free : P c.index-users-row.result = sym c.stands_before.ensures ∙ c.if-stands_before.false in
    HaveUniqueNames-next (users_of c.args.earlier.now) c.args.users.now c.loop-row.row c.index-users-row.result c.loop-row-test.true c.loop-row.invariant
    (subst P c.index-users-row.is free)
