use Rattle.std.proofs.Common.{◌≡◌, ◌∙◌, Option, Some, None, [], ap, append-nil, refl, subst, sym}
use Rattle.policy_ready.specs.Users.{user_named}
use Rattle.policy_ready.specs.declared.ready.User.{User}
use Rattle.compare.specs.Members.{user_of}
use Rattle.compare.specs.Users.{AreLinesIf}
use Rattle.compare.proofs.lists.add_member.Goals as goal

pub lines_for-requires-clause-old : goal.lines_for-requires-clause-old
lines_for-requires-clause-old c = (c.in-Some.ensures c.args.old.0.now c.requires.old).1

pub returns-in-None : goal.returns-in-None
returns-in-None c =
    let doc = c.args.old.0.now in
    let u = c.args.new.1.user.now in
    let none : user_named doc u.user ≡ None = ap (user_named doc) (sym c.as_slice-name.ensures) ∙ (c.in-None.ensures doc c.requires.old).0 in
    ([], sym (append-nil c.args.all.now.items), subst (λ (o : Option User). AreLinesIf o u []) (sym none) refl)

pub returns-in_ok-append-in-Some : goal.returns-in_ok-append-in-Some
returns-in_ok-append-in-Some c =
    let doc = c.args.old.0.now in
    let u = c.args.new.1.user.now in
    let own = c.in_ok-lines-in-Some.lines.items in
    let named : user_named doc u.user ≡ Some (user_of c.in-Some.before) = ap (user_named doc) (sym c.as_slice-name.ensures) ∙ (c.in-Some.ensures doc c.requires.old).0 in
    (own, c.in_ok-append-in-Some.ensures.items, subst (λ (o : Option User). AreLinesIf o u own) (sym named) c.in_ok-lines-in-Some.ensures)
