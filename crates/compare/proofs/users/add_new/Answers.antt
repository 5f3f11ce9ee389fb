-- who wasn't in the old policy comes
use Rattle.std.proofs.Common.{◌≡◌, ◌∙◌, ◌++◌, ◌∷◌, [], Option, None, ap, append-nil, map, sym}
use Rattle.std.proofs.lemmas.List.{map_push}
use Rattle.policy_ready.specs.Users.{user_named}
use Rattle.policy_ready.specs.declared.ready.User.{User}
use Rattle.compare.specs.Members.{user_of}
use Rattle.compare.specs.Users.{told_new, told_of, Told}
use Rattle.compare.proofs.users.add_new.Goals as goal

pub returns-in_ok-push-in-None : goal.returns-in_ok-push-in-None
returns-in_ok-push-in-None c = λ was are.
    let u = user_of c.args.member.now in
    let before = c.args.told.now.items in
    let none : user_named was u.user ≡ None = ap (user_named was) (sym c.as_slice-name.ensures) ∙ (c.in-None.ensures was are).0 in
    ap (map told_of) c.in_ok-push-in-None.ensures.items ∙ map_push told_of before c.told_as.result
    ∙ ap (λ (t : Told). map told_of before ++ t ∷ []) c.told_as.ensures
    ∙ ap (λ (o : Option User). map told_of before ++ told_new u o) (sym none)

pub returns-in-Some : goal.returns-in-Some
returns-in-Some c = λ was are.
    let u = user_of c.args.member.now in
    let before = map told_of c.args.told.now.items in
    sym (append-nil before) ∙ ap (λ (o : Option User). before ++ told_new u o) (sym (ap (user_named was) (sym c.as_slice-name.ensures) ∙ (c.in-Some.ensures was are).0))
