-- who isn't in the new policy goes
use Rattle.std.proofs.Common.{◌≡◌, ◌∙◌, ◌++◌, ◌∷◌, [], Option, Some, None, ap, map, sym}
use Rattle.std.proofs.lemmas.List.{map_push}
use Rattle.policy_ready.specs.Users.{user_named}
use Rattle.policy_ready.specs.declared.ready.User.{User}
use Rattle.compare.specs.Members.{user_of}
use Rattle.compare.specs.Users.{told_of, told_old, Told}
use Rattle.compare.proofs.users.add_old.Goals as goal

pub returns-in_ok-push-in-None : goal.returns-in_ok-push-in-None
returns-in_ok-push-in-None c = λ is are.
    let u = user_of c.args.member.now in
    let before = c.args.told.now.items in
    let none : user_named is u.user ≡ None = ap (user_named is) (sym c.as_slice-name.ensures) ∙ (c.in-None.ensures is are).0 in
    ap (map told_of) c.in_ok-push-in-None.ensures.items ∙ map_push told_of before c.told_as.result
    ∙ ap (λ (t : Told). map told_of before ++ t ∷ []) c.told_as.ensures
    ∙ ap (λ (o : Option User). map told_of before ++ told_old u o) (sym none)

pub returns-in_ok-add_again-in-Some : goal.returns-in_ok-add_again-in-Some
returns-in_ok-add_again-in-Some c = λ is are.
    let u = user_of c.args.member.now in
    let before = map told_of c.args.told.now.items in
    let some : user_named is u.user ≡ Some (user_of c.in-Some.again) = ap (user_named is) (sym c.as_slice-name.ensures) ∙ (c.in-Some.ensures is are).0 in
    c.in_ok-add_again-in-Some.ensures ∙ ap (λ (o : Option User). before ++ told_old u o) (sym some)
