-- one more user is looked at
use Rattle.std.proofs.Common.{◌≡◌, ◌∙◌, ◌+◌, ◌++◌, ◌∷◌, [], List, ap, map, subst, sym, take}
use Rattle.std.proofs.lemmas.List.{map_more}
use Rattle.policy_ready.specs.Users.{user_named}
use Rattle.policy_ready.specs.declared.ready.User.{User}
use Rattle.compare.proofs.Lines.{all_more}
use Rattle.compare.specs.Members.{user_of}
use Rattle.compare.specs.Users.{all_old, told_of, told_old}
use Rattle.compare.specs.declared.members.Member.{Member}
use Rattle.compare.proofs.users.add_olds.Goals as goal

pub loop-member-preserved : goal.loop-member-preserved
loop-member-preserved c =
    let i = c.loop-member.member-index in
    let m = c.member-item.result in
    let us = map user_of (take i c.args.members.now) in
    let before = map told_of c.args.told.now.items in
    let after = map told_of c.add_old.new.told.items in
    let more : map user_of (take (i + 1) c.args.members.now) ≡ us ++ user_of m ∷ [] =
    map_more user_of c.args.members.now i m c.loop-member-test.true ∙ ap (λ (x : Member). us ++ user_of x ∷ []) (sym c.member-item.is) in
    λ is are. subst (λ (vs : List User). after ≡ before ++ all_old is vs) (sym more)
    (all_more (λ u. told_old u (user_named is u.user)) before _ after us (user_of m) (c.loop-member.invariant is are) (c.in_ok-add_old.ensures is are))
