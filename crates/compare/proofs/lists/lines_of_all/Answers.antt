use Rattle.std.proofs.Common.{◌≡◌, ◌∙◌, ◌+◌, ◌++◌, ◌∷◌, [], List, ap, map, subst, sym, take}
use Rattle.std.proofs.lemmas.List.{map_more}
use Rattle.std.proofs.lemmas.List.Elements.{All-get_or}
use Rattle.policy_ready.specs.declared.ready.User.{User}
use Rattle.compare.proofs.Lines.{lines_more}
use Rattle.compare.specs.Members.{user_of, IsMember}
use Rattle.compare.specs.Users.{AreLinesOfAll}
use Rattle.compare.specs.declared.change.ListChange.{ListChange}
use Rattle.compare.specs.declared.members.Member.{Member}
use Rattle.compare.proofs.lists.lines_of_all.Goals as goal

pub add_member-requires-clause-new : goal.add_member-requires-clause-new
add_member-requires-clause-new c =
    let is = IsMember c.args.new.now in
    subst is (sym c.member-item.is) (All-get_or is c.args.members.now c.loop-member.member-index c.member-item.result c.loop-member-test.true c.requires.each)

pub loop-member-preserved : goal.loop-member-preserved
loop-member-preserved c =
    let old = c.args.old.0.now in
    let i = c.loop-member.member-index in
    let m = c.member-item.result in
    let us = map user_of (take i c.args.members.now) in
    let added = c.in_ok-add_member.ensures in
    let more : map user_of (take (i + 1) c.args.members.now) ≡ us ++ user_of m ∷ [] =
    map_more user_of c.args.members.now i m c.loop-member-test.true ∙ ap (λ (x : Member). us ++ user_of x ∷ []) (sym c.member-item.is) in
    subst (λ (vs : List User). AreLinesOfAll old vs c.add_member.new.all.items) (sym more)
    (subst (λ (l : List ListChange). AreLinesOfAll old (us ++ user_of m ∷ []) l) (sym added.1) (lines_more old us (user_of m) c.loop-member.all.items added.0 c.loop-member.invariant added.2))
