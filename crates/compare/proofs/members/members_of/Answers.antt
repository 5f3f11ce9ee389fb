-- one more user with its place
use Rattle.std.proofs.Common.{◌∙◌, ◌<◌, ◌++◌, ◌∷◌, [], ℕ, List, ap, length, map, subst, sym, take}
use Rattle.std.proofs.lemmas.List.{map_push, take_more}
use Rattle.policy_ready.specs.declared.ready.User.{User}
use Rattle.compare.proofs.Finding.{owns_more}
use Rattle.compare.specs.Members.{member_owns, user_of}
use Rattle.compare.proofs.members.members_of.Goals as goal

pub loop-at-preserved : goal.loop-at-preserved
loop-at-preserved c =
    let i = c.loop-at.at in
    let ms = c.loop-at.members.items in
    let m = c.member_of-member.result in
    let users = c.args.users.now in
    let rows = c.args.rows.now in
    let below : i < length rows = subst (λ (n : ℕ). i < n) (sym c.requires) c.loop-at-test.true in (
      ap (map user_of) c.in_ok-push.ensures.items ∙ map_push user_of ms m ∙ ap (λ (l : List User). l ++ user_of m ∷ []) c.loop-at.invariant.0
          ∙ ap (λ (u : User). take i users ++ u ∷ []) (c.member_of-member.ensures.same ∙ c.index-users-at.is) ∙ sym (take_more users i c.index-users-at.result c.loop-at-test.true),
      ap (map member_owns) c.in_ok-push.ensures.items ∙ map_push member_owns ms m ∙ owns_more rows i _ (map member_owns ms) (member_owns m) below c.loop-at.invariant.1 c.member_of-member.ensures.owns,
    )
