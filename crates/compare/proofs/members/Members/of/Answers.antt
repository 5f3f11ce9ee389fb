-- the members are the users of the document, and those without permissions of their own have the default ones
use Rattle.std.proofs.Common.{◌≡◌, ◌∙◌, List, Bool, ap, length, map, subst, sym}
use Rattle.std.specs.Prelude.{All}
use Rattle.std.specs.List.{Contains}
use Rattle.std.specs.List.Sorted.{IsPermutation}
use Rattle.std.proofs.lemmas.List.{length-map}
use Rattle.std.proofs.lemmas.List.Sorted.{All-permutation, IsPermutation-map}
use Rattle.policy_ready.specs.Users.{users_of}
use Rattle.policy_ready.specs.declared.ready.User.{User}
use Rattle.compare.proofs.Finding.{all_usual, as_many, each_member, AreUsual}
use Rattle.compare.specs.Members.{member_owns, owns_of, row_owns, user_of, IsMember}
use Rattle.compare.specs.declared.members.Member.{Member}
use Rattle.compare.proofs.members.Members.of.Goals as goal

pub members_of-requires : goal.members_of-requires
members_of-requires c =
    let doc = c.args.file.now in
    let rows : map row_owns c.as_slice.result.now ≡ owns_of doc = ap (map row_owns) c.as_slice.ensures.value ∙ c.in_ok-rows.ensures ∙ ap owns_of c.doc-doc.ensures.same in
    sym (length-map c.as_slice.result.now row_owns) ∙ ap length rows ∙ as_many doc.default_permissions (users_of doc) (owns_of doc) (all_usual doc.default_permissions doc.accounts) ∙ sym (ap length c.users-users.ensures)

pub returns : goal.returns
returns c =
    let doc = c.args.file.now in
    let all : List Member = c.in_ok-all.all.items in
    let rows : map row_owns c.as_slice.result.now ≡ owns_of doc = ap (map row_owns) c.as_slice.ensures.value ∙ c.in_ok-rows.ensures ∙ ap owns_of c.doc-doc.ensures.same in
    let users : map user_of all ≡ users_of doc = c.in_ok-all.ensures.users ∙ c.users-users.ensures in
    let owns : map member_owns all ≡ owns_of doc = c.in_ok-all.ensures.owns ∙ rows in
    let usual : AreUsual doc.default_permissions (map user_of all) (map member_owns all) =
    subst (λ (us : List User). AreUsual doc.default_permissions us (map member_owns all)) (sym users)
    (subst (λ (bs : List Bool). AreUsual doc.default_permissions (users_of doc) bs) (sym owns) (all_usual doc.default_permissions doc.accounts)) in
    let each : All (IsMember doc) all = each_member doc all (λ u h. subst (λ (us : List User). Contains us u) users h) usual in
    let named : IsPermutation all c.in_ok-by_name.by_name.items = subst (λ (ms : List Member). IsPermutation ms c.in_ok-by_name.by_name.items) c.as_slice-2.ensures.value c.in_ok-by_name.ensures.all in
    let by_account : IsPermutation all c.in_ok-by_account.by_account.items = subst (λ (ms : List Member). IsPermutation ms c.in_ok-by_account.by_account.items) c.as_slice-3.ensures.value c.in_ok-by_account.ensures in
    record {
      valid = c.doc-doc.ensures.valid;
      all = subst (λ (us : List User). IsPermutation us (map user_of c.in_ok-by_account.by_account.items)) users (IsPermutation-map user_of all c.in_ok-by_account.by_account.items by_account);
      each = All-permutation (IsMember doc) all c.in_ok-by_account.by_account.items by_account each;
      all_named = subst (λ (us : List User). IsPermutation us (map user_of c.in_ok-by_name.by_name.items)) users (IsPermutation-map user_of all c.in_ok-by_name.by_name.items named);
      each_named = All-permutation (IsMember doc) all c.in_ok-by_name.by_name.items named each;
      sorted = c.in_ok-by_name.ensures.sorted;
    }
