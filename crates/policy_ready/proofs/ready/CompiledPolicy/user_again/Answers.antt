-- whoever is found by its name is the first that is the same user
use Rattle.std.proofs.Common.{◌≡◌, ◌∙◌, ap, sym, subst, List, Some}
use Rattle.std.specs.Prelude.{find}
use Rattle.std.specs.List.{IsDistinct}
use Rattle.std.specs.Str.{bytes_eq}
use Rattle.std.proofs.Common.{map}
use Rattle.policy_doc.specs.Document.{IsValidPolicy}
use Rattle.policy_ready.specs.Users.{is_same_user, users_of}
use Rattle.policy_ready.specs.declared.ready.User.{User}
use Rattle.policy_ready.proofs.Names.{name_of, are_named_once, first_same}
use Rattle.policy_ready.proofs.ready.CompiledPolicy.user_again.Goals as goal

pub returns-in-Some : goal.returns-in-Some
returns-in-Some c =
    let us : List User = c.as_slice-users.result.now in
    let doc = c.args.self.now in
    let all : us ≡ users_of doc = c.as_slice-users.ensures.value ∙ ap (λ p. p.users.items) c.deref.ensures ∙ c.self.invariant.1 ∙ ap users_of c.self.view_is in
    let apart : IsDistinct bytes_eq (map name_of us) = subst (λ (xs : List User). IsDistinct bytes_eq (map name_of xs)) (sym all) (are_named_once doc (subst IsValidPolicy c.self.view_is c.self.invariant.0)) in
    ap (λ (u : User). Some u) c.index-users-place.is
    ∙ first_same us c.args.user.now c.in-Some.place c.index-users-place.result apart c.in-Some.ensures.within (c.in-Some.ensures.same c.index-users-place.result)
    ∙ ap (λ (xs : List User). find (λ u. is_same_user u c.args.user.now) xs) all
