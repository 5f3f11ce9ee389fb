-- In a valid policy a user is found again by its name.
use Rattle.std.proofs.Common.{◌≡◌, ◌∙◌, ◌&&◌, ℕ, Bool, true, false, cond, List, [], ◌∷◌, map, Option, Some, None, ap}
use Rattle.std.specs.Prelude.{find, nat_eq}
use Rattle.std.specs.List.{IsDistinct}
use Rattle.std.specs.Str.{bytes_eq}
use Rattle.std.specs.Cmp.Lexicographic.{pointwise}
use Rattle.std.proofs.lemmas.Map.Keys.{IsDistinct-head, IsDistinct-tail}
use Rattle.std.proofs.lemmas.Slice.Eq.{bytes_eq-Decides}
use Rattle.policy_doc.specs.Document.{IsValidPolicy}
use Rattle.policy_doc.specs.declared.document.PolicyDoc.{PolicyDoc}
use Rattle.policy_ready.specs.Users.{users_of, user_with_password, user_named}
use Rattle.policy_ready.specs.declared.ready.User.{User}
use Rattle.policy_ready.proofs.Names.{are_named_once, name_of, unlike}
use Rattle.hub.proofs.Finds.{find-All}

-- where no name stands twice, whoever a test finds is found by the name
again : (test : User → Bool) (us : List User) (u : User) → IsDistinct bytes_eq (map name_of us) → find test us ≡ Some u → find (λ (v : User). pointwise nat_eq v.user u.user) us ≡ Some u
again test [] u apart e = absurd (cc)
again test (v ∷ us) u apart e = here (test v) e (again test us u (IsDistinct-tail bytes_eq v.user (map name_of us) apart))
  where
    here : (b : Bool) → cond b (Some v) (find test us) ≡ Some u → (find test us ≡ Some u → find (λ (x : User). pointwise nat_eq x.user u.user) us ≡ Some u) →
        cond (pointwise nat_eq v.user u.user) (Some v) (find (λ (x : User). pointwise nat_eq x.user u.user) us) ≡ Some u
    here true e' later =
        let same : v ≡ u = cc in
        ap (λ b. cond b (Some v) (find (λ (x : User). pointwise nat_eq x.user u.user) us)) ((bytes_eq-Decides v.user u.user).1 (ap name_of same)) ∙ ap (λ (x : User). Some x) same
    here false e' later =
        ap (λ b. cond b (Some v) (find (λ (x : User). pointwise nat_eq x.user u.user) us))
        (find-All (λ (x : User). bytes_eq v.user x.user ≡ false) test us u (unlike v.user us (IsDistinct-head bytes_eq v.user (map name_of us) apart)) e')
        ∙ later e'

pub named_again : (test : User → Bool) (doc : PolicyDoc) (u : User) → IsValidPolicy doc → find test (users_of doc) ≡ Some u → user_named doc u.user ≡ Some u
named_again test doc u valid e = again test (users_of doc) u (are_named_once doc valid) e

pub user_named-again : (doc : PolicyDoc) (name : Option (List ℕ)) (password : List ℕ) (u : User) → IsValidPolicy doc → user_with_password doc name password ≡ Some u → user_named doc u.user ≡ Some u
user_named-again doc None password u valid e = absurd (cc)
user_named-again doc (Some name) password u valid e =
    named_again (λ (v : User). pointwise nat_eq v.user name && pointwise nat_eq v.password password) doc u valid e
