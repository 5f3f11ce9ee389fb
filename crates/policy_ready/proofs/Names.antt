-- In a valid policy no two users have one name.
use Rattle.std.proofs.Common.{◌≡◌, ◌∙◌, ◌&&◌, ◌<◌, ℕ, zero, suc, Bool, true, false, cond, List, [], ◌∷◌, ◌++◌, length, map, Option, Some, ap, sym, refl, subst, arith}
use Rattle.std.specs.Prelude.{find, All, nat_eq}
use Rattle.std.specs.List.{flat_map, IsDistinct, AllByRecursion, slice_index_or}
use Rattle.std.specs.Str.{bytes_eq}
use Rattle.std.specs.Cmp.Lexicographic.{pointwise}
use Rattle.std.proofs.lemmas.List.{map-append}
use Rattle.std.proofs.lemmas.List.Elements.{All-nil, All-cons}
use Rattle.std.proofs.lemmas.Map.Keys.{IsDistinct-head, IsDistinct-tail}
use Rattle.std.proofs.lemmas.Slice.Eq.{bytes_eq-Decides}
use Rattle.policy_doc.specs.Document.{users_of as users_of_accounts, user_name, IsValidPolicy}
use Rattle.policy_doc.specs.declared.document.PolicyDoc.{PolicyDoc}
use Rattle.policy_doc.specs.declared.document.NamedAccount.{NamedAccount}
use Rattle.policy_doc.specs.declared.document.UserDoc.{UserDoc}
use Rattle.policy_doc.specs.declared.permission_doc.document.PermDoc.{PermDoc}
use Rattle.account_mappings.specs.Drawing.{SourceMap}
use Rattle.policy_ready.specs.Users.{user_in, users_in, users_of, is_same_user}
use Rattle.policy_ready.specs.declared.ready.User.{User}

abbrev pub name_of : User → List ℕ
name_of u = u.user

names-in : (default : Option PermDoc) (account : List ℕ) (mappings : List SourceMap) (us : List UserDoc) → map name_of (map (user_in default account mappings) us) ≡ map user_name us
names-in default account mappings [] = refl
names-in default account mappings (u ∷ us) = ap (λ rest. u.user ∷ rest) (names-in default account mappings us)

-- the names are those of the document
names : (default : Option PermDoc) (accounts : List NamedAccount) → map name_of (flat_map (users_in default) accounts) ≡ map user_name (users_of_accounts accounts)
names default [] = refl
names default (a ∷ more) =
    map-append name_of (users_in default a) (flat_map (users_in default) more)
    ∙ ap (λ front. front ++ map name_of (flat_map (users_in default) more)) (names-in default a.name a.account.mappings a.account.users)
    ∙ ap (λ rest. map user_name a.account.users ++ rest) (names default more)
    ∙ sym (map-append user_name a.account.users (users_of_accounts more))

pub are_named_once : (doc : PolicyDoc) → IsValidPolicy doc → IsDistinct bytes_eq (map name_of (users_of doc))
are_named_once doc valid = subst (IsDistinct bytes_eq) (sym (names doc.default_permissions doc.accounts)) valid.names

pub unlike : (name : List ℕ) (us : List User) → AllByRecursion (λ y. bytes_eq name y ≡ false) (map name_of us) → All (λ (u : User). bytes_eq name u.user ≡ false) us
unlike name [] all = All-nil (λ (u : User). bytes_eq name u.user ≡ false)
unlike name (u ∷ us) all = All-cons (λ (v : User). bytes_eq name v.user ≡ false) u us all.0 (unlike name us all.1)

-- two users of the same name as another have one name
of_one_name : (u x v : User) → is_same_user u v ≡ true → is_same_user x v ≡ true → bytes_eq u.user x.user ≡ true
of_one_name u x v one other =
    (bytes_eq-Decides u.user x.user).1 ((bytes_eq-Decides u.user v.user).0 (first (pointwise nat_eq u.user v.user) _ _ one) ∙ sym ((bytes_eq-Decides x.user v.user).0 (first (pointwise nat_eq x.user v.user) _ _ other)))
  where
    first : (a b c : Bool) → (a && b && c) ≡ true → a ≡ true
    first true b c e = refl
    first false b c e = cc

-- whoever is the same user, wherever it stands, is the first that is
pub first_same : (us : List User) (v : User) (i : ℕ) (d : User) → IsDistinct bytes_eq (map name_of us) → i < length us → is_same_user (slice_index_or us i d) v ≡ true →
    Some (slice_index_or us i d) ≡ find (λ u. is_same_user u v) us
first_same [] v i d apart within same = absurd (omega (arith, within))
first_same (u ∷ us) v zero d apart within same = sym (ap (λ b. cond b (Some u) (find (λ x. is_same_user x v) us)) same)
first_same (u ∷ us) v (suc i) d apart within same =
    here (is_same_user u v) refl (first_same us v i d (IsDistinct-tail bytes_eq u.user (map name_of us) apart) (omega (arith, within)) same)
  where
    here : (b : Bool) → is_same_user u v ≡ b → Some (slice_index_or us i d) ≡ find (λ x. is_same_user x v) us → Some (slice_index_or us i d) ≡ cond b (Some u) (find (λ x. is_same_user x v) us)
    here true e later =
        let one : bytes_eq u.user (slice_index_or us i d).user ≡ true = of_one_name u (slice_index_or us i d) v e same in
        let other : bytes_eq u.user (slice_index_or us i d).user ≡ false = unlike u.user us (IsDistinct-head bytes_eq u.user (map name_of us) apart) i d (omega (arith, within)) in
        absurd (cc)
    here false e later = later
