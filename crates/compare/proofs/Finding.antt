-- The users of a policy, in the order of its document and found by their names.
use Rattle.std.proofs.Common.{◌≡◌, ◌∙◌, ◌+◌, ◌<◌, ◌++◌, ◌||◌, ℕ, zero, suc, Bool, true, false, cond, List, [], ◌∷◌, length, map, take, Option, Some, None, Result, Ok, Err, Equal, Less, Greater, Ordering, ap, refl, sym, arith, ⊎_elim}
use Rattle.std.specs.Prelude.{⊤, All, find, nat_eq, is_some}
use Rattle.std.specs.List.{flat_map, list_any, slice_index_or, Contains, IsDistinct}
use Rattle.std.specs.List.Sorted.{IsBinarySearchResult, IsSearchInRange, IsSortedByKey}
use Rattle.std.specs.Option.{option_or}
use Rattle.std.specs.Ordering.{is_eq, nat_cmp}
use Rattle.std.specs.Str.{bytes_eq}
use Rattle.std.specs.Cmp.Lexicographic.{pointwise, slice_cmp}
use Rattle.std.proofs.lemmas.Bool.{cases_lt}
use Rattle.std.proofs.lemmas.Cmp.{nat_list_cmp_total}
use Rattle.std.proofs.lemmas.List.{map_more, take-map}
use Rattle.std.proofs.lemmas.List.Elements.{All-nil, All-cons, All-contains}
use Rattle.std.proofs.lemmas.List.Folds.{list_any_none}
use Rattle.std.proofs.lemmas.List.Sorted.{list_any-IsPermutation, searchable_from_sorted}
use Rattle.std.proofs.lemmas.Map.Keys.{IsDistinct-head, IsDistinct-tail}
use Rattle.std.proofs.lemmas.Map.Text.{is_eq-slice_cmp}
use Rattle.std.proofs.lemmas.Slice.Eq.{bytes_eq-Decides}
use Rattle.permissions.specs.Lists.{lists_with}
use Rattle.policy_doc.specs.declared.document.NamedAccount.{NamedAccount}
use Rattle.policy_doc.specs.declared.document.PolicyDoc.{PolicyDoc}
use Rattle.policy_doc.specs.declared.document.UserDoc.{UserDoc}
use Rattle.policy_doc.specs.declared.permission_doc.document.PermDoc.{PermDoc}
use Rattle.policy_ready.proofs.Names.{are_named_once, unlike}
use Rattle.policy_ready.specs.Users.{user_in, users_in, users_of}
use Rattle.policy_ready.specs.declared.ready.User.{User}
use Rattle.message_changes.proofs.Members.{any_map, both}
use Rattle.compare.specs.Members.{has_name, member_owns, name_of, owns, owns_in, row_owns, user_of, AreMembers, IsFoundIn, IsMember, IsNamed, IsPlaceIn}
use Rattle.compare.specs.declared.members.Member.{Member}
use Rattle.compare.specs.declared.members.Members.{Members}
use Rattle.compare.specs.declared.members.Row.{Row}

-- ---- who has no permissions of its own

-- users without permissions of their own have the default lists
abbrev pub AreUsual : Option PermDoc → List User → List Bool → Type 0
AreUsual default [] [] = ⊤
AreUsual default [] (b ∷ bs) = ⊥
AreUsual default (u ∷ us) [] = ⊥
AreUsual default (u ∷ us) (b ∷ bs) = (b ≡ false → u.rules ≡ lists_with default) × AreUsual default us bs

usual_by : (own default : Option PermDoc) → is_some own ≡ false → lists_with (option_or own default) ≡ lists_with default
usual_by None default e = refl
usual_by (Some own) default e = absurd (both true refl e)

in_account : (default : Option PermDoc) (a : NamedAccount) (us : List UserDoc) → AreUsual default (map (user_in default a.name a.account.mappings) us) (map owns us)
in_account default a [] = tt
in_account default a (u ∷ us) = (λ e. usual_by u.permissions default e, in_account default a us)

usual-append : (default : Option PermDoc) (us vs : List User) (bs cs : List Bool) → AreUsual default us bs → AreUsual default vs cs → AreUsual default (us ++ vs) (bs ++ cs)
usual-append default [] vs [] cs one other = other
usual-append default [] vs (b ∷ bs) cs one other = absurd one
usual-append default (u ∷ us) vs [] cs one other = absurd one
usual-append default (u ∷ us) vs (b ∷ bs) cs one other = (one.0, usual-append default us vs bs cs one.1 other)

pub all_usual : (default : Option PermDoc) (accounts : List NamedAccount) → AreUsual default (flat_map (users_in default) accounts) (flat_map owns_in accounts)
all_usual default [] = tt
all_usual default (a ∷ more) =
    usual-append default (users_in default a) (flat_map (users_in default) more) (owns_in a) (flat_map owns_in more) (in_account default a a.account.users) (all_usual default more)

-- as many are looked at as there are users
pub as_many : (default : Option PermDoc) (us : List User) (bs : List Bool) → AreUsual default us bs → length bs ≡ length us
as_many default [] [] h = refl
as_many default [] (b ∷ bs) h = absurd h
as_many default (u ∷ us) [] h = absurd h
as_many default (u ∷ us) (b ∷ bs) h = ap suc (as_many default us bs h.1)

pub owns_more : (rows : List Row) (i : ℕ) (d : Row) (bs : List Bool) (b : Bool) → i < length rows → bs ≡ take i (map row_owns rows) → b ≡ row_owns (slice_index_or rows i d) → bs ++ b ∷ [] ≡ take (i + 1) (map row_owns rows)
owns_more rows i d bs b below all one =
    ap (λ (l : List Bool). l ++ b ∷ []) (all ∙ take-map row_owns i rows) ∙ ap (λ (x : Bool). map row_owns (take i rows) ++ x ∷ []) one
    ∙ sym (map_more row_owns rows i d below) ∙ sym (take-map row_owns (i + 1) rows)

first_of : (u : User) (us : List User) → Contains (u ∷ us) u
first_of u us = (zero, omega arith, refl)

one_more : (u v : User) (us : List User) → Contains us v → Contains (u ∷ us) v
one_more u v us h = let below = h.1 in (suc h.0, omega (arith, below), h.2)

pub each_member : (doc : PolicyDoc) (ms : List Member) → ((u : User) → Contains (map user_of ms) u → Contains (users_of doc) u) → AreUsual doc.default_permissions (map user_of ms) (map member_owns ms) → All (IsMember doc) ms
each_member doc [] inside usual = All-nil (IsMember doc)
each_member doc (m ∷ ms) inside usual =
    All-cons (IsMember doc) m ms (record { among = inside (user_of m) (first_of (user_of m) (map user_of ms)); usual = usual.0 })
    (each_member doc ms (λ u h. inside u (one_more (user_of m) u (map user_of ms) h)) usual.1)

-- ---- whoever has a name

abbrev pub by_user : List ℕ → User → Bool
by_user name u = pointwise nat_eq u.user name

-- in a valid policy whoever has a name is the first that has it
first_named : (us : List User) (name : List ℕ) (i : ℕ) (d : User) → IsDistinct bytes_eq (map (λ (u : User). u.user) us) → i < length us → by_user name (slice_index_or us i d) ≡ true →
    find (by_user name) us ≡ Some (slice_index_or us i d)
first_named [] name i d apart within same = absurd (omega (arith, within))
first_named (u ∷ us) name zero d apart within same = ap (λ b. cond b (Some u) (find (by_user name) us)) same
first_named (u ∷ us) name (suc i) d apart within same =
    here (by_user name u) refl (first_named us name i d (IsDistinct-tail bytes_eq u.user (map (λ (u : User). u.user) us) apart) (omega (arith, within)) same)
  where
    here : (b : Bool) → by_user name u ≡ b → find (by_user name) us ≡ Some (slice_index_or us i d) → cond b (Some u) (find (by_user name) us) ≡ Some (slice_index_or us i d)
    here true e later =
        let x = slice_index_or us i d in
        let one : bytes_eq u.user x.user ≡ true = (bytes_eq-Decides u.user x.user).1 ((bytes_eq-Decides u.user name).0 e ∙ sym ((bytes_eq-Decides x.user name).0 same)) in
        let other : bytes_eq u.user x.user ≡ false = unlike u.user us (IsDistinct-head bytes_eq u.user (map (λ (u : User). u.user) us) apart) i d (omega (arith, within)) in
        absurd (both (bytes_eq u.user x.user) one other)
    here false e later = later

pub none_named : (us : List User) (name : List ℕ) → list_any (by_user name) us ≡ false → find (by_user name) us ≡ None
none_named [] name none = refl
none_named (u ∷ us) name none = here (by_user name u) none (none_named us name)
  where
    here : (b : Bool) → (b || list_any (by_user name) us) ≡ false → (list_any (by_user name) us ≡ false → find (by_user name) us ≡ None) → cond b (Some u) (find (by_user name) us) ≡ None
    here true e later = absurd (both true refl e)
    here false e later = later e

pub named : (doc : PolicyDoc) (ms : Members) → AreMembers doc ms → (name : List ℕ) (found : Option Member) → IsFoundIn ms.by_name.items name found → IsNamed doc name found
named doc ms are name None none =
    let same = list_any-IsPermutation (by_user name) (users_of doc) (map user_of ms.by_name.items) are.all_named in
    (none_named (users_of doc) name (same ∙ any_map user_of (by_user name) ms.by_name.items ∙ none), tt)
named doc ms are name (Some m) is =
    let of = All-contains (IsMember doc) ms.by_name.items m are.each_named is.0 in
    let k = of.among.0 in
    let at : slice_index_or (users_of doc) k (user_of m) ≡ user_of m = of.among.2 in
    let has : by_user name (slice_index_or (users_of doc) k (user_of m)) ≡ true = ap (by_user name) at ∙ is.1 in
    (first_named (users_of doc) name k (user_of m) (are_named_once doc are.valid) of.among.1 has ∙ ap (λ (u : User). Some u) at, of)

-- ---- looking for a name by halves

unlike_by : (o : Ordering) (b : Bool) → is_eq o ≡ b → (o ≡ Equal → ⊥) → b ≡ false
unlike_by Less b e unequal = sym e
unlike_by Equal b e unequal = absurd (unequal refl)
unlike_by Greater b e unequal = sym e

pub ends : (name : List ℕ) (ms : List Member) → IsSortedByKey name_of (slice_cmp nat_cmp) ms → (r : Result ℕ ℕ) → IsSearchInRange r (length ms) → IsBinarySearchResult (λ (m : Member). slice_cmp nat_cmp (name_of m) name) ms r →
    IsPlaceIn ms name r
ends name ms sorted (Ok i) within equal = (within, λ d. sym (is_eq-slice_cmp (name_of (slice_index_or ms i d)) name) ∙ ap is_eq (equal d))
ends name ms sorted (Err i) within parted =
    let two = parted (searchable_from_sorted nat_list_cmp_total name_of ms name sorted) in
    list_any_none (has_name name) ms (λ k d below.
    unlike_by (slice_cmp nat_cmp (name_of (slice_index_or ms k d)) name) _ (is_eq-slice_cmp (name_of (slice_index_or ms k d)) name) (λ e.
    ⊎_elim (λ less. apart_less _ e (two.0 k d (omega arith) less)) (λ more. apart_greater _ e (two.1 k d more below)) (cases_lt k i)))
  where
    apart_less : (o : Ordering) → o ≡ Equal → o ≡ Less → ⊥
    apart_less o e f = let bad : Equal ≡ Less = sym e ∙ f in cc

    apart_greater : (o : Ordering) → o ≡ Equal → o ≡ Greater → ⊥
    apart_greater o e f = let bad : Equal ≡ Greater = sym e ∙ f in cc
