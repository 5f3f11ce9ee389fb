-- Rows, views and users of a closed set of accounts.
use Rattle.std.proofs.Common.{◌≡◌, ◌∙◌, ◌&&◌, ◌+◌, ℕ, zero, suc, Bool, true, false, not, cond, List, [], ◌∷◌, ◌++◌, filter, map, length, Option, Some, None, ap, sym, refl, subst, nat_lt}
use Rattle.std.specs.Prelude.{All, IfSome, find, nat_eq, position, slice_get}
use Rattle.std.specs.List.{filter_map, flat_map, cons_option}
use Rattle.std.specs.Option.{option_map, option_and_then, option_map_or, option_or}
use Rattle.std.specs.Str.{bytes_eq}
use Rattle.std.specs.Cmp.Lexicographic.{bytes_decides, pointwise}
use Rattle.std.proofs.lemmas.Bool.{and_parts}
use Rattle.std.proofs.lemmas.List.Elements.{All-nil, All-cons, All-head, All-tail, All-append, All-filter, All-weaker}
use Rattle.std.proofs.lemmas.Map.Text.{is_eq-slice_cmp}
use Rattle.std.proofs.lemmas.Slice.Eq.{bytes_eq-Decides}
use Rattle.subjects.specs.Subject.{Token}
use Rattle.policy_doc.specs.declared.exports.document.Kind.{Kind}
use Rattle.policy_doc.specs.declared.exports.document.Kind.TheVariants as kind
use Rattle.policy_doc.specs.declared.exports.document.Row.{Row}
use Rattle.policy_doc.specs.Accounts.{Name, has_name}
use Rattle.policy_doc.specs.declared.document.ImportDoc.{ImportDoc}
use Rattle.policy_doc.specs.declared.document.NamedAccount.{NamedAccount}
use Rattle.policy_doc.specs.declared.document.PolicyDoc.{PolicyDoc}
use Rattle.policy_doc.specs.declared.document.Version.TheVariants.{Two}
use Rattle.policy_sets.specs.Sets.{Ends, IsClosed, ends_at, ends_in, ends_of}
use Rattle.policy_doc.specs.declared.document.UserDoc.{UserDoc}
use Rattle.policy_ready.specs.Drawing.{SourceMap}
use Rattle.policy_doc.specs.declared.permission_doc.document.PermDoc.{PermDoc}
use Rattle.permissions.specs.Lists.{lists_with}
use Rattle.policy_ready.specs.Users.{is_same_user, user_in, users_in, users_of}
use Rattle.policy_ready.specs.declared.ready.User.{User}
use Rattle.policy_ready.specs.imports.Across.{across, crossed, crossing, crossings_in, first_by, last_by, source_of, target_of, way_by, way_of}
use Rattle.policy_ready.specs.imports.Views.{first_of_each, is_route, is_same, row_at, rows_from, rows_in, rows_of}
use Rattle.policy_ready.specs.declared.imports.rows.ImportRow.{ImportRow}
use Rattle.policy_ready.specs.declared.imports.view.ViewItem.{ViewItem}
use Rattle.policy_ready.specs.declared.imports.view.ViewItem.TheVariants.{At, TooLong}
use Rattle.policy_ready.specs.declared.imports.view.Way.TheVariants.{Own}
use Rattle.service_routes.specs.service_rows.Rows.{renewed_for, renewed_in, import_at, is_same_service, new_row, no_terms, terms_at, terms_by, terms_for}
use Rattle.tenant_laws.specs.parts.Laws.{AgainInPart, IsWhatApplies, LoginsInPart, TermsInPart, UsersArePart, UsersInPart, ViewsInPart, ViewsStay, IsViewWithin, IsWayWithin}
use Rattle.tenant_laws.specs.parts.Part.{account_held, part_of, user_held}
use Rattle.world.proofs.Handed.{find-map, find-filter}
use Rattle.tenant_laws.proofs.parts.Lists.{all_or_none, find_if_kept, flat_changed, flat_kept, given_kept, map_changed}

-- ---- the part

-- the policy of the accounts of a part
abbrev of_accounts : List NamedAccount → PolicyDoc
of_accounts accounts = record { accounts = accounts; version = Two; default_permissions = None }

pub what_applies : IsWhatApplies
what_applies K one other same = ap of_accounts same

-- ---- users

-- with the permissions that hold for it, a user is the same without default ones
user_same : (default : Option PermDoc) (account : Name) (mappings : List SourceMap) (u : UserDoc) → user_in None account mappings (user_held default u) ≡ user_in default account mappings u
user_same default account mappings u = ap (λ permissions. record { account = account; user = u.user; password = u.password; rules = lists_with permissions; mappings = mappings }) (by (option_or u.permissions default))
  where
    by : (o : Option PermDoc) → option_or o None ≡ o
    by None = refl
    by (Some p) = refl

users_same : (default : Option PermDoc) (a : NamedAccount) → users_in None (account_held default a) ≡ users_in default a
users_same default a = map_changed (user_in None a.name a.account.mappings) (user_in default a.name a.account.mappings) (user_held default) a.account.users (user_same default a.name a.account.mappings)

-- the users of the part are those of the whole whose accounts are in the set
pub users_kept : UsersArePart
users_kept K doc =
    flat_changed (users_in None) (users_in doc.default_permissions) (account_held doc.default_permissions) (filter (λ (a : NamedAccount). K a.name) doc.accounts) (users_same doc.default_permissions)
    ∙ flat_kept (users_in doc.default_permissions) (λ (a : NamedAccount). K a.name) (λ (u : User). K u.account) doc.accounts
    (λ (a : NamedAccount). all_or_none (user_in doc.default_permissions a.name a.account.mappings) (λ (u : User). K u.account) (K a.name) a.account.users (λ u. refl))

pub users_in_part : UsersInPart
users_in_part K doc v is =
    ap (find (λ u. is_same_user u v)) (users_kept K doc)
    ∙ find-filter (λ u. is_same_user u v) (λ (u : User). K u.account) (users_of doc)
    (λ u same. ap K ((bytes_decides u.account v.account).0 (and_parts (pointwise nat_eq u.user v.user && pointwise nat_eq u.password v.password) (pointwise nat_eq u.account v.account) same).1) ∙ is)

pub logins_in_part : LoginsInPart
logins_in_part K doc None password is = refl
logins_in_part K doc (Some name) password is =
    let p : User → Bool = λ u. pointwise nat_eq u.user name && pointwise nat_eq u.password password in
    ap (find p) (users_kept K doc) ∙ find_if_kept p (λ (u : User). K u.account) (users_of doc) is

-- ---- import rows

rows_of_importer : (K : Name → Bool) (importer : Name) (index : ℕ) (is : List ImportDoc) → filter (λ (r : ImportRow). K r.row.importer) (rows_from importer index is) ≡ cond (K importer) (rows_from importer index is) []
rows_of_importer K importer index [] = by (K importer)
  where
    by : (b : Bool) → ◌≡◌ {A = List ImportRow} [] (cond b [] [])
    by true = refl
    by false = refl
rows_of_importer K importer index (i ∷ is) = by (K importer) refl (rows_of_importer K importer (index + 1) is)
  where
    by : (b : Bool) → K importer ≡ b → filter (λ (r : ImportRow). K r.row.importer) (rows_from importer (index + 1) is) ≡ cond (K importer) (rows_from importer (index + 1) is) [] →
        filter (λ (r : ImportRow). K r.row.importer) (rows_from importer index (i ∷ is)) ≡ cond b (rows_from importer index (i ∷ is)) []
    by true e later = rw e (ap (λ l. row_at importer index i ∷ l) (rw e at later))
    by false e later = rw e (rw e at later)

rows_kept : (K : Name → Bool) (doc : PolicyDoc) → rows_of (part_of K doc) ≡ filter (λ (r : ImportRow). K r.row.importer) (rows_of doc)
rows_kept K doc =
    flat_changed rows_in rows_in (account_held doc.default_permissions) (filter (λ (a : NamedAccount). K a.name) doc.accounts) (λ a. refl)
    ∙ flat_kept rows_in (λ (a : NamedAccount). K a.name) (λ (r : ImportRow). K r.row.importer) doc.accounts
    (λ (a : NamedAccount). rows_of_importer K a.name 0 a.account.imports)

-- both ends of each row are in a closed set, or neither
abbrev pub HasEndsIn : (Name → Bool) → ImportRow → Type 0
HasEndsIn K r = K r.row.importer ≡ K r.exporter

abbrev AreEndsIn : (Name → Bool) → Ends → Type 0
AreEndsIn K ends = K ends.importer ≡ K ends.exporter

All-first : {X : Type 0} (P : X → Type 0) (xs ys : List X) → All P (xs ++ ys) → All P xs
All-first P [] ys all = All-nil P
All-first P (x ∷ xs) ys all = All-cons P x xs (All-head P x (xs ++ ys) all) (All-first P xs ys (All-tail P x (xs ++ ys) all))

All-second : {X : Type 0} (P : X → Type 0) (xs ys : List X) → All P (xs ++ ys) → All P ys
All-second P [] ys all = all
All-second P (x ∷ xs) ys all = All-second P xs ys (All-tail P x (xs ++ ys) all)

rows_within : (K : Name → Bool) (importer : Name) (index : ℕ) (is : List ImportDoc) → All (AreEndsIn K) (map (ends_at importer) is) → All (HasEndsIn K) (rows_from importer index is)
rows_within K importer index [] all = All-nil (HasEndsIn K)
rows_within K importer index (i ∷ is) all =
    All-cons (HasEndsIn K) (row_at importer index i) (rows_from importer (index + 1) is)
    (All-head (AreEndsIn K) (ends_at importer i) (map (ends_at importer) is) all)
    (rows_within K importer (index + 1) is (All-tail (AreEndsIn K) (ends_at importer i) (map (ends_at importer) is) all))

accounts_within : (K : Name → Bool) (accounts : List NamedAccount) → All (AreEndsIn K) (ends_of accounts) → All (HasEndsIn K) (flat_map rows_in accounts)
accounts_within K [] all = All-nil (HasEndsIn K)
accounts_within K (a ∷ accounts) all =
    All-append (HasEndsIn K) (rows_in a) (flat_map rows_in accounts)
    (rows_within K a.name 0 a.account.imports (All-first (AreEndsIn K) (ends_in a) (ends_of accounts) all))
    (accounts_within K accounts (All-second (AreEndsIn K) (ends_in a) (ends_of accounts) all))

pub closed_rows : (K : Name → Bool) (doc : PolicyDoc) → IsClosed doc K → All (HasEndsIn K) (rows_of doc)
closed_rows K doc closed = accounts_within K doc.accounts closed

-- ---- views

-- messages cross a row from an account of the set exactly where it is the set's
source_within : (K : Name → Bool) (k : Kind) (exporter importer : Name) → K importer ≡ K exporter → K (first_by k exporter importer) ≡ K importer
source_within K kind.Stream exporter importer ends = sym ends
source_within K kind.Service exporter importer ends = refl

target_within : (K : Name → Bool) (k : Kind) (exporter importer : Name) → K importer ≡ K exporter → K (last_by k exporter importer) ≡ K importer
target_within K kind.Stream exporter importer ends = refl
target_within K kind.Service exporter importer ends = sym ends

same_from : (a b : Name) → bytes_eq a b ≡ true → a ≡ b
same_from a b e = (bytes_eq-Decides a b).0 e

no_crossing : (K : Name → Bool) (account : Name) (s : List Token) (r : ImportRow) → K account ≡ true → HasEndsIn K r → K r.row.importer ≡ false → crossing account s r ≡ None
no_crossing K account s r is ends out = by (bytes_eq (source_of r) account) refl
  where
    by : (b : Bool) → bytes_eq (source_of r) account ≡ b → cond b (option_map (crossed r) (across r s)) None ≡ None
    by false e = refl
    by true e =
        let no : false ≡ true = sym out ∙ sym (source_within K r.kind r.exporter r.row.importer ends) ∙ ap K (same_from (source_of r) account e) ∙ is in absurd (cc)

crossings_kept : (K : Name → Bool) (doc : PolicyDoc) → IsClosed doc K → (account : Name) (s : List Token) → K account ≡ true → crossings_in (rows_of (part_of K doc)) account s ≡ crossings_in (rows_of doc) account s
crossings_kept K doc closed account s is =
    ap (λ rows. crossings_in rows account s) (rows_kept K doc)
    ∙ ap (λ l. cond (is_route s) [] l)
    (given_kept (crossing account s) (λ (r : ImportRow). K r.row.importer) (rows_of doc)
    (All-weaker (HasEndsIn K) (λ r. K r.row.importer ≡ false → crossing account s r ≡ None) (λ r ends out. no_crossing K account s r is ends out) (rows_of doc) (closed_rows K doc closed)))

pub views_in_part : ViewsInPart
views_in_part K doc closed account s responses is = ap (λ crossings. first_of_each (At account s Own ∷ (crossings ++ responses))) (crossings_kept K doc closed account s is)

-- ---- where views are

firsts_in : (P : ViewItem → Type 0) (vs : List ViewItem) → All P vs → All P (first_of_each vs)
firsts_in P [] all = All-nil P
firsts_in P (v ∷ vs) all =
    All-cons P v (filter (λ u. not (is_same v u)) (first_of_each vs)) (All-head P v vs all)
    (All-filter (λ u. not (is_same v u)) P (first_of_each vs) (firsts_in P vs (All-tail P v vs all)))

way_within : (K : Name → Bool) (b : Bool) (k : Kind) (row : Row) → K row.importer ≡ b → IsWayWithin K b (way_by k row)
way_within K b kind.Stream row is = is
way_within K b kind.Service row is = is

crossing_in : (K : Name → Bool) (account : Name) (s : List Token) (r : ImportRow) → HasEndsIn K r → IfSome (crossing account s r) (IsViewWithin K (K account))
crossing_in K account s r ends = by (bytes_eq (source_of r) account) refl
  where
    importer_in : bytes_eq (source_of r) account ≡ true → K r.row.importer ≡ K account
    importer_in e = sym (source_within K r.kind r.exporter r.row.importer ends) ∙ ap K (same_from (source_of r) account e)

    seen : K r.row.importer ≡ K account → (t : List Token) (b : Bool) → IsViewWithin K (K account) (cond b (TooLong r.row) (At (target_of r) t (way_of r)))
    seen is t true = is
    seen is t false = (target_within K r.kind r.exporter r.row.importer ends ∙ is, way_within K (K account) r.kind r.row is)

    found : K r.row.importer ≡ K account → (o : Option (List Token)) → IfSome (option_map (crossed r) o) (IsViewWithin K (K account))
    found is None = tt
    found is (Some t) = seen is t (nat_lt 512 (length t))

    by : (b : Bool) → bytes_eq (source_of r) account ≡ b → IfSome (cond b (option_map (crossed r) (across r s)) None) (IsViewWithin K (K account))
    by true e = found (importer_in e) (across r s)
    by false e = tt

given_all : {X Y : Type 0} (P : Y → Type 0) (h : X → Option Y) (xs : List X) → All (λ x. IfSome (h x) P) xs → All P (filter_map h xs)
given_all P h [] all = All-nil P
given_all {X} {Y} P h (x ∷ xs) all = here (h x) (All-head (λ y. IfSome (h y) P) x xs all) (given_all P h xs (All-tail (λ y. IfSome (h y) P) x xs all))
  where
    here : (o : Option Y) → IfSome o P → All P (filter_map h xs) → All P (cons_option o (filter_map h xs))
    here None is later = later
    here (Some y) is later = All-cons P y (filter_map h xs) is later

crossings_within : (K : Name → Bool) (doc : PolicyDoc) → IsClosed doc K → (account : Name) (s : List Token) → All (IsViewWithin K (K account)) (crossings_in (rows_of doc) account s)
crossings_within K doc closed account s = by (is_route s)
  where
    by : (b : Bool) → All (IsViewWithin K (K account)) (cond b [] (filter_map (crossing account s) (rows_of doc)))
    by true = All-nil (IsViewWithin K (K account))
    by false =
        given_all (IsViewWithin K (K account)) (crossing account s) (rows_of doc)
        (All-weaker (HasEndsIn K) (λ r. IfSome (crossing account s r) (IsViewWithin K (K account))) (λ r ends. crossing_in K account s r ends) (rows_of doc) (closed_rows K doc closed))

pub views_stay : ViewsStay
views_stay K doc closed account s responses within =
    let P : ViewItem → Type 0 = IsViewWithin K (K account) in
    firsts_in P (At account s Own ∷ (crossings_in (rows_of doc) account s ++ responses))
    (All-cons P (At account s Own) (crossings_in (rows_of doc) account s ++ responses) (refl, tt)
    (All-append P (crossings_in (rows_of doc) account s) responses (crossings_within K doc closed account s) within))

-- ---- the terms of rows, and rows of another policy

named : (name : Name) (a : NamedAccount) → has_name name a ≡ true → a.name ≡ name
named name a has = same_from a.name name (sym (is_eq-slice_cmp a.name name) ∙ has)

-- an account of the set is in the part, with the permissions that hold for its users
pub account_kept : (K : Name → Bool) (name : Name) (doc : PolicyDoc) → K name ≡ true → find (has_name name) (part_of K doc).accounts ≡ option_map (account_held doc.default_permissions) (find (has_name name) doc.accounts)
account_kept K name doc is =
    find-map (has_name name) (account_held doc.default_permissions) (filter (λ (a : NamedAccount). K a.name) doc.accounts) (λ a. refl)
    ∙ ap (option_map (account_held doc.default_permissions)) (find-filter (has_name name) (λ (a : NamedAccount). K a.name) doc.accounts (λ a has. ap K (named name a has) ∙ is))

pub import_kept : (K : Name → Bool) (doc : PolicyDoc) (importer : Name) (index : ℕ) → K importer ≡ true → import_at (part_of K doc) importer index ≡ import_at doc importer index
import_kept K doc importer index is = ap (option_and_then (λ (a : NamedAccount). slice_get a.account.imports index)) (account_kept K importer doc is) ∙ by (find (has_name importer) doc.accounts)
  where
    by : (o : Option NamedAccount) → option_and_then (λ (a : NamedAccount). slice_get a.account.imports index) (option_map (account_held doc.default_permissions) o) ≡ option_and_then (λ (a : NamedAccount). slice_get a.account.imports index) o
    by None = refl
    by (Some a) = refl

-- the exporter of an import is in a closed set exactly where its importer is
abbrev IsFrom : (Name → Bool) → Name → ImportDoc → Type 0
IsFrom K importer i = K importer ≡ K i.account

import_within : (K : Name → Bool) (importer : Name) (index : ℕ) (is : List ImportDoc) → All (AreEndsIn K) (map (ends_at importer) is) → IfSome (slice_get is index) (IsFrom K importer)
import_within K importer index [] all = tt
import_within K importer zero (i ∷ is) all = All-head (AreEndsIn K) (ends_at importer i) (map (ends_at importer) is) all
import_within K importer (suc index) (i ∷ is) all = import_within K importer index is (All-tail (AreEndsIn K) (ends_at importer i) (map (ends_at importer) is) all)

pub import_ends : (K : Name → Bool) (doc : PolicyDoc) → IsClosed doc K → (importer : Name) (index : ℕ) → IfSome (import_at doc importer index) (IsFrom K importer)
import_ends K doc closed importer index = in_accounts doc.accounts closed
  where
    in_accounts : (accounts : List NamedAccount) → All (AreEndsIn K) (ends_of accounts) →
        IfSome (option_and_then (λ (a : NamedAccount). slice_get a.account.imports index) (find (has_name importer) accounts)) (IsFrom K importer)
    in_accounts [] all = tt
    in_accounts (a ∷ accounts) all = by (has_name importer a) refl (in_accounts accounts (All-second (AreEndsIn K) (ends_in a) (ends_of accounts) all))
      where
        by : (b : Bool) → has_name importer a ≡ b → IfSome (option_and_then (λ (c : NamedAccount). slice_get c.account.imports index) (find (has_name importer) accounts)) (IsFrom K importer) →
            IfSome (option_and_then (λ (c : NamedAccount). slice_get c.account.imports index) (cond b (Some a) (find (has_name importer) accounts))) (IsFrom K importer)
        by true has later =
            subst (λ n. IfSome (slice_get a.account.imports index) (IsFrom K n)) (named importer a has)
            (import_within K a.name index a.account.imports (All-first (AreEndsIn K) (ends_in a) (ends_of accounts) all))
        by false has later = later

terms_kept : (K : Name → Bool) (doc : PolicyDoc) → IsClosed doc K → (importer : Name) (index : ℕ) → K importer ≡ true → terms_at (part_of K doc) importer index ≡ terms_at doc importer index
terms_kept K doc closed importer index is =
    ap (λ o. option_map_or (terms_for (part_of K doc) importer) o no_terms) (import_kept K doc importer index is)
    ∙ by (import_at doc importer index) (import_ends K doc closed importer index)
  where
    by : (o : Option ImportDoc) → IfSome o (IsFrom K importer) → option_map_or (terms_for (part_of K doc) importer) o no_terms ≡ option_map_or (terms_for doc importer) o no_terms
    by None from = refl
    by (Some i) from = ap (λ o. option_map_or (terms_by importer i) o no_terms) (account_kept K i.account doc (sym from ∙ is)) ∙ on_account (find (has_name i.account) doc.accounts)
      where
        on_account : (a : Option NamedAccount) → option_map_or (terms_by importer i) (option_map (account_held doc.default_permissions) a) no_terms ≡ option_map_or (terms_by importer i) a no_terms
        on_account None = refl
        on_account (Some a) = refl

pub terms_in_part : TermsInPart
terms_in_part K doc closed row is = terms_kept K doc closed row.importer row.index is

pub again_in_part : AgainInPart
again_in_part K old new closed row is =
    ap (option_and_then (renewed_for (part_of K new) row.importer)) (import_kept K old row.importer row.index is)
    ∙ by (import_at old row.importer row.index)
  where
    each : (i : ImportDoc) (o : Option ℕ) → option_map (new_row (part_of K new) row.importer) o ≡ option_map (new_row new row.importer) o
    each i None = refl
    each i (Some index) = ap (λ terms. Some record { index = index; terms = terms }) (terms_kept K new closed row.importer index is)

    found : (i : ImportDoc) (o : Option NamedAccount) → option_and_then (renewed_in (part_of K new) row.importer i) (option_map (account_held new.default_permissions) o) ≡ option_and_then (renewed_in new row.importer i) o
    found i None = refl
    found i (Some a) = each i (position (is_same_service i) a.account.imports)

    by : (o : Option ImportDoc) → option_and_then (renewed_for (part_of K new) row.importer) o ≡ option_and_then (renewed_for new row.importer) o
    by None = refl
    by (Some i) = ap (option_and_then (renewed_in (part_of K new) row.importer i)) (account_kept K row.importer new is) ∙ found i (find (has_name row.importer) new.accounts)
