-- User names that are unique, and the first that is not.
use Rattle.std.proofs.Common.{◌≡◌, ◌<◌, ◌+◌, ℕ, suc, Bool, true, false, List, [], ◌∷◌, ◌++◌, ◌||◌, length, map, take, drop, Option, Some, None, subst, drop-cons, sym, ◌∙◌, refl, ap, append_assoc}
use Rattle.std.specs.List.{list_any, slice_index_or, slice_get, AllByRecursion}
use Rattle.std.specs.Option.{option_map_or, IsSomeAnd}
use Rattle.std.specs.Cmp.Lexicographic.{same_text}
use Rattle.std.proofs.lemmas.Option.{slice_get-get_or, slice_get_within}
use Rattle.std.proofs.lemmas.Map.Made.{IsDistinct-from_count}
use Rattle.std.specs.Str.{bytes_eq}
use Rattle.std.proofs.lemmas.Cmp.{nat_list_eq_equiv}
use Rattle.std.proofs.lemmas.List.{map-append, append-nil, take-append-drop}
use Rattle.std.proofs.lemmas.List.Folds.{list_any-append}
use Rattle.std.proofs.lemmas.Grind.{flat_map-append, take_at_read}
use Rattle.std.proofs.lemmas.Map.Keys.{IsDistinct-push, IsDistinct-head, IsDistinct-tail}
use Rattle.policy_doc.specs.Accounts.{Name}
use Rattle.policy_doc.specs.Document.{users_of, users_at, user_name, is_taken, HaveUniqueNames, IsTwinRow, IsFirstTwin}
use Rattle.policy_doc.specs.declared.fault.Place.{Place}
use Rattle.policy_doc.specs.declared.document.NamedAccount.{NamedAccount}
use Rattle.policy_doc.specs.declared.document.UserDoc.{UserDoc}

-- a name among the users of accounts is a name in one of the accounts
pub is_taken-users_of : (name : Name) (accounts : List NamedAccount) → list_any (λ (a : NamedAccount). is_taken name a.account.users) accounts ≡ is_taken name (users_of accounts)
is_taken-users_of name [] = refl
is_taken-users_of name (a ∷ accounts) =
    ap (λ b. is_taken name a.account.users || b) (is_taken-users_of name accounts) ∙ sym (list_any-append (λ (u : UserDoc). bytes_eq name u.user) a.account.users (users_of accounts))

pub is_taken-split : (name : Name) (accounts : List NamedAccount) (users : List UserDoc) → (list_any (λ (a : NamedAccount). is_taken name a.account.users) accounts || is_taken name users) ≡ is_taken name (users_of accounts ++ users)
is_taken-split name accounts users =
    ap (λ b. b || is_taken name users) (is_taken-users_of name accounts) ∙ sym (list_any-append (λ (u : UserDoc). bytes_eq name u.user) (users_of accounts) users)

-- the test on users is one on their names
is_taken-names : (name : Name) (users : List UserDoc) → is_taken name users ≡ list_any (bytes_eq name) (map user_name users)
is_taken-names name [] = refl
is_taken-names name (u ∷ users) = ap (λ b. bytes_eq name u.user || b) (is_taken-names name users)

-- one more user, whose name is not taken
pub HaveUniqueNames-push : (users : List UserDoc) (user : UserDoc) → HaveUniqueNames users → is_taken user.user users ≡ false → HaveUniqueNames (users ++ user ∷ [])
HaveUniqueNames-push users user unique free =
    rw (map-append user_name users (user ∷ [])) (IsDistinct-push nat_list_eq_equiv (map user_name users) user.user unique (sym (is_taken-names user.user users) ∙ free))

-- the users up to and with the one in a row
pub HaveUniqueNames-next : (earlier users : List UserDoc) (row : ℕ) (d : UserDoc) → row < length users → HaveUniqueNames (earlier ++ take row users) → is_taken (slice_index_or users row d).user (earlier ++ take row users) ≡ false → HaveUniqueNames (earlier ++ take (row + 1) users)
HaveUniqueNames-next earlier users row d within unique free =
    rw ((take_at_read users row d within).1, sym (append_assoc earlier (take row users) (slice_index_or users row d ∷ []))) (HaveUniqueNames-push (earlier ++ take row users) (slice_index_or users row d) unique free)

-- the users of the accounts up to and with the one at an index
pub users_of-next : (accounts : List NamedAccount) (i : ℕ) (d : NamedAccount) → i < length accounts → users_of (take (i + 1) accounts) ≡ users_of (take i accounts) ++ (slice_index_or accounts i d).account.users
users_of-next accounts i d within =
    rw ((take_at_read accounts i d within).1, flat_map-append (λ (a : NamedAccount). a.account.users) (take i accounts) (slice_index_or accounts i d ∷ []), append-nil (slice_index_or accounts i d).account.users) refl

pub HaveUniqueNames-nil : HaveUniqueNames []
HaveUniqueNames-nil = IsDistinct-from_count nat_list_eq_equiv [] refl

-- the users of an account that was read
pub users_at-read : (accounts : List NamedAccount) (i : ℕ) (a : NamedAccount) → i < length accounts → a ≡ slice_index_or accounts i a → users_at accounts i ≡ a.account.users
users_at-read accounts i a within read =
    rw (slice_get-get_or accounts i a within, sym read) refl

-- what holds of all holds of one among them
AllByRecursion-among : (P : Name → Type 0) (before rest : List UserDoc) (user : UserDoc) → AllByRecursion P (map user_name (before ++ user ∷ rest)) → P user.user
AllByRecursion-among P [] rest user all = all.0
AllByRecursion-among P (b ∷ before) rest user all = AllByRecursion-among P before rest user all.1

twin-by : (user b : UserDoc) (before rest : List UserDoc) (same : Bool) → bytes_eq user.user b.user ≡ same → (is_taken user.user before ≡ true → HaveUniqueNames (before ++ user ∷ rest) → ⊥) → (same || is_taken user.user before) ≡ true → HaveUniqueNames (b ∷ before ++ user ∷ rest) → ⊥
twin-by user b before rest true same later taken unique =
    let differs : bytes_eq b.user user.user ≡ false = AllByRecursion-among (λ y. bytes_eq b.user y ≡ false) before rest user (IsDistinct-head bytes_eq b.user (map user_name (before ++ user ∷ rest)) unique) in
    let equal : user.user ≡ b.user = same_text user.user b.user (sym same) in
    cc
twin-by user b before rest false same later taken unique =
    later taken (IsDistinct-tail bytes_eq b.user (map user_name (before ++ user ∷ rest)) unique)

-- a user whose name is taken before it breaks uniqueness
pub twin-breaks : (before rest : List UserDoc) (user : UserDoc) → is_taken user.user before ≡ true → HaveUniqueNames (before ++ user ∷ rest) → ⊥
twin-breaks [] rest user taken unique = cc
twin-breaks (b ∷ before) rest user taken unique =
    twin-by user b before rest (bytes_eq user.user b.user) refl (twin-breaks before rest user) taken unique

-- a list about the element at an index
parted : {X : Type 0} (xs : List X) (i : ℕ) (x : X) → slice_get xs i ≡ Some x → xs ≡ take i xs ++ x ∷ drop (suc i) xs
parted xs i x found =
    let within : i < length xs = slice_get_within xs i x found in
    let both : Some (slice_index_or xs i x) ≡ Some x = sym (slice_get-get_or xs i x within) ∙ found in
    let at : slice_index_or xs i x ≡ x = cc in
    sym (take-append-drop i xs) ∙ ap (λ l. take i xs ++ l) (drop-cons xs i x within ∙ ap (λ y. y ∷ drop (suc i) xs) at)

regrouped : (a b c l : List UserDoc) → (a ++ (b ++ c)) ++ l ≡ (a ++ b) ++ (c ++ l)
regrouped a b c l = ap (λ x. x ++ l) (sym (append_assoc a b c)) ∙ append_assoc (a ++ b) c l

twin_row-by : (earlier users later : List UserDoc) (row : ℕ) (o : Option UserDoc) → slice_get users row ≡ o → IsSomeAnd o (λ user. is_taken user.user (earlier ++ take row users) ≡ true) → HaveUniqueNames ((earlier ++ users) ++ later) → ⊥
twin_row-by earlier users later row None found twin unique = twin
twin_row-by earlier users later row (Some user) found twin unique =
    let rest : List UserDoc = drop (suc row) users in
    let place : (earlier ++ users) ++ later ≡ (earlier ++ take row users) ++ (user ∷ rest ++ later) =
    ap (λ us. (earlier ++ us) ++ later) (parted users row user found) ∙ regrouped earlier (take row users) (user ∷ rest) later in
    twin-breaks (earlier ++ take row users) (rest ++ later) user twin (subst HaveUniqueNames place unique)

first_twin-by : (accounts : List NamedAccount) (i row : ℕ) (o : Option NamedAccount) → slice_get accounts i ≡ o → IsTwinRow (users_of (take i accounts)) (option_map_or (λ (a : NamedAccount). a.account.users) o []) row → HaveUniqueNames (users_of accounts) → ⊥
first_twin-by accounts i row None found twin unique = twin.1
first_twin-by accounts i row (Some a) found twin unique =
    let earlier : List UserDoc = users_of (take i accounts) in
    let later : List UserDoc = users_of (drop (suc i) accounts) in
    let place : users_of accounts ≡ (earlier ++ a.account.users) ++ later =
    ap users_of (parted accounts i a found) ∙ flat_map-append (λ (b : NamedAccount). b.account.users) (take i accounts) (a ∷ drop (suc i) accounts) ∙ sym (append_assoc earlier a.account.users later) in
    twin_row-by earlier a.account.users later row (slice_get a.account.users row) refl twin.1 (subst HaveUniqueNames place unique)

-- a document with a twin is not valid
pub first_twin-breaks : (accounts : List NamedAccount) (place : Place) → IsFirstTwin accounts place → HaveUniqueNames (users_of accounts) → ⊥
first_twin-breaks accounts place twin unique =
    first_twin-by accounts place.account place.row (slice_get accounts place.account) refl twin unique
