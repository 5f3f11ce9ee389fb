-- The search for the first user whose name is taken finds what is said of it.
use Rattle.std.proofs.Common.{◌≡◌, ◌+◌, ℕ, zero, suc, Bool, true, false, List, [], ◌∷◌, ◌++◌, take, Option, Some, None, subst, sym, ◌∙◌, refl, ap, append_assoc, arith}
use Rattle.std.specs.List.{slice_get}
use Rattle.std.specs.Option.{IsSomeAnd}
use Rattle.std.proofs.lemmas.List.{append-nil}
use Rattle.policy_doc.specs.Document.{users_of, users_at, is_taken, twin_row, twin_place, policy_fault, HaveUniqueNames, IsTwinRow, IsFirstTwin}
use Rattle.policy_doc.specs.Imports.{fault_in_imports}
use Rattle.policy_doc.specs.declared.fault.Place.{Place}
use Rattle.policy_doc.specs.declared.fault.PolicyFault.TheVariants.{DuplicateUser}
use Rattle.policy_doc.specs.declared.document.PolicyDoc.{PolicyDoc}
use Rattle.policy_doc.specs.declared.document.NamedAccount.{NamedAccount}
use Rattle.policy_doc.specs.declared.document.UserDoc.{UserDoc}
use Rattle.policy_doc.proofs.UniqueNames.{twin-breaks}

-- among unique names none is taken before it
free : (earlier rest : List UserDoc) (u : UserDoc) (taken : Bool) → is_taken u.user earlier ≡ taken → HaveUniqueNames (earlier ++ u ∷ rest) → is_taken u.user earlier ≡ false
free earlier rest u true e unique = absurd (twin-breaks earlier rest u e unique)
free earlier rest u false e unique = e

-- one user further on
next : (earlier rest : List UserDoc) (u : UserDoc) → HaveUniqueNames (earlier ++ u ∷ rest) → HaveUniqueNames ((earlier ++ u ∷ []) ++ rest)
next earlier rest u unique = subst HaveUniqueNames (sym (append_assoc earlier (u ∷ []) rest)) unique

-- names that are unique have no twin, whatever comes later
no_twin_row : (earlier : List UserDoc) (row : ℕ) (users later : List UserDoc) → HaveUniqueNames (earlier ++ (users ++ later)) → twin_row earlier row users ≡ None
no_twin_row earlier row [] later unique = refl
no_twin_row earlier row (u ∷ us) later unique =
    rw (free earlier (us ++ later) u (is_taken u.user earlier) refl unique) (no_twin_row (earlier ++ u ∷ []) (row + 1) us later (next earlier (us ++ later) u unique))

-- the row that is said to be the first is the one that is found
found_row : (earlier : List UserDoc) (start : ℕ) (users : List UserDoc) (row : ℕ) → IsTwinRow earlier users row → twin_row earlier start users ≡ Some (start + row)
found_row earlier start [] row twin = absurd twin.1
found_row earlier start (u ∷ us) zero twin =
    let taken : is_taken u.user earlier ≡ true = ap (λ l. is_taken u.user l) (sym (append-nil earlier)) ∙ twin.1 in
    rw taken (ap Some (grind arith))
found_row earlier start (u ∷ us) (suc row) twin =
    let unique : HaveUniqueNames ((earlier ++ u ∷ []) ++ take row us) = next earlier (take row us) u twin.0 in
    let P : List UserDoc → Type 0 = λ l. IsSomeAnd (slice_get us row) (λ (v : UserDoc). is_taken v.user l ≡ true) in
    let named : P ((earlier ++ u ∷ []) ++ take row us) = subst P (sym (append_assoc earlier (u ∷ []) (take row us))) twin.1 in
    rw (free earlier (take row us) u (is_taken u.user earlier) refl twin.0)
    (found_row (earlier ++ u ∷ []) (start + 1) us row (unique, named) ∙ ap Some (grind arith))

-- the users of one account further on
further : (earlier users later : List UserDoc) → HaveUniqueNames (earlier ++ (users ++ later)) → HaveUniqueNames ((earlier ++ users) ++ later)
further earlier users later unique =
    let grouped : earlier ++ (users ++ later) ≡ (earlier ++ users) ++ later = sym (append_assoc earlier users later) in
    subst HaveUniqueNames grouped unique

no_twin_place : (earlier : List UserDoc) (start : ℕ) (accounts : List NamedAccount) → HaveUniqueNames (earlier ++ users_of accounts) → twin_place earlier start accounts ≡ None
no_twin_place earlier start [] unique = refl
no_twin_place earlier start (a ∷ more) unique =
    rw (no_twin_row earlier 0 a.account.users (users_of more) unique)
    (no_twin_place (earlier ++ a.account.users) (start + 1) more (further earlier a.account.users (users_of more) unique))

-- a twin in the row of an account, behind earlier users and those of the accounts before it
abbrev pub IsTwinAt : List UserDoc → List NamedAccount → ℕ → ℕ → Type 0
IsTwinAt earlier accounts account row = IsTwinRow (earlier ++ users_of (take account accounts)) (users_at accounts account) row

abbrev at : ℕ → ℕ → Option Place
at account row = Some record { account = account; row = row }

found_place : (earlier : List UserDoc) (start : ℕ) (accounts : List NamedAccount) (account row : ℕ) → IsTwinAt earlier accounts account row →
    twin_place earlier start accounts ≡ at (start + account) row
found_place earlier start [] zero row twin = absurd twin.1
found_place earlier start [] (suc account) row twin = absurd twin.1
found_place earlier start (a ∷ more) zero row twin =
    let here : IsTwinRow earlier a.account.users row = subst (λ (l : List UserDoc). IsTwinRow l a.account.users row) (append-nil earlier) twin in
    let first : 0 + row ≡ row = grind arith in
    let same : start ≡ start + 0 = grind arith in
    rw (found_row earlier 0 a.account.users row here) (ap (at start) first ∙ ap (λ i. at i row) same)
found_place earlier start (a ∷ more) (suc account) row twin =
    let before : List UserDoc = users_of (take account more) in
    let users : List UserDoc = users_at more account in
    let grouped : (earlier ++ (a.account.users ++ before)) ++ take row users ≡ earlier ++ (a.account.users ++ (before ++ take row users)) =
    append_assoc earlier (a.account.users ++ before) (take row users) ∙ ap (λ l. earlier ++ l) (append_assoc a.account.users before (take row users)) in
    let later : IsTwinAt (earlier ++ a.account.users) more account row =
    subst (λ (l : List UserDoc). IsTwinRow l users row) (sym (append_assoc earlier a.account.users before)) twin in
    rw (no_twin_row earlier 0 a.account.users (before ++ take row users) (subst HaveUniqueNames grouped twin.0))
    (found_place (earlier ++ a.account.users) (start + 1) more account row later ∙ ap (λ i. at i row) (grind arith))

-- a document with unique names has the fault of its import rows
pub no_fault : (doc : PolicyDoc) → HaveUniqueNames (users_of doc.accounts) → policy_fault doc ≡ fault_in_imports doc.accounts 0 doc.accounts
no_fault doc unique = rw (no_twin_place [] 0 doc.accounts unique) refl

-- the twin that is said to be the first is the fault
pub fault_is : (doc : PolicyDoc) (place : Place) → IsFirstTwin doc.accounts place → policy_fault doc ≡ Some (DuplicateUser place)
fault_is doc place twin =
    let first : 0 + place.account ≡ place.account = grind arith in
    let found : twin_place [] 0 doc.accounts ≡ Some place =
    found_place [] 0 doc.accounts place.account place.row twin ∙ ap (λ i. at i place.row) first in
    rw found refl
