-- Every fault of a document as a policy (docs/POLICY.md, "Every fault").
use Rattle.std.specs.Prelude.{◌∷◌, ◌++◌, ◌+◌, ℕ, List, [], if◌then◌else◌, Option, Some, None}
use Rattle.std.specs.Option.{option_map}
use Rattle.policy_doc.specs.Accounts.{Name}
use Rattle.policy_doc.specs.Document.{is_taken}
use Rattle.policy_doc.specs.Imports.{cause_of, fault_at, place_at}
use Rattle.policy_doc.specs.declared.document.ImportDoc.{ImportDoc}
use Rattle.policy_doc.specs.declared.document.NamedAccount.{NamedAccount}
use Rattle.policy_doc.specs.declared.document.PolicyDoc.{PolicyDoc}
use Rattle.policy_doc.specs.declared.document.UserDoc.{UserDoc}
use Rattle.policy_doc.specs.declared.fault.Place.{Place}
use Rattle.policy_doc.specs.declared.fault.PolicyFault.{PolicyFault}
use Rattle.policy_doc.specs.declared.fault.PolicyFault.TheVariants.{DuplicateUser}

-- a user whose name is among earlier ones
abbrev pub with_twin : List UserDoc → Name → Place → List PolicyFault → List PolicyFault
with_twin earlier name place front = if is_taken name earlier then front ++ DuplicateUser place ∷ [] else front

-- each of users whose name is among earlier ones
unfoldable pub with_twins : List UserDoc → ℕ → ℕ → List UserDoc → List PolicyFault → List PolicyFault
with_twins earlier account row [] front = front
with_twins earlier account row (u ∷ us) front =
    with_twins (earlier ++ u ∷ []) account (row + 1) us (with_twin earlier u.user (place_at account row) front)

unfoldable pub with_twin_faults : List UserDoc → ℕ → List NamedAccount → List PolicyFault → List PolicyFault
with_twin_faults earlier account [] front = front
with_twin_faults earlier account (a ∷ more) front =
    with_twin_faults (earlier ++ a.account.users) (account + 1) more (with_twins earlier account 0 a.account.users front)

-- a fault, if there is one
abbrev pub with_fault : Option PolicyFault → List PolicyFault → List PolicyFault
with_fault None front = front
with_fault (Some fault) front = front ++ fault ∷ []

-- the fault of each import that has a cause not to hold
unfoldable pub with_causes : List NamedAccount → Name → ℕ → ℕ → List ImportDoc → List PolicyFault → List PolicyFault
with_causes accounts importer account row [] front = front
with_causes accounts importer account row (i ∷ is) front =
    with_causes accounts importer account (row + 1) is (with_fault (option_map (fault_at (place_at account row)) (cause_of accounts importer i)) front)

unfoldable pub with_import_faults : List NamedAccount → ℕ → List NamedAccount → List PolicyFault → List PolicyFault
with_import_faults accounts account [] front = front
with_import_faults accounts account (a ∷ more) front =
    with_import_faults accounts (account + 1) more (with_causes accounts a.name account 0 a.account.imports front)

-- users first, then imports, each by account and row
abbrev pub faults_of_document : PolicyDoc → List PolicyFault
faults_of_document doc = with_import_faults doc.accounts 0 doc.accounts (with_twin_faults [] 0 doc.accounts [])
