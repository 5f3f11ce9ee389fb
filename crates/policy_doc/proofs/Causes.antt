-- A document whose import rows hold has no fault there, and one that has no fault has rows that hold.
use Rattle.std.proofs.Common.{◌≡◌, ◌+◌, ◌&&◌, ℕ, Bool, true, false, List, [], ◌∷◌, Option, Some, None, refl, sym, ◌∙◌, ap, subst, drop, drop-cons, length, ◌<◌, suc, arith}
use Rattle.std.specs.Prelude.{⊤, All, is_some, IsSome, IsSomeAnd, MatchOption}
use Rattle.std.specs.Option.{option_map, option_or}
use Rattle.std.specs.Str.{bytes_eq}
use Rattle.std.specs.List.{slice_index_or}
use Rattle.std.proofs.lemmas.List.Elements.{All-nil, All-cons, All-head, All-tail}
use Rattle.mapping.specs.declared.templates.error.MappingError.{MappingError}
use Rattle.policy_doc.specs.Accounts.{Name}
use Rattle.policy_doc.specs.Imports.{IsValidImport, AreValidImports, cause_by, cause_with, cause_of, exporter_of, export_of, mapping_fault, fault_at, place_at, fault_in_rows, fault_in_imports}
use Rattle.policy_doc.specs.Document.{builtin_account, builtin_doc, HaveUniqueNames, IsPolicyFault, IsValidPolicy, users_of}
use Rattle.policy_doc.specs.declared.document.PolicyDoc.{PolicyDoc}
use Rattle.policy_doc.specs.declared.document.ImportDoc.{ImportDoc}
use Rattle.policy_doc.specs.declared.document.NamedAccount.{NamedAccount}
use Rattle.policy_doc.specs.declared.fault.Place.{Place}
use Rattle.policy_doc.specs.declared.fault.PolicyFault.{PolicyFault}
use Rattle.policy_doc.specs.declared.fault.PolicyFault.TheVariants as policy
use Rattle.policy_doc.specs.declared.import_rows.ImportFault.{ImportFault}
use Rattle.policy_doc.specs.declared.import_rows.ImportFault.TheVariants.{UnknownAccount, SelfImport, PrefixAndTo, BadMapping, NotExported}

-- the four tests of a row that has no cause
tests : (own both unmapped exported : Bool) → cause_by own both unmapped exported ≡ None → (own ≡ false) × (both ≡ false) × (unmapped ≡ false) × (exported ≡ true)
tests true both unmapped exported e = cc
tests false true unmapped exported e = cc
tests false false true exported e = cc
tests false false false false e = cc
tests false false false true e = (refl, refl, refl, refl)

passed : (own both unmapped exported : Bool) → own ≡ false → both ≡ false → unmapped ≡ false → exported ≡ true → cause_by own both unmapped exported ≡ None
passed own both unmapped exported e f g h = rw (e, f, g, h) refl

none_if : (o : Option MappingError) → is_some o ≡ false → o ≡ None
none_if None e = refl
none_if (Some x) e = cc

-- a row without a cause holds
valid_by : (accounts : List NamedAccount) (importer : Name) (i : ImportDoc) (o : Option NamedAccount) → exporter_of accounts i ≡ o → cause_with importer i o ≡ None → IsValidImport accounts importer i
valid_by accounts importer i None found none = cc
valid_by accounts importer i (Some exporter) found none =
    let four = tests (bytes_eq i.account importer) (is_some i.prefix && is_some i.to) (is_some (mapping_fault i)) (is_some (export_of importer i exporter)) none in record {
      exported = rw found four.3;
      other = four.0;
      one = four.1;
      mapped = none_if (mapping_fault i) four.2;
    }

valid_row : (accounts : List NamedAccount) (importer : Name) (i : ImportDoc) → cause_of accounts importer i ≡ None → IsValidImport accounts importer i
valid_row accounts importer i none = valid_by accounts importer i (exporter_of accounts i) refl none

-- a row that holds has no cause
free_by : (importer : Name) (i : ImportDoc) (o : Option NamedAccount) → IsSomeAnd o (λ exporter. IsSome (export_of importer i exporter)) → bytes_eq i.account importer ≡ false → (is_some i.prefix && is_some i.to) ≡ false → mapping_fault i ≡ None → cause_with importer i o ≡ None
free_by importer i None exported other one mapped = absurd exported
free_by importer i (Some exporter) exported other one mapped =
    passed (bytes_eq i.account importer) (is_some i.prefix && is_some i.to) (is_some (mapping_fault i)) (is_some (export_of importer i exporter)) other one (ap is_some mapped) exported

free_row : (accounts : List NamedAccount) (importer : Name) (i : ImportDoc) → IsValidImport accounts importer i → cause_of accounts importer i ≡ None
free_row accounts importer i valid = free_by importer i (exporter_of accounts i) valid.exported valid.other valid.one valid.mapped

-- neither of two has something
neither : {X : Type 0} (o p : Option X) → option_or o p ≡ None → (o ≡ None) × (p ≡ None)
neither None p e = (refl, e)
neither (Some x) p e = cc

unmapped : (place : Place) (o : Option ImportFault) → option_map (fault_at place) o ≡ None → o ≡ None
unmapped place None e = refl
unmapped place (Some x) e = cc

pub valid_rows : (accounts : List NamedAccount) (importer : Name) (account row : ℕ) (is : List ImportDoc) → fault_in_rows accounts importer account row is ≡ None → All (IsValidImport accounts importer) is
valid_rows accounts importer account row [] none = All-nil (IsValidImport accounts importer)
valid_rows accounts importer account row (i ∷ is) none =
    let two = neither (option_map (fault_at (place_at account row)) (cause_of accounts importer i)) (fault_in_rows accounts importer account (row + 1) is) none in
    All-cons (IsValidImport accounts importer) i is
    (valid_row accounts importer i (unmapped (place_at account row) (cause_of accounts importer i) two.0))
    (valid_rows accounts importer account (row + 1) is two.1)

pub valid_imports : (accounts : List NamedAccount) (account : ℕ) (importers : List NamedAccount) → fault_in_imports accounts account importers ≡ None → AreValidImports accounts importers
valid_imports accounts account [] none = All-nil (λ (a : NamedAccount). All (IsValidImport accounts a.name) a.account.imports)
valid_imports accounts account (a ∷ more) none =
    let two = neither (fault_in_rows accounts a.name account 0 a.account.imports) (fault_in_imports accounts (account + 1) more) none in
    All-cons (λ (b : NamedAccount). All (IsValidImport accounts b.name) b.account.imports) a more
    (valid_rows accounts a.name account 0 a.account.imports two.0) (valid_imports accounts (account + 1) more two.1)

free_rows : (accounts : List NamedAccount) (importer : Name) (account row : ℕ) (is : List ImportDoc) → All (IsValidImport accounts importer) is → fault_in_rows accounts importer account row is ≡ None
free_rows accounts importer account row [] valid = refl
free_rows accounts importer account row (i ∷ is) valid =
    rw (free_row accounts importer i (All-head (IsValidImport accounts importer) i is valid))
    (free_rows accounts importer account (row + 1) is (All-tail (IsValidImport accounts importer) i is valid))

pub free_imports : (accounts : List NamedAccount) (account : ℕ) (importers : List NamedAccount) → AreValidImports accounts importers → fault_in_imports accounts account importers ≡ None
free_imports accounts account [] valid = refl
free_imports accounts account (a ∷ more) valid =
    let P : NamedAccount → Type 0 = λ b. All (IsValidImport accounts b.name) b.account.imports in
    rw (free_rows accounts a.name account 0 a.account.imports (All-head P a more valid)) (free_imports accounts (account + 1) more (All-tail P a more valid))

-- a fault of a row is none of a user, and no want of memory
abbrev pub IsOfRow : Option PolicyFault → Type 0
IsOfRow None = ⊤
IsOfRow (Some (policy.DuplicateUser place)) = ⊥
IsOfRow (Some policy.NoMemory) = ⊥
IsOfRow (Some _) = ⊤

of_cause : (place : Place) (o : Option ImportFault) (p : Option PolicyFault) → IsOfRow p → IsOfRow (option_or (option_map (fault_at place) o) p)
of_cause place None p h = h
of_cause place (Some UnknownAccount) p h = tt
of_cause place (Some SelfImport) p h = tt
of_cause place (Some PrefixAndTo) p h = tt
of_cause place (Some BadMapping) p h = tt
of_cause place (Some NotExported) p h = tt

of_rows : (accounts : List NamedAccount) (importer : Name) (account row : ℕ) (is : List ImportDoc) → IsOfRow (fault_in_rows accounts importer account row is)
of_rows accounts importer account row [] = tt
of_rows accounts importer account row (i ∷ is) =
    of_cause (place_at account row) (cause_of accounts importer i) (fault_in_rows accounts importer account (row + 1) is) (of_rows accounts importer account (row + 1) is)

of_either : (o p : Option PolicyFault) → IsOfRow o → IsOfRow p → IsOfRow (option_or o p)
of_either None p one other = other
of_either (Some x) p one other = one

pub of_imports : (accounts : List NamedAccount) (account : ℕ) (importers : List NamedAccount) → IsOfRow (fault_in_imports accounts account importers)
of_imports accounts account [] = tt
of_imports accounts account (a ∷ more) =
    of_either (fault_in_rows accounts a.name account 0 a.account.imports) (fault_in_imports accounts (account + 1) more)
    (of_rows accounts a.name account 0 a.account.imports) (of_imports accounts (account + 1) more)

-- so it is judged where names are unique
pub judged : (doc : PolicyDoc) (fault : PolicyFault) → IsOfRow (Some fault) → HaveUniqueNames (users_of doc.accounts) → IsPolicyFault doc fault
judged doc (policy.DuplicateUser place) row unique = absurd row
judged doc (policy.UnknownAccount place) row unique = unique
judged doc (policy.SelfImport place) row unique = unique
judged doc (policy.PrefixAndTo place) row unique = unique
judged doc (policy.BadMapping place) row unique = unique
judged doc (policy.ImportNotExported place) row unique = unique
judged doc policy.NoMemory row unique = absurd row

-- a document with unique names, by the fault of its import rows
pub decided : (doc : PolicyDoc) (o : Option PolicyFault) → o ≡ fault_in_imports doc.accounts 0 doc.accounts → HaveUniqueNames (users_of doc.accounts) → MatchOption o (IsValidPolicy doc) (λ fault. IsPolicyFault doc fault × ¬ IsValidPolicy doc)
decided doc None e unique = record { names = unique; imports = valid_imports doc.accounts 0 doc.accounts (sym e) }
decided doc (Some fault) e unique = (
  judged doc fault (subst IsOfRow (sym e) (of_imports doc.accounts 0 doc.accounts)) unique,
  λ valid. let none : Some fault ≡ None = e ∙ free_imports doc.accounts 0 doc.accounts valid.imports in cc,
)

-- ---- one row after the other

pub next_row : (accounts : List NamedAccount) (importer : Name) (account row : ℕ) (is : List ImportDoc) (i : ImportDoc) → row < length is → i ≡ slice_index_or is row i → None ≡ cause_of accounts importer i →
    fault_in_rows accounts importer account row (drop row is) ≡ fault_in_rows accounts importer account (row + 1) (drop (row + 1) is)
next_row accounts importer account row is i within read free = rw (drop-cons is row i within, ← read, ← free, more row) refl
  where
    more : (n : ℕ) → n + 1 ≡ suc n
    more n = grind arith

pub caused_row : (accounts : List NamedAccount) (importer : Name) (account row : ℕ) (is : List ImportDoc) (i : ImportDoc) (cause : ImportFault) → row < length is → i ≡ slice_index_or is row i → Some cause ≡ cause_of accounts importer i →
    fault_in_rows accounts importer account row (drop row is) ≡ Some (fault_at (place_at account row) cause)
caused_row accounts importer account row is i cause within read found = rw (drop-cons is row i within, ← read, ← found) refl

pub next_account : (accounts : List NamedAccount) (account : ℕ) (all : List NamedAccount) (a : NamedAccount) → account < length all → a ≡ slice_index_or all account a → None ≡ fault_in_rows accounts a.name account 0 a.account.imports →
    fault_in_imports accounts account (drop account all) ≡ fault_in_imports accounts (account + 1) (drop (account + 1) all)
next_account accounts account all a within read free = rw (drop-cons all account a within, ← read, ← free, more account) refl
  where
    more : (n : ℕ) → n + 1 ≡ suc n
    more n = grind arith

pub caused_account : (accounts : List NamedAccount) (account : ℕ) (all : List NamedAccount) (a : NamedAccount) (fault : PolicyFault) → account < length all → a ≡ slice_index_or all account a → Some fault ≡ fault_in_rows accounts a.name account 0 a.account.imports →
    fault_in_imports accounts account (drop account all) ≡ Some fault
caused_account accounts account all a fault within read found = rw (drop-cons all account a within, ← read, ← found) refl

-- the built-in document has no import row
pub builtin-imports : AreValidImports builtin_doc.accounts builtin_doc.accounts
builtin-imports =
    let P : NamedAccount → Type 0 = λ a. All (IsValidImport builtin_doc.accounts a.name) a.account.imports in
    All-cons P builtin_account [] (All-nil (IsValidImport builtin_doc.accounts builtin_account.name)) (All-nil P)
