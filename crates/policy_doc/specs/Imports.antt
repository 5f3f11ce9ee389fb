-- When an import row holds (NATS documentation, "Multi Tenancy using Accounts"; docs/POLICY.md, "Exports and imports").
use Rattle.std.specs.Prelude.{◌≡◌, ◌+◌, ◌&&◌, ◌∷◌, ℕ, Bool, true, false, List, [], Option, Some, None, is_some, IsSome, IsSomeAnd, All, find, position}
use Rattle.std.specs.Option.{option_map, option_or}
use Rattle.std.specs.Str.{bytes_eq}
use Rattle.subjects.specs.Subject.{Token, tokens_of}
use Rattle.mapping.specs.Pairs.{RowMap}
use Rattle.mapping.specs.Fault.{unchanged, prefixed, prefix_fault, templated, template_fault}
use Rattle.mapping.specs.declared.templates.error.MappingError.{MappingError}
use Rattle.policy_doc.specs.exports.Exports.{admits}
use Rattle.policy_doc.specs.Accounts.{Name, has_name}
use Rattle.policy_doc.specs.declared.document.ImportDoc.{ImportDoc}
use Rattle.policy_doc.specs.declared.document.NamedAccount.{NamedAccount}
use Rattle.policy_doc.specs.declared.fault.Place.{Place}
use Rattle.policy_doc.specs.declared.fault.PolicyFault.{PolicyFault}
use Rattle.policy_doc.specs.declared.fault.PolicyFault.TheVariants as policy
use Rattle.policy_doc.specs.declared.import_rows.ImportFault.{ImportFault}
use Rattle.policy_doc.specs.declared.import_rows.ImportFault.TheVariants.{UnknownAccount, SelfImport, PrefixAndTo, BadMapping, NotExported}

-- how the importer's subjects are paired with the exporter's: by the template, else by the prefix, else each is its own
abbrev pub mapping_by : List Token → Option (List ℕ) → Option (List Token) → RowMap
mapping_by subject (Some template) prefix = templated subject (tokens_of template)
mapping_by subject None (Some prefix) = prefixed subject prefix
mapping_by subject None None = unchanged subject

abbrev pub mapping_of : ImportDoc → RowMap
mapping_of i = mapping_by i.subject i.to i.prefix

-- why there is no such mapping
abbrev pub mapping_fault_by : List Token → Option (List ℕ) → Option (List Token) → Option MappingError
mapping_fault_by subject (Some template) prefix = template_fault subject template
mapping_fault_by subject None (Some prefix) = prefix_fault subject prefix
mapping_fault_by subject None None = None

abbrev pub mapping_fault : ImportDoc → Option MappingError
mapping_fault i = mapping_fault_by i.subject i.to i.prefix

-- the account that a row imports from
abbrev pub exporter_of : List NamedAccount → ImportDoc → Option NamedAccount
exporter_of accounts i = find (has_name i.account) accounts

-- the row's export: of an account's exports the least that admits the row
abbrev pub export_of : Name → ImportDoc → NamedAccount → Option ℕ
export_of importer i exporter = position (admits importer i.kind i.subject) exporter.account.exports

-- An import row of an account holds: it names another account, which is there and has an export for it; it doesn't have both
-- a prefix and a template; and it has a mapping.
pub record IsValidImport (accounts : List NamedAccount) (importer : Name) (i : ImportDoc) : Type 0 where
  pub exported : IsSomeAnd (exporter_of accounts i) (λ exporter. IsSome (export_of importer i exporter))
  pub other : bytes_eq i.account importer ≡ false
  pub one : (is_some i.prefix && is_some i.to) ≡ false
  pub mapped : mapping_fault i ≡ None

-- the rows of every account hold
abbrev pub AreValidImports : List NamedAccount → List NamedAccount → Type 0
AreValidImports accounts importers = All (λ (a : NamedAccount). All (IsValidImport accounts a.name) a.account.imports) importers

-- the first of the causes why a row doesn't hold: it is of its own account, has a prefix and a template, has no mapping, has
-- no export
abbrev pub cause_by : Bool → Bool → Bool → Bool → Option ImportFault
cause_by true both unmapped exported = Some SelfImport
cause_by false true unmapped exported = Some PrefixAndTo
cause_by false false true exported = Some BadMapping
cause_by false false false false = Some NotExported
cause_by false false false true = None

abbrev pub cause_with : Name → ImportDoc → Option NamedAccount → Option ImportFault
cause_with importer i None = Some UnknownAccount
cause_with importer i (Some exporter) =
    cause_by (bytes_eq i.account importer) (is_some i.prefix && is_some i.to) (is_some (mapping_fault i)) (is_some (export_of importer i exporter))

-- why a row doesn't hold: first of all, there is no account that it names
abbrev pub cause_of : List NamedAccount → Name → ImportDoc → Option ImportFault
cause_of accounts importer i = cause_with importer i (exporter_of accounts i)

-- the fault of a document whose row at a place doesn't hold
abbrev pub fault_at : Place → ImportFault → PolicyFault
fault_at place UnknownAccount = policy.UnknownAccount place
fault_at place SelfImport = policy.SelfImport place
fault_at place PrefixAndTo = policy.PrefixAndTo place
fault_at place BadMapping = policy.BadMapping place
fault_at place NotExported = policy.ImportNotExported place

abbrev pub place_at : ℕ → ℕ → Place
place_at account row = record { account = account; row = row }

-- the fault of the first of an account's rows, from a row on, that doesn't hold
abbrev pub fault_in_rows : List NamedAccount → Name → ℕ → ℕ → List ImportDoc → Option PolicyFault
fault_in_rows accounts importer account row [] = None
fault_in_rows accounts importer account row (i ∷ more) =
    option_or (option_map (fault_at (place_at account row)) (cause_of accounts importer i)) (fault_in_rows accounts importer account (row + 1) more)

-- the fault of the first row, by account and row, that doesn't hold
abbrev pub fault_in_imports : List NamedAccount → ℕ → List NamedAccount → Option PolicyFault
fault_in_imports accounts account [] = None
fault_in_imports accounts account (a ∷ more) =
    option_or (fault_in_rows accounts a.name account 0 a.account.imports) (fault_in_imports accounts (account + 1) more)
