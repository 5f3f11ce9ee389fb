-- Which export lets an import row in (NATS documentation, "Multi Tenancy using Accounts"; docs/POLICY.md, "Exports and
-- imports").
use Rattle.std.specs.Prelude.{◌≡◌, ◌&&◌, ℕ, Bool, true, false, IsTrue, List, Option, Some, None}
use Rattle.std.specs.List.{list_any}
use Rattle.std.specs.Str.{bytes_eq}
use Rattle.subjects.specs.Subject.{Token, covers, Covers}
use Rattle.policy_doc.specs.declared.exports.document.Kind.{Kind}
use Rattle.policy_doc.specs.declared.exports.document.Kind.TheVariants.{Stream, Service}
use Rattle.policy_doc.specs.declared.exports.document.ExportDoc.{ExportDoc}

abbrev pub same_kind : Kind → Kind → Bool
same_kind Stream Stream = true
same_kind Stream Service = false
same_kind Service Stream = false
same_kind Service Service = true

-- whether a name is among names
abbrev pub is_listed : List ℕ → List (List ℕ) → Bool
is_listed name names = list_any (bytes_eq name) names

-- an export without a list is public; one with a list is for the accounts that it names
abbrev pub is_open_to_listed : List ℕ → Option (List (List ℕ)) → Bool
is_open_to_listed importer None = true
is_open_to_listed importer (Some names) = is_listed importer names

abbrev pub is_open_to : List ℕ → ExportDoc → Bool
is_open_to importer e = is_open_to_listed importer e.accounts

-- an export admits an import of its kind, by an account that may take it, of subjects that it covers
abbrev pub admits : List ℕ → Kind → List Token → ExportDoc → Bool
admits importer kind subject e = same_kind e.kind kind && is_open_to importer e && covers e.subject subject

-- the same by subjects: each that the import is of is one of the export's
pub record Admits (importer : List ℕ) (kind : Kind) (subject : List Token) (e : ExportDoc) : Type 0 where
  pub is_kind : e.kind ≡ kind
  pub is_open : IsTrue (is_open_to importer e)
  pub has_all : Covers e.subject subject
