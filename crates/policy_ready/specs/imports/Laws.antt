-- Laws of import rows, and of the views across them.
use Rattle.std.specs.Prelude.{◌≡◌, ◌≤◌, ◌⊎◌, ◌↔◌, ℕ, false, IsTrue, List, Some, length, All, Any, Contains, IsSomeAnd, find}
use Rattle.subjects.specs.Subject.{Token, IsConcreteSubject}
use Rattle.mapping.specs.Pairs.{RowMap, IsPair}
use Rattle.policy_doc.specs.exports.Exports.{admits}
use Rattle.policy_doc.specs.declared.exports.document.ExportDoc.{ExportDoc}
use Rattle.policy_doc.specs.declared.exports.document.Kind.{Kind}
use Rattle.policy_doc.specs.declared.exports.document.Kind.TheVariants as kind
use Rattle.policy_doc.specs.Accounts.{has_name}
use Rattle.policy_doc.specs.Document.{IsValidPolicy}
use Rattle.policy_doc.specs.declared.document.NamedAccount.{NamedAccount}
use Rattle.policy_doc.specs.declared.document.PolicyDoc.{PolicyDoc}
use Rattle.policy_ready.specs.imports.Across.{across, crossings_in, source_of, target_of, views_in, way_of}
use Rattle.policy_ready.specs.imports.Views.{is_at, is_route, rows_of}
use Rattle.policy_ready.specs.imports.Rows.{IsRow}
use Rattle.policy_ready.specs.declared.imports.rows.ImportRow.{ImportRow}
use Rattle.policy_ready.specs.declared.imports.view.ViewItem.{ViewItem}
use Rattle.policy_ready.specs.declared.imports.view.ViewItem.TheVariants.{At}
use Rattle.policy_ready.specs.declared.imports.view.Way.{Way}
use Rattle.policy_ready.specs.declared.imports.view.Way.TheVariants.{Own}

-- the subjects before and beyond a row are a pair of its mapping: the exporter's and the importer's, or the other way round
abbrev pub IsPairBy : Kind → RowMap → List Token → List Token → Type 0
IsPairBy kind.Stream m s t = IsPair m s t
IsPairBy kind.Service m s t = IsPair m t s

-- across a row a message of one account is seen in another, on a subject that the row's mapping pairs with its own
pub record IsCrossedBy (r : ImportRow) (from : List ℕ) (s : List Token) (to : List ℕ) (t : List Token) : Type 0 where
  pub source : source_of r ≡ from
  pub target : target_of r ≡ to
  pub pair : IsPairBy r.kind r.mapping s t
  pub short : length t ≤ 512

-- a message is seen across exactly the rows that cross it so
abbrev pub CrossesByPairs : Type 0
CrossesByPairs = (rows : List ImportRow) → All IsRow rows → (a b : List ℕ) (s t : List Token) (way : Way) → IsConcreteSubject s → is_route s ≡ false →
    Contains (crossings_in rows a s) (At b t way) ↔ Any (λ r. (way_of r ≡ way) × IsCrossedBy r a s b t) rows

-- the same of any rows, by the mapping's functions
pub record IsSeenBy (r : ImportRow) (from : List ℕ) (s : List Token) (to : List ℕ) (t : List Token) : Type 0 where
  pub source : source_of r ≡ from
  pub target : target_of r ≡ to
  pub subject : across r s ≡ Some t
  pub short : length t ≤ 512

-- each view is the publisher's own, or comes by a row, or is a response
abbrev pub ViewsComeByRows : Type 0
ViewsComeByRows = (rows : List ImportRow) (responses : List ViewItem) (a b : List ℕ) (s t : List Token) (way : Way) → Contains (views_in rows a s responses) (At b t way) →
    ((b ≡ a) × (t ≡ s) × (way ≡ Own)) ⊎ (Any (λ r. (way ≡ way_of r) × IsSeenBy r a s b t) rows ⊎ Contains responses (At b t way))

-- and each row by which a message is seen gives a view, or an earlier one is of the same account and subject
abbrev pub RowsGiveViews : Type 0
RowsGiveViews = (rows : List ImportRow) (responses : List ViewItem) (a b : List ℕ) (s t : List Token) → is_route s ≡ false → Any (λ r. IsSeenBy r a s b t) rows →
    Any (λ v. IsTrue (is_at b t v)) (views_in rows a s responses)

-- each row of a valid policy has an export of the account that it imports from, which lets it in
abbrev pub IsExported : List NamedAccount → ImportRow → Type 0
IsExported accounts r = IsSomeAnd (find (has_name r.exporter) accounts) (λ exporter. Any (λ (e : ExportDoc). IsTrue (admits r.row.importer r.kind r.mapping.outer e)) exporter.account.exports)

abbrev pub RowsAreExported : Type 0
RowsAreExported = (doc : PolicyDoc) → IsValidPolicy doc → All (IsExported doc.accounts) (rows_of doc)
