-- Which views come across rows, that each row has its export, and what streams alone give.
use Rattle.std.proofs.Common.{◌≡◌, ◌∙◌, ◌+◌, ◌<◌, ◌≤◌, ℕ, zero, suc, Bool, true, false, true≢false, cond, List, [], ◌∷◌, Option, Some, None, length, ap, sym, refl, subst, arith}
use Rattle.std.specs.Prelude.{◌↔◌, nat_lt, All, Any, Contains, IsTrue, IsSome, IsSomeAnd, position}
use Rattle.std.specs.List.{cons_option, filter_map, flat_map, slice_index_or}
use Rattle.std.specs.Option.{option_map}
use Rattle.std.specs.Str.{bytes_eq}
use Rattle.std.proofs.lemmas.Bool.Decides.{nat_tests}
use Rattle.std.proofs.lemmas.List.{get_or_default}
use Rattle.std.proofs.lemmas.List.Elements.{All-nil, All-cons, All-append, All-head, All-tail}
use Rattle.std.proofs.lemmas.List.Quantifiers.{position-Some}
use Rattle.std.proofs.lemmas.Slice.Eq.{bytes_eq-Decides}
use Rattle.subjects.specs.Subject.{Token, IsConcreteSubject}
use Rattle.mapping.specs.Pairs.{RowMap, IsRowMap}
use Rattle.mapping.proofs.Pairs.{forward_pairs, back_pairs}
use Rattle.policy_doc.specs.exports.Exports.{admits}
use Rattle.policy_doc.specs.declared.exports.document.ExportDoc.{ExportDoc}
use Rattle.policy_doc.specs.declared.exports.document.Kind.{Kind}
use Rattle.policy_doc.specs.declared.exports.document.Kind.TheVariants as kind
use Rattle.policy_doc.specs.Imports.{IsValidImport, export_of, exporter_of, mapping_by, mapping_of}
use Rattle.policy_doc.specs.declared.document.ImportDoc.{ImportDoc}
use Rattle.policy_doc.specs.declared.document.NamedAccount.{NamedAccount}
use Rattle.policy_ready.specs.imports.Across.{across, across_by, crossed, crossing, crossings_in, source_of, target_of, way_of}
use Rattle.policy_ready.specs.imports.Views.{row_at, rows_from, rows_in}
use Rattle.policy_ready.specs.imports.Rows.{IsRow}
use Rattle.policy_ready.specs.imports.Laws.{CrossesByPairs, IsCrossedBy, IsExported, IsPairBy, IsSeenBy, RowsAreExported}
use Rattle.policy_ready.specs.declared.imports.rows.ImportRow.{ImportRow}
use Rattle.policy_ready.specs.declared.imports.view.ViewItem.{ViewItem}
use Rattle.policy_ready.specs.declared.imports.view.ViewItem.TheVariants.{At, TooLong}
use Rattle.policy_ready.specs.declared.imports.view.Way.{Way}

-- ---- each row has its export

-- whatever mapping an import has, its outer pattern is the import's
outer_is : (subject : List Token) (to : Option (List ℕ)) (prefix : Option (List Token)) → (mapping_by subject to prefix).outer ≡ subject
outer_is subject (Some template) prefix = refl
outer_is subject None (Some prefix) = refl
outer_is subject None None = refl

admitted : (test : ExportDoc → Bool) (exports : List ExportDoc) (o : Option ℕ) → position test exports ≡ o → IsSome o → Any (λ (e : ExportDoc). IsTrue (test e)) exports
admitted test exports None is some = absurd (true≢false (sym some))
admitted test [] (Some i) is some = absurd (cc)
admitted test (e ∷ exports) (Some i) is some =
    let found = position-Some test (e ∷ exports) i e is in
    (i, slice_index_or (e ∷ exports) i e, found.0, get_or_default (e ∷ exports) i (slice_index_or (e ∷ exports) i e) e found.0, found.1)

exported : (accounts : List NamedAccount) (importer : List ℕ) (index : ℕ) (i : ImportDoc) → IsValidImport accounts importer i → IsExported accounts (row_at importer index i)
exported accounts importer index i valid = by (exporter_of accounts i) valid.exported
  where
    by : (o : Option NamedAccount) → IsSomeAnd o (λ exporter. IsSome (export_of importer i exporter)) → IsSomeAnd o (λ exporter. Any (λ (e : ExportDoc). IsTrue (admits importer i.kind (mapping_of i).outer e)) exporter.account.exports)
    by None some = absurd some
    by (Some exporter) some =
        subst (λ p. Any (λ (e : ExportDoc). IsTrue (admits importer i.kind p e)) exporter.account.exports) (sym (outer_is i.subject i.to i.prefix))
        (admitted (admits importer i.kind i.subject) exporter.account.exports (export_of importer i exporter) refl some)

exported_from : (accounts : List NamedAccount) (importer : List ℕ) (index : ℕ) (imports : List ImportDoc) → All (IsValidImport accounts importer) imports → All (IsExported accounts) (rows_from importer index imports)
exported_from accounts importer index [] all = All-nil (IsExported accounts)
exported_from accounts importer index (i ∷ more) all =
    All-cons (IsExported accounts) (row_at importer index i) (rows_from importer (index + 1) more)
    (exported accounts importer index i (All-head (IsValidImport accounts importer) i more all))
    (exported_from accounts importer (index + 1) more (All-tail (IsValidImport accounts importer) i more all))

exported_in : (accounts importers : List NamedAccount) → All (λ (a : NamedAccount). All (IsValidImport accounts a.name) a.account.imports) importers → All (IsExported accounts) (flat_map rows_in importers)
exported_in accounts [] all = All-nil (IsExported accounts)
exported_in accounts (a ∷ more) all =
    let P : NamedAccount → Type 0 = λ a. All (IsValidImport accounts a.name) a.account.imports in
    All-append (IsExported accounts) (rows_in a) (flat_map rows_in more) (exported_from accounts a.name 0 a.account.imports (All-head P a more all)) (exported_in accounts more (All-tail P a more all))

pub rows_exported : RowsAreExported
rows_exported doc valid = exported_in doc.accounts doc.accounts valid.imports

-- ---- which views come across rows

-- a view is among what rows give exactly where one of them gives it
pub given_by : (f : ImportRow → Option ViewItem) (rows : List ImportRow) (v : ViewItem) → Contains (filter_map f rows) v → Any (λ r. f r ≡ Some v) rows
given_by f [] v has = absurd (omega (arith, has.1))
given_by f (r ∷ rows) v has = by (f r) refl (λ k. given_by f rows v k) has
  where
    more : Any (λ r. f r ≡ Some v) rows → Any (λ r. f r ≡ Some v) (r ∷ rows)
    more any = (suc any.0, any.1, omega (arith, any.2), any.3, any.4)

    first : (w : ViewItem) (k : ℕ) → f r ≡ Some w → k < length (w ∷ filter_map f rows) → slice_index_or (w ∷ filter_map f rows) k v ≡ v → (Contains (filter_map f rows) v → Any (λ r. f r ≡ Some v) rows) → Any (λ r. f r ≡ Some v) (r ∷ rows)
    first w zero e below is later = (zero, r, omega arith, refl, e ∙ ap Some is)
    first w (suc k) e below is later = more (later (k, omega (arith, below), is))

    by : (o : Option ViewItem) → f r ≡ o → (Contains (filter_map f rows) v → Any (λ r. f r ≡ Some v) rows) → Contains (cons_option o (filter_map f rows)) v → Any (λ r. f r ≡ Some v) (r ∷ rows)
    by None e later has = more (later has)
    by (Some w) e later has = first w has.0 e has.1 has.2 later

pub gives : (f : ImportRow → Option ViewItem) (rows : List ImportRow) (v : ViewItem) → Any (λ r. f r ≡ Some v) rows → Contains (filter_map f rows) v
gives f [] v any = absurd (omega (arith, any.2))
gives f (r ∷ rows) v any = by any.0 any.1 any.2 any.3 any.4 (λ k. gives f rows v k)
  where
    behind : (o : Option ViewItem) → Contains (filter_map f rows) v → Contains (cons_option o (filter_map f rows)) v
    behind None has = has
    behind (Some w) has = (suc has.0, omega (arith, has.1), has.2)

    here : (o : Option ViewItem) → o ≡ Some v → Contains (cons_option o (filter_map f rows)) v
    here None e = absurd (cc)
    here (Some w) e = let same : w ≡ v = cc in (zero, omega arith, same)

    by : (k : ℕ) (x : ImportRow) → k < length (r ∷ rows) → slice_index_or (r ∷ rows) k x ≡ x → f x ≡ Some v → (Any (λ r. f r ≡ Some v) rows → Contains (filter_map f rows) v) → Contains (cons_option (f r) (filter_map f rows)) v
    by zero x below is e later = here (f r) (ap f is ∙ e)
    by (suc k) x below is e later = behind (f r) (later (k, x, omega (arith, below), is, e))

-- a row gives that view exactly where the message is seen by it so
pub seen_by : (r : ImportRow) (a b : List ℕ) (s t : List Token) (way : Way) → crossing a s r ≡ Some (At b t way) → (way_of r ≡ way) × IsSeenBy r a s b t
seen_by r a b s t way given = by (bytes_eq (source_of r) a) refl given
  where
    View : Type 0
    View = (way_of r ≡ way) × IsSeenBy r a s b t

    long : bytes_eq (source_of r) a ≡ true → (u : List Token) → across r s ≡ Some u → (c : Bool) → nat_lt 512 (length u) ≡ c → Some (cond c (TooLong r.row) (At (target_of r) u (way_of r))) ≡ Some (At b t way) → View
    long e u f true far is = absurd (cc)
    long e u f false near is =
        let same : u ≡ t = cc in
        let comes : way_of r ≡ way = cc in
        let target : target_of r ≡ b = cc in
        let short : length u ≤ 512 = grind (arith, nat_tests, near) in (
          comes,
          record {
            source = (bytes_eq-Decides (source_of r) a).0 e;
            target = target;
            subject = f ∙ ap Some same;
            short = subst (λ l. length l ≤ 512) same short;
          },
        )

    mapped : bytes_eq (source_of r) a ≡ true → (o : Option (List Token)) → across r s ≡ o → option_map (crossed r) o ≡ Some (At b t way) → View
    mapped e None f is = absurd (cc)
    mapped e (Some u) f is = long e u f (nat_lt 512 (length u)) refl is

    by : (c : Bool) → bytes_eq (source_of r) a ≡ c → cond c (option_map (crossed r) (across r s)) None ≡ Some (At b t way) → View
    by false e is = absurd (cc)
    by true e is = mapped e (across r s) refl is

pub seen_crosses : (r : ImportRow) (a b : List ℕ) (s t : List Token) → IsSeenBy r a s b t → crossing a s r ≡ Some (At b t (way_of r))
seen_crosses r a b s t it =
    let from : bytes_eq (source_of r) a ≡ true = (bytes_eq-Decides (source_of r) a).1 it.source in
    let near : nat_lt 512 (length t) ≡ false = grind (arith, nat_tests, it.short) in
    ap (λ c. cond c (option_map (crossed r) (across r s)) None) from
    ∙ ap (λ o. option_map (crossed r) o) it.subject
    ∙ ap (λ c. Some (cond c (TooLong r.row) (At (target_of r) t (way_of r)))) near
    ∙ ap (λ n. Some (At n t (way_of r))) it.target

-- the subjects before and beyond a row are those that its mapping pairs
across_pairs : (k : Kind) (m : RowMap) → IsRowMap m → (s t : List Token) → IsConcreteSubject s → (across_by k m s ≡ Some t) ↔ IsPairBy k m s t
across_pairs kind.Stream m holds s t subject = forward_pairs m holds s t subject
across_pairs kind.Service m holds s t subject = back_pairs m holds t s subject

crossed_by : (r : ImportRow) (a b : List ℕ) (s t : List Token) → IsRow r → IsConcreteSubject s → IsSeenBy r a s b t → IsCrossedBy r a s b t
crossed_by r a b s t holds subject it = record {
  source = it.source;
  target = it.target;
  pair = (across_pairs r.kind r.mapping holds.mapping s t subject).0 it.subject;
  short = it.short;
}

seen_as : (r : ImportRow) (a b : List ℕ) (s t : List Token) → IsRow r → IsConcreteSubject s → IsCrossedBy r a s b t → IsSeenBy r a s b t
seen_as r a b s t holds subject it = record {
  source = it.source;
  target = it.target;
  subject = (across_pairs r.kind r.mapping holds.mapping s t subject).1 it.pair;
  short = it.short;
}

row_in : (rows : List ImportRow) → All IsRow rows → (k : ℕ) (x : ImportRow) → k < length rows → slice_index_or rows k x ≡ x → IsRow x
row_in rows all k x below is = subst IsRow is (all k x below)

pub by_pairs : CrossesByPairs
by_pairs rows all a b s t way subject plain =
    let v : ViewItem = At b t way in
    let beyond : crossings_in rows a s ≡ filter_map (crossing a s) rows = ap (λ c. cond c [] (filter_map (crossing a s) rows)) plain in (
      λ has.
          let any = given_by (crossing a s) rows v (subst (λ l. Contains l v) beyond has) in
          let it = seen_by any.1 a b s t way any.4 in
          (any.0, any.1, any.2, any.3, (it.0, crossed_by any.1 a b s t (row_in rows all any.0 any.1 any.2 any.3) subject it.1)),
      λ any.
          let it = seen_as any.1 a b s t (row_in rows all any.0 any.1 any.2 any.3) subject any.4.1 in
          subst (λ l. Contains l v) (sym beyond)
          (gives (crossing a s) rows v (any.0, any.1, any.2, any.3, seen_crosses any.1 a b s t it ∙ ap (λ w. Some (At b t w)) any.4.0)),
    )
