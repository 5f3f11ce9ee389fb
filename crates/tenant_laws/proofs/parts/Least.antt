-- Rows that import the same service stand for each other.
use Rattle.std.proofs.Common.{◌≡◌, ◌∙◌, ◌&&◌, ◌+◌, ◌<◌, ℕ, zero, suc, Bool, true, false, not, cond, List, [], ◌∷◌, length, Option, Some, None, ap, sym, refl, subst, arith}
use Rattle.std.specs.Prelude.{All, IsSomeAnd, find, position, slice_get}
use Rattle.std.specs.List.{position_or_len}
use Rattle.std.specs.Option.{option_and_then, option_map, option_map_or}
use Rattle.std.specs.Str.{bytes_eq}
use Rattle.std.specs.Cmp.Lexicographic.{bytes_decides, pointwise_decides}
use Rattle.std.proofs.lemmas.Bool.{and_from, and_parts, lt-ltb}
use Rattle.std.proofs.lemmas.List.Elements.{All-head, All-tail, All-weaker}
use Rattle.std.proofs.lemmas.List.Quantifiers.{position-Some}
use Rattle.std.proofs.lemmas.Option.{slice_get-get_or}
use Rattle.std.proofs.lemmas.Slice.Eq.{bytes_eq-Decides}
use Rattle.subjects.specs.Subject.{Token}
use Rattle.subjects.specs.Equal.{same_subject}
use Rattle.policy_doc.specs.exports.Exports.{admits}
use Rattle.policy_doc.specs.declared.exports.document.Kind.{Kind}
use Rattle.policy_doc.specs.declared.exports.document.Kind.TheVariants.{Stream, Service}
use Rattle.policy_doc.specs.declared.exports.document.Row.{Row}
use Rattle.policy_doc.specs.Accounts.{Name, has_name}
use Rattle.policy_doc.specs.declared.document.ImportDoc.{ImportDoc}
use Rattle.policy_doc.specs.declared.document.NamedAccount.{NamedAccount}
use Rattle.policy_doc.specs.declared.document.PolicyDoc.{PolicyDoc}
use Rattle.service_exporter.specs.Routes.{Exporter, Numbered}
use Rattle.service_exporter.specs.declared.route.NewRow.{NewRow}
use Rattle.service_routes.specs.service_rows.Rows.{renewed, renewed_for, renewed_in, import_at, is_same_service, is_service, new_row, no_terms, same_template, terms_at, terms_by, terms_for, terms_in, terms_of}
use Rattle.tenant_laws.specs.parts.Part.{account_held, exporters_of, part_of}
use Rattle.tenant_laws.specs.parts.Least.{AgainByLeast, HasItself, LeastInPart, all_on_least, exporter_on_least, exporters_on_least, index_by, least_row, on_least}
use Rattle.tenant_laws.proofs.parts.Policy.{account_kept, import_kept}

-- ---- imports of the same service

same_from_template : (t u : Option (List ℕ)) → same_template t u ≡ true → t ≡ u
same_from_template None None e = refl
same_from_template None (Some u) e = absurd (cc)
same_from_template (Some t) None e = absurd (cc)
same_from_template (Some t) (Some u) e = ap (λ x. Some x) ((bytes_eq-Decides t u).0 e)

template_itself : (t : Option (List ℕ)) → same_template t t ≡ true
template_itself None = refl
template_itself (Some t) = (bytes_eq-Decides t t).1 refl

both_services : (k l : Kind) → is_service k ≡ true → is_service l ≡ true → k ≡ l
both_services Service Service e f = refl
both_services Stream l e f = absurd (cc)
both_services Service Stream e f = absurd (cc)

-- what is the same of two imports of one service
record AreOne (i j : ImportDoc) : Type 0 where
  kind : i.kind ≡ j.kind
  account : i.account ≡ j.account
  subject : i.subject ≡ j.subject
  template : i.to ≡ j.to

are_one : (i j : ImportDoc) → is_same_service i j ≡ true → AreOne i j
are_one i j e =
    let four = and_parts (is_service i.kind && is_service j.kind && bytes_eq i.account j.account && same_subject i.subject j.subject) (same_template i.to j.to) e in
    let three = and_parts (is_service i.kind && is_service j.kind && bytes_eq i.account j.account) (same_subject i.subject j.subject) four.0 in
    let two = and_parts (is_service i.kind && is_service j.kind) (bytes_eq i.account j.account) three.0 in
    let one = and_parts (is_service i.kind) (is_service j.kind) two.0 in
    record {
      kind = both_services i.kind j.kind one.0 one.1;
      account = (bytes_eq-Decides i.account j.account).0 two.1;
      subject = (pointwise_decides bytes_decides i.subject j.subject).0 three.1;
      template = same_from_template i.to j.to four.1;
    }

-- and so is each other of that service
same_test : (i j : ImportDoc) → AreOne i j → (x : ImportDoc) → is_same_service j x ≡ is_same_service i x
same_test i j one x =
    ap (λ k. is_service k && is_service x.kind && bytes_eq j.account x.account && same_subject j.subject x.subject && same_template j.to x.to) (sym one.kind)
    ∙ ap (λ (a : List ℕ). is_service i.kind && is_service x.kind && bytes_eq a x.account && same_subject j.subject x.subject && same_template j.to x.to) (sym one.account)
    ∙ ap (λ (s : List Token). is_service i.kind && is_service x.kind && bytes_eq i.account x.account && same_subject s x.subject && same_template j.to x.to) (sym one.subject)
    ∙ ap (λ (t : Option (List ℕ)). is_service i.kind && is_service x.kind && bytes_eq i.account x.account && same_subject i.subject x.subject && same_template t x.to) (sym one.template)

same_itself : (i : ImportDoc) → i.kind ≡ Service → is_same_service i i ≡ true
same_itself i is =
    let service : is_service i.kind ≡ true = ap is_service is in
    and_from (is_service i.kind && is_service i.kind && bytes_eq i.account i.account && same_subject i.subject i.subject) (same_template i.to i.to)
    (and_from (is_service i.kind && is_service i.kind && bytes_eq i.account i.account) (same_subject i.subject i.subject)
    (and_from (is_service i.kind && is_service i.kind) (bytes_eq i.account i.account) (and_from (is_service i.kind) (is_service i.kind) service service) ((bytes_eq-Decides i.account i.account).1 refl))
    ((pointwise_decides bytes_decides i.subject i.subject).1 refl)) (template_itself i.to)

-- the terms are the same
same_terms : (doc : PolicyDoc) (importer : Name) (i j : ImportDoc) → AreOne i j → terms_for doc importer j ≡ terms_for doc importer i
same_terms doc importer i j one =
    ap (λ (a : List ℕ). option_map_or (terms_by importer j) (find (has_name a) doc.accounts) no_terms) (sym one.account)
    ∙ ap (λ k. option_map_or (λ (x : NamedAccount). terms_in x.account.exports (position (admits importer k j.subject) x.account.exports)) (find (has_name i.account) doc.accounts) no_terms) (sym one.kind)
    ∙ ap (λ (s : List Token). option_map_or (λ (x : NamedAccount). terms_in x.account.exports (position (admits importer i.kind s) x.account.exports)) (find (has_name i.account) doc.accounts) no_terms) (sym one.subject)

-- ---- places

placed : {X : Type 0} (p : X → Bool) (xs : List X) (k : ℕ) (d : X) → position p xs ≡ Some k → IsSomeAnd (slice_get xs k) (λ x. p x ≡ true)
placed p xs k d e =
    let at = position-Some p xs k d e in
    subst (λ o. IsSomeAnd o (λ x. p x ≡ true)) (sym (slice_get-get_or xs k d at.0)) at.1

-- what stands at a place and passes is found
found_before : {X : Type 0} (p : X → Bool) (xs : List X) (k : ℕ) (x : X) → slice_get xs k ≡ Some x → p x ≡ true → position_or_len p xs < length xs
found_before p [] k x at is = absurd (cc)
found_before {X} p (y ∷ xs) k x at is = by (p y) refl k at (λ j at'. found_before p xs j x at' is)
  where
    by : (b : Bool) → p y ≡ b → (j : ℕ) → slice_get (y ∷ xs) j ≡ Some x → ((i : ℕ) → slice_get xs i ≡ Some x → position_or_len p xs < length xs) → cond (not b) (1 + position_or_len p xs) 0 < length (y ∷ xs)
    by true e j at' later = omega arith
    by false e zero at' later = let same : y ≡ x = cc in let no : false ≡ true = sym e ∙ ap p same ∙ is in absurd (cc)
    by false e (suc j) at' later = let below = later j at' in omega (arith, below)

found_at : {X : Type 0} (p : X → Bool) (xs : List X) (k : ℕ) (x : X) → slice_get xs k ≡ Some x → p x ≡ true → position p xs ≡ Some (position_or_len p xs)
found_at p xs k x at is = ap (λ b. cond b (Some (position_or_len p xs)) None) (lt-ltb (position_or_len p xs) (length xs) (found_before p xs k x at is))

-- ---- a row, and the least of its service

module _ (doc : PolicyDoc) (importer : Name) (index : ℕ) where
  -- the least row stands for the same import
  least_is : (i : ImportDoc) → import_at doc importer index ≡ Some i → (new : NewRow) → renewed_for doc importer i ≡ Some new → IsSomeAnd (import_at doc importer new.index) (λ j. is_same_service i j ≡ true)
  least_is i at new e = by (find (has_name importer) doc.accounts) e
    where
      in_account : (a : NamedAccount) (o : Option ℕ) → position (is_same_service i) a.account.imports ≡ o → option_map (new_row doc importer) o ≡ Some new → IsSomeAnd (slice_get a.account.imports new.index) (λ j. is_same_service i j ≡ true)
      in_account a None p f = absurd (cc)
      in_account a (Some k) p f =
          let same : k ≡ new.index = ap (λ (o : Option NewRow). index_by o 0) f in
          subst (λ n. IsSomeAnd (slice_get a.account.imports n) (λ j. is_same_service i j ≡ true)) same (placed (is_same_service i) a.account.imports k i p)

      by : (o : Option NamedAccount) → option_and_then (renewed_in doc importer i) o ≡ Some new →
          IsSomeAnd (option_and_then (λ (a : NamedAccount). slice_get a.account.imports new.index) o) (λ j. is_same_service i j ≡ true)
      by None f = absurd (cc)
      by (Some a) f = in_account a (position (is_same_service i) a.account.imports) refl f

-- rows of one service have the same row again
again_same : (new : PolicyDoc) (importer : Name) (i j : ImportDoc) → AreOne i j → renewed_for new importer j ≡ renewed_for new importer i
again_same new importer i j one = by (find (has_name importer) new.accounts)
  where
    by : (o : Option NamedAccount) → option_and_then (renewed_in new importer j) o ≡ option_and_then (renewed_in new importer i) o
    by None = refl
    by (Some a) = ap (λ (test : ImportDoc → Bool). option_map (new_row new importer) (position test a.account.imports)) (λ n x. same_test i j one x n)

pub again_by_least : AgainByLeast
again_by_least old new row = by (import_at old row.importer row.index) refl
  where
    for_import : (i : ImportDoc) → import_at old row.importer row.index ≡ Some i → (o : Option NewRow) → renewed_for old row.importer i ≡ o →
        option_and_then (renewed_for new row.importer) (import_at old row.importer (index_by o row.index)) ≡ renewed_for new row.importer i
    for_import i e None f = ap (option_and_then (renewed_for new row.importer)) e
    for_import i e (Some least) f = within (import_at old row.importer least.index) (least_is old row.importer row.index i e least f)
      where
        within : (o : Option ImportDoc) → IsSomeAnd o (λ j. is_same_service i j ≡ true) → option_and_then (renewed_for new row.importer) o ≡ renewed_for new row.importer i
        within None never = absurd never
        within (Some j) same = again_same new row.importer i j (are_one i j same)

    by : (o : Option ImportDoc) → import_at old row.importer row.index ≡ o →
        option_and_then (renewed_for new row.importer) (import_at old row.importer (index_by (option_and_then (renewed_for old row.importer) (import_at old row.importer row.index)) row.index)) ≡ option_and_then (renewed_for new row.importer) (import_at old row.importer row.index)
    by None e =
        ap (λ o. option_and_then (renewed_for new row.importer) (import_at old row.importer (index_by (option_and_then (renewed_for old row.importer) o) row.index))) e
    by (Some i) e =
        ap (λ o. option_and_then (renewed_for new row.importer) (import_at old row.importer (index_by (option_and_then (renewed_for old row.importer) o) row.index))) e
        ∙ for_import i e (renewed_for old row.importer i) refl
        ∙ sym (ap (option_and_then (renewed_for new row.importer)) e)

-- ---- the policy's own rows

-- a service row of the policy has itself again: on the least row, on its own terms
pub has_itself : HasItself
has_itself doc row is = by (import_at doc row.importer row.index) refl is
  where
    for_import : (i : ImportDoc) → import_at doc row.importer row.index ≡ Some i → i.kind ≡ Service → renewed_for doc row.importer i ≡ Some record { index = index_by (renewed_for doc row.importer i) row.index; terms = terms_for doc row.importer i }
    for_import i e service = for_account (find (has_name row.importer) doc.accounts) refl e
      where
        for_account : (o : Option NamedAccount) → find (has_name row.importer) doc.accounts ≡ o → option_and_then (λ (a : NamedAccount). slice_get a.account.imports row.index) o ≡ Some i →
            option_and_then (renewed_in doc row.importer i) o ≡ Some record { index = index_by (option_and_then (renewed_in doc row.importer i) o) row.index; terms = terms_for doc row.importer i }
        for_account None f g = absurd (cc)
        for_account (Some a) f g =
            let k : ℕ = position_or_len (is_same_service i) a.account.imports in
            let found : position (is_same_service i) a.account.imports ≡ Some k = found_at (is_same_service i) a.account.imports row.index i g (same_itself i service) in
            ap (λ p. option_map (new_row doc row.importer) p) found
            ∙ ap (λ terms. Some record { index = k; terms = terms }) (terms_there a f k (placed (is_same_service i) a.account.imports k i found))
            ∙ sym (ap (λ p. Some record { index = index_by (option_map (new_row doc row.importer) p) row.index; terms = terms_for doc row.importer i }) found)
          where
            terms_there : (a : NamedAccount) → find (has_name row.importer) doc.accounts ≡ Some a → (k : ℕ) → IsSomeAnd (slice_get a.account.imports k) (λ j. is_same_service i j ≡ true) →
                terms_at doc row.importer k ≡ terms_for doc row.importer i
            terms_there b f' k' same =
                ap (λ (o : Option NamedAccount). option_map_or (terms_for doc row.importer) (option_and_then (λ (x : NamedAccount). slice_get x.account.imports k') o) no_terms) f'
                ∙ within (slice_get b.account.imports k') same
              where
                within : (o : Option ImportDoc) → IsSomeAnd o (λ j. is_same_service i j ≡ true) → option_map_or (terms_for doc row.importer) o no_terms ≡ terms_for doc row.importer i
                within None never = absurd never
                within (Some j) s = same_terms doc row.importer i j (are_one i j s)

    by : (o : Option ImportDoc) → import_at doc row.importer row.index ≡ o → IsSomeAnd o (λ (i : ImportDoc). i.kind ≡ Service) →
        renewed doc doc row ≡ Some record { index = index_by (renewed doc doc row) row.index; terms = terms_of doc row }
    by None e never = absurd never
    by (Some i) e service =
        ap (option_and_then (renewed_for doc row.importer)) e
        ∙ for_import i e service
        ∙ sym (ap (λ o. Some record { index = index_by (option_and_then (renewed_for doc row.importer) o) row.index; terms = option_map_or (terms_for doc row.importer) o no_terms }) e)

-- ---- in a part

-- which index, whatever the terms
index_in : (K : Name → Bool) (doc : PolicyDoc) (importer : Name) → K importer ≡ true → (i : ImportDoc) (index : ℕ) → index_by (renewed_for (part_of K doc) importer i) index ≡ index_by (renewed_for doc importer i) index
index_in K doc importer is i index =
    ap (λ o. index_by (option_and_then (renewed_in (part_of K doc) importer i) o) index) (account_kept K importer doc is) ∙ by (find (has_name importer) doc.accounts)
  where
    at : (o : Option ℕ) → index_by (option_map (new_row (part_of K doc) importer) o) index ≡ index_by (option_map (new_row doc importer) o) index
    at None = refl
    at (Some k) = refl

    by : (o : Option NamedAccount) → index_by (option_and_then (renewed_in (part_of K doc) importer i) (option_map (account_held doc.default_permissions) o)) index ≡ index_by (option_and_then (renewed_in doc importer i) o) index
    by None = refl
    by (Some a) = at (position (is_same_service i) a.account.imports)

pub least_in_row : (K : Name → Bool) (doc : PolicyDoc) (row : Row) → K row.importer ≡ true → least_row doc row ≡ least_row (part_of K doc) row
least_in_row K doc row is =
    ap (λ index. record { importer = row.importer; index = index })
    (sym (ap (λ o. index_by (option_and_then (renewed_for (part_of K doc) row.importer) o) row.index) (import_kept K doc row.importer row.index is) ∙ by (import_at doc row.importer row.index)))
  where
    by : (o : Option ImportDoc) → index_by (option_and_then (renewed_for (part_of K doc) row.importer) o) row.index ≡ index_by (option_and_then (renewed_for doc row.importer) o) row.index
    by None = refl
    by (Some i) = index_in K doc row.importer is i row.index

pub least_in_part : LeastInPart
least_in_part K doc [] of = refl
least_in_part K doc (e ∷ all) of = by (K e.0) refl (least_in_part K doc all (All-tail (λ (x : Name × Exporter). All (λ (r : Numbered). K r.1.row.importer ≡ K x.0) x.1.routes) e all of))
  where
    by : (b : Bool) → K e.0 ≡ b → exporters_of K (exporters_on_least doc all) ≡ exporters_on_least (part_of K doc) (exporters_of K all) →
        cond b ((e.0, exporter_on_least doc e.1) ∷ exporters_of K (exporters_on_least doc all)) (exporters_of K (exporters_on_least doc all)) ≡ exporters_on_least (part_of K doc) (cond b (e ∷ exporters_of K all) (exporters_of K all))
    by true is later =
        ap (λ (rs : List Numbered). (e.0, record { last = e.1.last; routes = rs }) ∷ exporters_of K (exporters_on_least doc all)) (each_in e.1.routes (All-weaker (λ (r : Numbered). K r.1.row.importer ≡ K e.0) (λ (r : Numbered). K r.1.row.importer ≡ true) (λ r from. from ∙ is) e.1.routes (All-head (λ (x : Name × Exporter). All (λ (r : Numbered). K r.1.row.importer ≡ K x.0) x.1.routes) e all of)))
        ∙ ap (λ l. (e.0, exporter_on_least (part_of K doc) e.1) ∷ l) later
      where
        each_in : (rs : List Numbered) → All (λ (r : Numbered). K r.1.row.importer ≡ true) rs → all_on_least doc rs ≡ all_on_least (part_of K doc) rs
        each_in [] theirs = refl
        each_in (r ∷ rs) theirs =
            ap (λ row. (r.0, record r.1 { row = row }) ∷ all_on_least doc rs) (least_in_row K doc r.1.row (All-head (λ (x : Numbered). K x.1.row.importer ≡ true) r rs theirs))
            ∙ ap (λ l. (r.0, on_least (part_of K doc) r.1) ∷ l) (each_in rs (All-tail (λ (x : Numbered). K x.1.row.importer ≡ true) r rs theirs))
    by false is later = later
