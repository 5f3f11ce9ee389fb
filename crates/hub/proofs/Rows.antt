-- Each response route is for a service row of the policy in force, and is so after all that changes routes.
use Rattle.std.proofs.Common.{◌≡◌, ◌∙◌, ◌&&◌, ◌+◌, ℕ, suc, Bool, true, false, cond, not, List, [], ◌∷◌, ◌++◌, filter, get_or, Option, Some, None, ap, sym, refl, subst, arith}
use Rattle.std.specs.Prelude.{All, IsSomeAnd, find, position, slice_get, unwrap_or, ⊤}
use Rattle.std.specs.List.{cons_option, filter_map, flat_map}
use Rattle.std.specs.Map.{lookup}
use Rattle.std.specs.Option.{option_and_then, option_map}
use Rattle.std.specs.Str.{bytes_eq}
use Rattle.std.proofs.lemmas.Bool.{and_parts}
use Rattle.std.proofs.lemmas.List.Elements.{All-nil, All-cons, All-head, All-tail, All-append, All-map, All-filter}
use Rattle.std.proofs.lemmas.List.Quantifiers.{position-Some}
use Rattle.std.proofs.lemmas.Map.Text.{is_eq-slice_cmp}
use Rattle.std.proofs.lemmas.Option.{slice_get-get_or}
use Rattle.std.proofs.lemmas.Slice.Eq.{bytes_eq-Decides}
use Rattle.indexmap.specs.IndexMap.{insert_entry}
use Rattle.subjects.specs.Subject.{Token}
use Rattle.subjects.specs.Equal.{same_subject}
use Rattle.policy_doc.specs.declared.exports.document.Kind.{Kind}
use Rattle.policy_doc.specs.declared.exports.document.Kind.TheVariants as kind
use Rattle.policy_doc.specs.declared.exports.document.Row.{Row}
use Rattle.policy_doc.specs.Accounts.{IsByName, has_name}
use Rattle.policy_doc.specs.declared.document.ImportDoc.{ImportDoc}
use Rattle.policy_doc.specs.declared.document.NamedAccount.{NamedAccount}
use Rattle.policy_doc.specs.declared.document.PolicyDoc.{PolicyDoc}
use Rattle.policy_doc.proofs.Names.{found-at}
use Rattle.policy_ready.specs.imports.Across.{crossing, crossings_in, last_by, views, way_by}
use Rattle.policy_ready.specs.imports.Views.{first_of_each, is_route, is_same, row_at, rows_from, rows_in, rows_of}
use Rattle.policy_ready.specs.declared.imports.rows.ImportRow.{ImportRow}
use Rattle.policy_ready.specs.declared.imports.view.ViewItem.{ViewItem}
use Rattle.policy_ready.specs.declared.imports.view.ViewItem.TheVariants.{At, TooLong}
use Rattle.policy_ready.specs.declared.imports.view.Way.TheVariants.{Own, Stream, Service, Response}
use Rattle.policy_ready.proofs.imports.Crossed.{seen_by}
use Rattle.service_exporter.specs.Routes.{Exporter, Numbered, no_routes, lives, pruned_of, with_route, ends_by, spent_of, on_row, kept_route, kept_of, route_on}
use Rattle.service_exporter.specs.declared.route.NewRow.{NewRow}
use Rattle.service_exporter.specs.declared.route.Route.{Route}
use Rattle.service_routes.specs.Routes.{Name, same_name, exporter_of, changed, opened, spent, pruned, kept}
use Rattle.service_routes.specs.service_rows.Rows.{renewed, renewed_for, renewed_in, import_at, is_same_service, is_service, new_row, same_template}
use Rattle.world.specs.Routing.{response_by, responses_on, route_for}
use Rattle.hub.specs.Routes.{EachRoute, IsOfRow, IsServiceRow}
use Rattle.hub.proofs.Routes.{given-All}

-- ---- what changes routes

-- what holds of each route of an exporter, under its name
abbrev OfExporter : (Name → Numbered → Type 0) → Name × Exporter → Type 0
OfExporter P e = All (P e.0) e.1.routes

same-is : (a b : Name) → same_name a b ≡ true → a ≡ b
same-is a b = (bytes_eq-Decides a b).0

pub each-of : (P : Name → Numbered → Type 0) (name : Name) (all : List (Name × Exporter)) → EachRoute P all → All (P name) (exporter_of name all).routes
each-of P name [] is = All-nil (P name)
each-of P name (e ∷ all) is = here (same_name name e.0) refl (each-of P name all (All-tail (OfExporter P) e all is))
  where
    here : (b : Bool) → same_name name e.0 ≡ b → All (P name) (exporter_of name all).routes → All (P name) (unwrap_or (cond b (Some e.1) (lookup (same_name name) all)) no_routes).routes
    here true same later = subst (λ n. All (P n) e.1.routes) (sym (same-is name e.0 same)) (All-head (OfExporter P) e all is)
    here false same later = later

-- what holds of each, as far as it follows
pub each-weaker : (P Q : Name → Numbered → Type 0) → ((name : Name) (r : Numbered) → P name r → Q name r) → (all : List (Name × Exporter)) → EachRoute P all → EachRoute Q all
each-weaker P Q follows all is k d h = let e : Name × Exporter = get_or all k d in λ i r below. follows e.0 (get_or e.1.routes i r) (is k d h i r below)

each-inserted : (P : Name → Numbered → Type 0) (name : Name) (x : Exporter) (all : List (Name × Exporter)) → All (P name) x.routes → EachRoute P all → EachRoute P (insert_entry same_name all name x)
each-inserted P name x [] new is = All-cons (OfExporter P) (name, x) [] new is
each-inserted P name x (e ∷ all) new is = here (same_name name e.0) refl (each-inserted P name x all new rest)
  where
    rest : EachRoute P all
    rest = All-tail (OfExporter P) e all is

    here : (b : Bool) → same_name name e.0 ≡ b → EachRoute P (insert_entry same_name all name x) → EachRoute P (cond b ((e.0, x) ∷ all) (e ∷ insert_entry same_name all name x))
    here true same later = All-cons (OfExporter P) (e.0, x) all (subst (λ n. All (P n) x.routes) (same-is name e.0 same) new) rest
    here false same later = All-cons (OfExporter P) e (insert_entry same_name all name x) (All-head (OfExporter P) e all is) later

-- a route more is so
pub each-opened : (P : Name → Numbered → Type 0) (name : Name) (r : Route) (all : List (Name × Exporter)) → P name ((exporter_of name all).last + 1, r) → EachRoute P all → EachRoute P (opened name r all)
each-opened P name r all new is =
    let before : Exporter = exporter_of name all in
    let more : Numbered = (before.last + 1, r) in
    each-inserted P name (with_route r before) all
    (All-append (P name) before.routes (more ∷ []) (each-of P name all is) (All-cons (P name) more [] new (All-nil (P name)))) is

-- a response is published
pub each-spent : (P : Name → Numbered → Type 0) (name : Name) (s : List Token) (all : List (Name × Exporter)) → EachRoute P all → EachRoute P (spent name s all)
each-spent P name s [] is = is
each-spent P name s (e ∷ all) is = here (same_name name e.0) (each-spent P name s all rest)
  where
    first : OfExporter P e
    first = All-head (OfExporter P) e all is

    rest : EachRoute P all
    rest = All-tail (OfExporter P) e all is

    here : (b : Bool) → EachRoute P (changed name (spent_of s) all) → EachRoute P (cond b ((e.0, spent_of s e.1) ∷ all) (e ∷ changed name (spent_of s) all))
    here true later = All-cons (OfExporter P) (e.0, spent_of s e.1) all (All-filter (λ (r : Numbered). not (ends_by s r)) (P e.0) e.1.routes first) rest
    here false later = All-cons (OfExporter P) e (changed name (spent_of s) all) first later

-- the clock goes on
pub each-pruned : (P : Name → Numbered → Type 0) (now : ℕ) (all : List (Name × Exporter)) → EachRoute P all → EachRoute P (pruned now all)
each-pruned P now all is =
    All-map (OfExporter P) (λ (e : Name × Exporter). let x : Name × Exporter = (e.0, pruned_of now e.1) in x) all
    (λ k d h. let e : Name × Exporter = get_or all k d in All-filter (λ (r : Numbered). lives now r.1) (P e.0) e.1.routes (is k d h))

-- another policy comes into force
pub each-kept : (P Q : Name → Numbered → Type 0) (renewed : Row → Option NewRow) (all : List (Name × Exporter)) → ((name : Name) (r : Numbered) (new : NewRow) → renewed r.1.row ≡ Some new → P name r → Q name (r.0, on_row r.1 new)) → EachRoute P all → EachRoute Q (kept renewed all)
each-kept P Q renewed all stays is =
    All-map (OfExporter Q) (λ (e : Name × Exporter). let x : Name × Exporter = (e.0, kept_of renewed e.1) in x) all
    (λ k d h. let e : Name × Exporter = get_or all k d in
    given-All (kept_route renewed) (P e.0) (Q e.0) (λ r n g p. here e.0 r n (renewed r.1.row) refl g p) e.1.routes (is k d h))
  where
    here : (name : Name) (r n : Numbered) (o : Option NewRow) → renewed r.1.row ≡ o → option_map (λ new. let x : Numbered = (r.0, on_row r.1 new) in x) o ≡ Some n → P name r → Q name n
    here name r n None at g p = absurd (cc)
    here name r n (Some new) at g p =
        let x : Numbered = (r.0, on_row r.1 new) in
        let same : x ≡ n = cc in
        subst (Q name) same (stays name r new at p)

-- ---- rows of another policy

-- what an equal import is of
kind-is : (k : Kind) → is_service k ≡ true → k ≡ kind.Service
kind-is kind.Stream e = absurd (cc)
kind-is kind.Service e = refl

record IsSameService (i j : ImportDoc) : Type 0 where
  pub service : j.kind ≡ kind.Service
  pub account : i.account ≡ j.account

same_service : (i j : ImportDoc) → is_same_service i j ≡ true → IsSameService i j
same_service i j same =
    let one = and_parts (is_service i.kind && is_service j.kind && bytes_eq i.account j.account && same_subject i.subject j.subject) (same_template i.to j.to) same in
    let two = and_parts (is_service i.kind && is_service j.kind && bytes_eq i.account j.account) (same_subject i.subject j.subject) one.0 in
    let three = and_parts (is_service i.kind && is_service j.kind) (bytes_eq i.account j.account) two.0 in
    let four = and_parts (is_service i.kind) (is_service j.kind) three.0 in
    record { service = kind-is j.kind four.1; account = (bytes_eq-Decides i.account j.account).0 three.1 }

-- a row is again one that imports the service from the same exporter, and has its terms there
again-of : (old new : PolicyDoc) (exporter : Name) (r : Numbered) (to : NewRow) → renewed old new r.1.row ≡ Some to → IsOfRow old exporter r → IsOfRow new exporter (r.0, on_row r.1 to)
again-of old new exporter r to is of = by_import (import_at old importer r.1.row.index) is of.row
  where
    importer : Name
    importer = r.1.row.importer

    IsIt : ImportDoc → Type 0
    IsIt i = (i.kind ≡ kind.Service) × (i.account ≡ exporter)

    by_place : (i : ImportDoc) (a : NamedAccount) (o : Option ℕ) → find (has_name importer) new.accounts ≡ Some a → position (is_same_service i) a.account.imports ≡ o → option_map (new_row new importer) o ≡ Some to → IsIt i → IsOfRow new exporter (r.0, on_row r.1 to)
    by_place i a None at placed e it = absurd (cc)
    by_place i a (Some k) at placed e it =
        let row : new_row new importer k ≡ to = cc in
        let found = position-Some (is_same_service i) a.account.imports k i placed in
        let j : ImportDoc = get_or a.account.imports k i in
        let same = same_service i j found.1 in
        let there : import_at new importer k ≡ Some j = ap (option_and_then (λ (x : NamedAccount). slice_get x.account.imports k)) at ∙ slice_get-get_or a.account.imports k i found.0 in
        subst (λ (x : NewRow). IsOfRow new exporter (r.0, on_row r.1 x)) row
        record { row = subst (λ o. IsSomeAnd o IsIt) (sym there) (same.service, sym same.account ∙ it.1); terms = refl }

    by_account : (i : ImportDoc) (o : Option NamedAccount) → find (has_name importer) new.accounts ≡ o → option_and_then (renewed_in new importer i) o ≡ Some to → IsIt i → IsOfRow new exporter (r.0, on_row r.1 to)
    by_account i None at e it = absurd (cc)
    by_account i (Some a) at e it = by_place i a (position (is_same_service i) a.account.imports) at refl e it

    by_import : (o : Option ImportDoc) → option_and_then (renewed_for new importer) o ≡ Some to → IsSomeAnd o IsIt → IsOfRow new exporter (r.0, on_row r.1 to)
    by_import None e it = absurd it
    by_import (Some i) e it = by_account i (find (has_name importer) new.accounts) refl e it

pub rows-kept : (old new : PolicyDoc) (all : List (Name × Exporter)) → EachRoute (IsOfRow old) all → EachRoute (IsOfRow new) (kept (renewed old new) all)
rows-kept old new all is = each-kept (IsOfRow old) (IsOfRow new) (renewed old new) all (λ name r to at of. again-of old new name r to at of) is

-- ---- the rows of a policy

pub All-flat_map : {X Y : Type 0} (P : X → Type 0) (f : Y → List X) (ys : List Y) → All (λ y. All P (f y)) ys → All P (flat_map f ys)
All-flat_map P f [] all = All-nil P
All-flat_map P f (y ∷ ys) all = All-append P (f y) (flat_map f ys) (All-head (λ x. All P (f x)) y ys all) (All-flat_map P f ys (All-tail (λ x. All P (f x)) y ys all))

-- each is a row of an account's imports
pub rows_from-are : (P : ImportRow → Type 0) (importer : List ℕ) (n : ℕ) (is : List ImportDoc) → ((k : ℕ) (i : ImportDoc) → slice_get is k ≡ Some i → P (row_at importer (n + k) i)) → All P (rows_from importer n is)
rows_from-are P importer n [] of = All-nil P
rows_from-are P importer n (i ∷ is) of =
    All-cons P (row_at importer n i) (rows_from importer (n + 1) is)
    (subst (λ m. P (row_at importer m i)) (let e : n + 0 ≡ n = omega arith in e) (of 0 i refl))
    (rows_from-are P importer (n + 1) is (λ k j at. subst (λ m. P (row_at importer m j)) (let e : n + suc k ≡ (n + 1) + k = omega arith in e) (of (suc k) j at)))

-- an import stands where its row says
abbrev IsImport : PolicyDoc → ImportRow → Type 0
IsImport doc r = IsSomeAnd (import_at doc r.row.importer r.row.index) (λ (i : ImportDoc). (i.kind ≡ r.kind) × (i.account ≡ r.exporter))

named-itself : (a : NamedAccount) → has_name a.name a ≡ true
named-itself a = is_eq-slice_cmp a.name a.name ∙ (bytes_eq-Decides a.name a.name).1 refl

imports-are : (doc : PolicyDoc) → IsByName doc.accounts → All (IsImport doc) (rows_of doc)
imports-are doc names =
    All-flat_map (IsImport doc) rows_in doc.accounts
    (λ j d below. let a : NamedAccount = get_or doc.accounts j d in
    rows_from-are (IsImport doc) a.name 0 a.account.imports (λ k i at. here a k i (sym (found-at a.name doc.accounts j d names below (named-itself a))) at))
  where
    here : (a : NamedAccount) (k : ℕ) (i : ImportDoc) → find (has_name a.name) doc.accounts ≡ Some a → slice_get a.account.imports k ≡ Some i → IsImport doc (row_at a.name (0 + k) i)
    here a k i found at =
        let place : 0 + k ≡ k = omega arith in
        let there : import_at doc a.name (0 + k) ≡ Some i =
        ap (option_and_then (λ (x : NamedAccount). slice_get x.account.imports (0 + k))) found ∙ ap (slice_get a.account.imports) place ∙ at in
        subst (λ o. IsSomeAnd o (λ (x : ImportDoc). (x.kind ≡ i.kind) × (x.account ≡ i.account))) (sym there) (refl, refl)

-- ---- the views of a message

-- a request comes across a service row to the row's exporter
abbrev pub IsByRow : PolicyDoc → ViewItem → Type 0
IsByRow doc (At account s Own) = ⊤
IsByRow doc (At account s (Stream row)) = ⊤
IsByRow doc (At account s (Service row)) = IsServiceRow doc account row
IsByRow doc (At account s (Response row)) = ⊤
IsByRow doc (TooLong row) = ⊤

crossing-by_row : (doc : PolicyDoc) (account : List ℕ) (s : List Token) (r : ImportRow) (v : ViewItem) → crossing account s r ≡ Some v → IsImport doc r → IsByRow doc v
crossing-by_row doc account s r (At b t Own) given of = tt
crossing-by_row doc account s r (At b t (Stream row)) given of = tt
crossing-by_row doc account s r (At b t (Response row)) given of = tt
crossing-by_row doc account s r (TooLong row) given of = tt
crossing-by_row doc account s r (At b t (Service row)) given of =
    let seen = seen_by r account b s t (Service row) given in
    by_kind r.kind refl seen.0 seen.1.target
  where
    by_kind : (k : Kind) → r.kind ≡ k → way_by k r.row ≡ Service row → last_by k r.exporter r.row.importer ≡ b → IsServiceRow doc b row
    by_kind kind.Stream is way target = absurd (cc)
    by_kind kind.Service is way target =
        let same : r.row ≡ row = cc in
        subst (λ (x : Row). IsServiceRow doc b x) same
        (subst (λ n. IsServiceRow doc n r.row) target
        (subst (λ k. IsSomeAnd (import_at doc r.row.importer r.row.index) (λ (i : ImportDoc). (i.kind ≡ k) × (i.account ≡ r.exporter))) is of))

pub first-All : (P : ViewItem → Type 0) (vs : List ViewItem) → All P vs → All P (first_of_each vs)
first-All P [] all = all
first-All P (v ∷ vs) all =
    All-cons P v (filter (λ u. not (is_same v u)) (first_of_each vs)) (All-head P v vs all)
    (All-filter (λ u. not (is_same v u)) P (first_of_each vs) (first-All P vs (All-tail P v vs all)))

responses-by_row : (doc : PolicyDoc) (routes : List (Name × Exporter)) (account : Name) (s : List Token) → All (IsByRow doc) (responses_on routes account s)
responses-by_row doc routes account s = here (route_on s (exporter_of account routes).routes)
  where
    here : (o : Option Route) → All (IsByRow doc) (cons_option (option_map response_by o) [])
    here None = All-nil (IsByRow doc)
    here (Some r) = All-cons (IsByRow doc) (response_by r) [] tt (All-nil (IsByRow doc))

pub views-by_rows : (doc : PolicyDoc) → IsByName doc.accounts → (routes : List (Name × Exporter)) (account : Name) (s : List Token) → All (IsByRow doc) (views doc account s (responses_on routes account s))
views-by_rows doc names routes account s =
    first-All (IsByRow doc) (At account s Own ∷ (crossings_in (rows_of doc) account s ++ responses_on routes account s))
    (All-cons (IsByRow doc) (At account s Own) (crossings_in (rows_of doc) account s ++ responses_on routes account s) tt
    (All-append (IsByRow doc) (crossings_in (rows_of doc) account s) (responses_on routes account s) (here (is_route s)) (responses-by_row doc routes account s)))
  where
    here : (b : Bool) → All (IsByRow doc) (cond b [] (filter_map (crossing account s) (rows_of doc)))
    here true = All-nil (IsByRow doc)
    here false = given-All (crossing account s) (IsImport doc) (IsByRow doc) (λ r v given of. crossing-by_row doc account s r v given of) (rows_of doc) (imports-are doc names)

-- the route of a request is for that row
pub route-of : (doc : PolicyDoc) (exporter : Name) (row : Row) (reply : List Token) (word now number : ℕ) → IsServiceRow doc exporter row → IsOfRow doc exporter (number, route_for doc row reply word now)
route-of doc exporter row reply word now number is = record { row = is; terms = refl }
