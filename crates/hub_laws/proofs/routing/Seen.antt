-- Each view of a message is its publisher's own, or a row takes the message there, or it is a response.
use Rattle.std.proofs.Common.{◌≡◌, ◌∙◌, ◌⊎◌, ◌+◌, ◌<◌, inl, inr, ℕ, suc, Bool, true, false, not, cond, List, [], ◌∷◌, ◌++◌, filter, length, get_or, Option, Some, None, ap, sym, refl, subst, arith, nat_lt}
use Rattle.std.specs.Prelude.{All, Contains, IfSome, IsSomeAnd, slice_get}
use Rattle.std.specs.List.{cons_option, filter_map}
use Rattle.std.specs.Option.{option_map}
use Rattle.std.specs.Str.{bytes_eq}
use Rattle.std.specs.Cmp.Lexicographic.{bytes_decides}
use Rattle.std.proofs.lemmas.Bool.{ltb-true, ltb-false, lt-ltb}
use Rattle.std.proofs.lemmas.List.Elements.{All-nil, All-cons, All-head, All-tail, All-append, All-filter, All-contains, All-contains_itself, Contains-append_left}
use Rattle.subjects.specs.Subject.{Token}
use Rattle.policy_doc.specs.declared.exports.document.Kind.{Kind}
use Rattle.policy_doc.specs.declared.exports.document.Kind.TheVariants as kind
use Rattle.policy_doc.specs.declared.exports.document.Row.{Row}
use Rattle.policy_doc.specs.Document.{IsValidPolicy}
use Rattle.policy_doc.specs.declared.document.ImportDoc.{ImportDoc}
use Rattle.policy_doc.specs.declared.document.PolicyDoc.{PolicyDoc}
use Rattle.policy_ready.specs.imports.Across.{across, crossed, crossing, crossings_in, source_of, target_of, way_by, way_of}
use Rattle.policy_ready.specs.imports.Laws.{IsExported}
use Rattle.policy_ready.specs.imports.Views.{row_at, rows_from, rows_of, is_route, is_same, first_of_each}
use Rattle.policy_ready.specs.declared.imports.rows.ImportRow.{ImportRow}
use Rattle.policy_ready.specs.declared.imports.view.ViewItem.{ViewItem}
use Rattle.policy_ready.specs.declared.imports.view.ViewItem.TheVariants.{At, TooLong}
use Rattle.policy_ready.specs.declared.imports.view.Way.TheVariants.{Own, Response}
use Rattle.policy_ready.proofs.imports.Crossed.{gives, rows_exported}
use Rattle.service_exporter.specs.Routes.{route_on}
use Rattle.service_exporter.specs.declared.route.Route.{Route}
use Rattle.service_routes.specs.Routes.{exporter_of}
use Rattle.world.specs.Routing.{responses_on}
use Rattle.hub.proofs.Rows.{first-All}
use Rattle.hub_laws.specs.routing.Seen.{Routes, views_by, IsTaken, ComesBy, IsTooLong, SeenByWays, ReportedByRows}
use Rattle.hub_laws.proofs.routing.Lists.{All-filter_map, Contains-head, Contains-more, Contains-cases, Contains-filter}

-- ---- what stands there

-- a view is of the publisher's account, or a row takes the message there, or it is a response; a row that is reported would take it
abbrev IsExplained : PolicyDoc → Routes → List ℕ → List Token → ViewItem → Type 0
IsExplained doc routes account s (At into local way) = ComesBy doc routes account s into local way
IsExplained doc routes account s (TooLong row) = IsTooLong doc account s row

row-comes : (doc : PolicyDoc) (routes : Routes) (account : List ℕ) (s : List Token) (into : List ℕ) (local : List Token) (row : Row) (k : Kind) →
    IsTaken doc account s into local (way_by k row) → ComesBy doc routes account s into local (way_by k row)
row-comes doc routes account s into local row kind.Stream taken = taken
row-comes doc routes account s into local row kind.Service taken = taken

crossing-explained : (doc : PolicyDoc) (routes : Routes) (account : List ℕ) (s : List Token) → is_route s ≡ false → (r : ImportRow) → Contains (rows_of doc) r → IsExported doc.accounts r →
    IfSome (crossing account s r) (IsExplained doc routes account s)
crossing-explained doc routes account s route r has exported = by_source (bytes_eq (source_of r) account) refl
  where
    by_length : (t : List Token) (long : Bool) → source_of r ≡ account → across r s ≡ Some t → nat_lt 512 (length t) ≡ long → IsExplained doc routes account s (cond long (TooLong r.row) (At (target_of r) t (way_of r)))
    by_length t true source maps is =
        (route, (has.0, r, has.1, has.2, (refl, source, subst (λ o. IsSomeAnd o (λ u. 512 < length u)) (sym maps) (ltb-true 512 (length t) is))))
    by_length t false source maps is =
        row-comes doc routes account s (target_of r) t r.row r.kind
        (route, (has.0, r, has.1, has.2, (refl, record { source = source; target = refl; subject = maps; short = ltb-false 512 (length t) is }, exported)))

    by_mapping : (o : Option (List Token)) → source_of r ≡ account → across r s ≡ o → IfSome (option_map (crossed r) o) (IsExplained doc routes account s)
    by_mapping None source maps = tt
    by_mapping (Some t) source maps = by_length t (nat_lt 512 (length t)) source maps refl

    by_source : (b : Bool) → bytes_eq (source_of r) account ≡ b → IfSome (cond b (option_map (crossed r) (across r s)) None) (IsExplained doc routes account s)
    by_source true is = by_mapping (across r s) ((bytes_decides (source_of r) account).0 is) refl
    by_source false is = tt

rows-explained : (doc : PolicyDoc) → IsValidPolicy doc → (routes : Routes) (account : List ℕ) (s : List Token) → is_route s ≡ false → All (λ r. IfSome (crossing account s r) (IsExplained doc routes account s)) (rows_of doc)
rows-explained doc valid routes account s route k d below =
    crossing-explained doc routes account s route (get_or (rows_of doc) k d) (All-contains_itself (rows_of doc) k d below) (rows_exported doc valid k d below)

response-explained : (doc : PolicyDoc) (routes : Routes) (account : List ℕ) (s : List Token) → All (IsExplained doc routes account s) (responses_on routes account s)
response-explained doc routes account s = here (route_on s (exporter_of account routes).routes) refl
  where
    answer : Route → ViewItem
    answer r = At r.row.importer r.reply (Response r.row)

    here : (o : Option Route) → route_on s (exporter_of account routes).routes ≡ o → All (IsExplained doc routes account s) (cons_option (option_map answer o) [])
    here None is = All-nil (IsExplained doc routes account s)
    here (Some r) is =
        All-cons (IsExplained doc routes account s) (answer r) []
        (subst (λ o. IsSomeAnd o (λ (x : Route). (x.row ≡ r.row) × (r.row.importer ≡ r.row.importer) × (x.reply ≡ r.reply))) (sym is) (refl, refl, refl))
        (All-nil (IsExplained doc routes account s))

views-explained : (doc : PolicyDoc) → IsValidPolicy doc → (routes : Routes) (account : List ℕ) (s : List Token) → All (IsExplained doc routes account s) (views_by doc routes account s)
views-explained doc valid routes account s =
    first-All P (At account s Own ∷ (crossings_in (rows_of doc) account s ++ responses_on routes account s))
    (All-cons P (At account s Own) (crossings_in (rows_of doc) account s ++ responses_on routes account s) (refl, refl)
    (All-append P (crossings_in (rows_of doc) account s) (responses_on routes account s) (here (is_route s) refl) (response-explained doc routes account s)))
  where
    P : ViewItem → Type 0
    P = IsExplained doc routes account s

    here : (b : Bool) → is_route s ≡ b → All P (cond b [] (filter_map (crossing account s) (rows_of doc)))
    here true route = All-nil P
    here false route = All-filter_map P (crossing account s) (rows_of doc) (rows-explained doc valid routes account s route)

-- ---- rows that are reported

none-same : (v : ViewItem) (row : Row) → is_same v (TooLong row) ≡ false
none-same (At a t way) row = refl
none-same (TooLong other) row = refl

-- a row that is reported stays
first-reports : (vs : List ViewItem) (row : Row) → Contains vs (TooLong row) → Contains (first_of_each vs) (TooLong row)
first-reports [] row has = absurd (let below = has.1 in omega (arith, below))
first-reports (v ∷ vs) row has = here (Contains-cases v vs (TooLong row) has) (first-reports vs row)
  where
    left : List ViewItem
    left = filter (λ u. not (is_same v u)) (first_of_each vs)

    here : (v ≡ TooLong row) ⊎ Contains vs (TooLong row) → (Contains vs (TooLong row) → Contains (first_of_each vs) (TooLong row)) → Contains (v ∷ left) (TooLong row)
    here (inl same) later = subst (Contains (v ∷ left)) same (Contains-head v left)
    here (inr more) later =
        Contains-more v left (TooLong row) (Contains-filter (λ u. not (is_same v u)) (first_of_each vs) (TooLong row) (later more) (ap not (none-same v row)))

-- a row that would take the message too far is reported
crossing-long : (account : List ℕ) (s : List Token) (row : Row) (r : ImportRow) → r.row ≡ row → source_of r ≡ account → IsSomeAnd (across r s) (λ t. 512 < length t) → crossing account s r ≡ Some (TooLong row)
crossing-long account s row r same source long =
    ap (λ b. cond b (option_map (crossed r) (across r s)) None) ((bytes_decides (source_of r) account).1 source) ∙ here (across r s) long
  where
    here : (o : Option (List Token)) → IsSomeAnd o (λ t. 512 < length t) → option_map (crossed r) o ≡ Some (TooLong row)
    here None h = absurd h
    here (Some t) h = ap (λ b. Some (cond b (TooLong r.row) (At (target_of r) t (way_of r)))) (lt-ltb 512 (length t) h) ∙ ap (λ x. Some (TooLong x)) same

-- ---- the laws

pub seen_by_ways : SeenByWays
seen_by_ways doc valid routes account s into local way =
    All-contains (IsExplained doc routes account s) (views_by doc routes account s) (At into local way) (views-explained doc valid routes account s)

pub reported_by_rows : ReportedByRows
reported_by_rows doc valid routes account s row = (
  All-contains (IsExplained doc routes account s) (views_by doc routes account s) (TooLong row) (views-explained doc valid routes account s),
  (λ long. let any = long.1 in
      first-reports (At account s Own ∷ (crossings_in (rows_of doc) account s ++ responses_on routes account s)) row
      (Contains-more (At account s Own) (crossings_in (rows_of doc) account s ++ responses_on routes account s) (TooLong row)
      (Contains-append_left (crossings_in (rows_of doc) account s) (responses_on routes account s) (TooLong row)
      (subst (λ b. Contains (cond b [] (filter_map (crossing account s) (rows_of doc))) (TooLong row)) (sym long.0)
      (gives (crossing account s) (rows_of doc) (TooLong row)
      (any.0, any.1, any.2, any.3, crossing-long account s row any.1 any.4.0 any.4.1 any.4.2)))))),
)
