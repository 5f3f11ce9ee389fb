-- Routes on the least rows change as the routes do.
use Rattle.std.proofs.Common.{◌≡◌, ◌∙◌, ◌||◌, ◌+◌, ◌∷◌, [], ℕ, Bool, true, false, cond, not, List, Option, Some, None, length, filter, unwrap_or, ap, sym, refl}
use Rattle.std.specs.Prelude.{nat_lt}
use Rattle.std.specs.Map.{lookup}
use Rattle.std.specs.Option.{option_map}
use Rattle.std.specs.List.{cons_option, filter_map}
use Rattle.std.proofs.lemmas.List.{length-map, map-append}
use Rattle.indexmap.specs.IndexMap.{insert_entry}
use Rattle.subjects.specs.Subject.{Token}
use Rattle.policy_doc.specs.Accounts.{Name}
use Rattle.policy_doc.specs.declared.document.PolicyDoc.{PolicyDoc}
use Rattle.service_exporter.specs.service_subjects.Names.{is_on}
use Rattle.service_exporter.specs.Limit.{is_full}
use Rattle.service_exporter.specs.Routes.{Exporter, Numbered, ends_by, kept_of, kept_route, living, lives, no_routes, on_row, route_on, spent_of, with_route}
use Rattle.service_exporter.specs.declared.route.NewRow.{NewRow}
use Rattle.service_exporter.specs.declared.route.Route.{Route}
use Rattle.service_routes.specs.Routes.{exporter_of, kept, opened, pruned, same_name, spent}
use Rattle.service_routes.specs.service_rows.Rows.{renewed}
use Rattle.tenant_laws.specs.parts.Least.{all_on_least, exporter_on_least, exporters_on_least, index_by, least_row, on_least}
use Rattle.tenant_laws.proofs.parts.Least.{again_by_least}

module _ (doc : PolicyDoc) where
  abbrev at_least : Numbered → Numbered
  at_least r = (r.0, on_least doc r.1)

  -- a test that doesn't look at the row
  tested : (p : Numbered → Bool) → ((r : Numbered) → p (at_least r) ≡ p r) → (rs : List Numbered) → filter p (all_on_least doc rs) ≡ all_on_least doc (filter p rs)
  tested p blind [] = refl
  tested p blind (r ∷ rs) = ap (λ b. cond b (at_least r ∷ filter p (all_on_least doc rs)) (filter p (all_on_least doc rs))) (blind r) ∙ by (p r) (tested p blind rs)
    where
      by : (b : Bool) → filter p (all_on_least doc rs) ≡ all_on_least doc (filter p rs) → cond b (at_least r ∷ filter p (all_on_least doc rs)) (filter p (all_on_least doc rs)) ≡ all_on_least doc (cond b (r ∷ filter p rs) (filter p rs))
      by true later = ap (λ l. at_least r ∷ l) later
      by false later = later

  pub least_looked : (name : Name) (all : List (Name × Exporter)) → exporter_of name (exporters_on_least doc all) ≡ exporter_on_least doc (exporter_of name all)
  least_looked name [] = refl
  least_looked name (e ∷ all) = by (same_name name e.0) (least_looked name all)
    where
      by : (b : Bool) → exporter_of name (exporters_on_least doc all) ≡ exporter_on_least doc (exporter_of name all) →
          unwrap_or (cond b (Some (exporter_on_least doc e.1)) (lookup (same_name name) (exporters_on_least doc all))) no_routes ≡ exporter_on_least doc (unwrap_or (cond b (Some e.1) (lookup (same_name name) all)) no_routes)
      by true later = refl
      by false later = later

  pub least_full : (count now : ℕ) (e : Exporter) → is_full count now (exporter_on_least doc e) ≡ is_full count now e
  least_full count now e =
      ap (λ n. nat_lt 65536 (n + count) || nat_lt 18446744073709551615 (e.last + count))
      (ap length (tested (λ (r : Numbered). lives now r.1) (λ r. refl) e.routes) ∙ length-map (living now e.routes) at_least)

  pub least_route_on : (s : List Token) (rs : List Numbered) → route_on s (all_on_least doc rs) ≡ option_map (on_least doc) (route_on s rs)
  least_route_on s [] = refl
  least_route_on s (r ∷ rs) = by (is_on s r.0 r.1.word) (least_route_on s rs)
    where
      by : (b : Bool) → route_on s (all_on_least doc rs) ≡ option_map (on_least doc) (route_on s rs) → cond b (Some (on_least doc r.1)) (route_on s (all_on_least doc rs)) ≡ option_map (on_least doc) (cond b (Some r.1) (route_on s rs))
      by true later = refl
      by false later = later

  -- ---- changes

  least_put : (name : Name) (x : Exporter) (all : List (Name × Exporter)) → exporters_on_least doc (insert_entry same_name all name x) ≡ insert_entry same_name (exporters_on_least doc all) name (exporter_on_least doc x)
  least_put name x [] = refl
  least_put name x (e ∷ all) = by (same_name name e.0) (least_put name x all)
    where
      by : (b : Bool) → exporters_on_least doc (insert_entry same_name all name x) ≡ insert_entry same_name (exporters_on_least doc all) name (exporter_on_least doc x) →
          exporters_on_least doc (cond b ((e.0, x) ∷ all) (e ∷ insert_entry same_name all name x)) ≡
          cond b ((e.0, exporter_on_least doc x) ∷ exporters_on_least doc all) ((e.0, exporter_on_least doc e.1) ∷ insert_entry same_name (exporters_on_least doc all) name (exporter_on_least doc x))
      by true later = refl
      by false later = ap (λ l. (e.0, exporter_on_least doc e.1) ∷ l) later

  pub least_opened : (name : Name) (r : Route) (all : List (Name × Exporter)) → exporters_on_least doc (opened name r all) ≡ opened name (on_least doc r) (exporters_on_least doc all)
  least_opened name r all =
      let e : Exporter = exporter_of name all in
      least_put name (with_route r e) all
      ∙ ap (λ (rs : List Numbered). insert_entry same_name (exporters_on_least doc all) name (record { last = e.last + 1; routes = rs })) (map-append at_least e.routes ((e.last + 1, r) ∷ []))
      ∙ ap (λ x. insert_entry same_name (exporters_on_least doc all) name (with_route (on_least doc r) x)) (sym (least_looked name all))

  pub least_spent : (name : Name) (s : List Token) (all : List (Name × Exporter)) → exporters_on_least doc (spent name s all) ≡ spent name s (exporters_on_least doc all)
  least_spent name s [] = refl
  least_spent name s (e ∷ all) = by (same_name name e.0) (least_spent name s all)
    where
      by : (b : Bool) → exporters_on_least doc (spent name s all) ≡ spent name s (exporters_on_least doc all) →
          exporters_on_least doc (cond b ((e.0, spent_of s e.1) ∷ all) (e ∷ spent name s all)) ≡
          cond b ((e.0, spent_of s (exporter_on_least doc e.1)) ∷ exporters_on_least doc all) ((e.0, exporter_on_least doc e.1) ∷ spent name s (exporters_on_least doc all))
      by true later = ap (λ (rs : List Numbered). (e.0, record { last = e.1.last; routes = rs }) ∷ exporters_on_least doc all) (sym (tested (λ (r : Numbered). not (ends_by s r)) (λ r. refl) e.1.routes))
      by false later = ap (λ l. (e.0, exporter_on_least doc e.1) ∷ l) later

  pub least_pruned : (now : ℕ) (all : List (Name × Exporter)) → exporters_on_least doc (pruned now all) ≡ pruned now (exporters_on_least doc all)
  least_pruned now [] = refl
  least_pruned now (e ∷ all) =
      ap (λ (rs : List Numbered). (e.0, record { last = e.1.last; routes = rs }) ∷ exporters_on_least doc (pruned now all)) (sym (tested (λ (r : Numbered). lives now r.1) (λ r. refl) e.1.routes))
      ∙ ap (λ l. (e.0, record { last = e.1.last; routes = living now (all_on_least doc e.1.routes) }) ∷ l) (least_pruned now all)

  -- ---- another policy

  kept_route_least : (new : PolicyDoc) (r : Numbered) → kept_route (renewed doc new) (at_least r) ≡ kept_route (renewed doc new) r
  kept_route_least new r = ap (option_map (λ (n : NewRow). (r.0, on_row r.1 n))) (again_by_least doc new r.1.row)

  kept_routes_least : (new : PolicyDoc) (rs : List Numbered) → filter_map (kept_route (renewed doc new)) (all_on_least doc rs) ≡ filter_map (kept_route (renewed doc new)) rs
  kept_routes_least new [] = refl
  kept_routes_least new (r ∷ rs) =
      ap (λ o. cons_option o (filter_map (kept_route (renewed doc new)) (all_on_least doc rs))) (kept_route_least new r)
      ∙ ap (cons_option (kept_route (renewed doc new) r)) (kept_routes_least new rs)

  pub kept_least : (new : PolicyDoc) (all : List (Name × Exporter)) → kept (renewed doc new) (exporters_on_least doc all) ≡ kept (renewed doc new) all
  kept_least new [] = refl
  kept_least new (e ∷ all) =
      ap (λ (rs : List Numbered). (e.0, record { last = e.1.last; routes = rs }) ∷ kept (renewed doc new) (exporters_on_least doc all)) (kept_routes_least new e.1.routes)
      ∙ ap (λ l. (e.0, kept_of (renewed doc new) e.1) ∷ l) (kept_least new all)

  -- ---- twice

  route_twice : (r : Route) → on_least doc (on_least doc r) ≡ on_least doc r
  route_twice r =
      ap (λ o. record r { row = record { importer = r.row.importer; index = index_by o (least_row doc r.row).index } }) (again_by_least doc doc r.row)
      ∙ by (renewed doc doc r.row)
    where
      by : (o : Option NewRow) → ◌≡◌ {A = Route} (record r { row = record { importer = r.row.importer; index = index_by o (index_by o r.row.index) } }) (record r { row = record { importer = r.row.importer; index = index_by o r.row.index } })
      by None = refl
      by (Some new) = refl

  routes_twice : (rs : List Numbered) → all_on_least doc (all_on_least doc rs) ≡ all_on_least doc rs
  routes_twice [] = refl
  routes_twice (r ∷ rs) = ap (λ q. (r.0, q) ∷ all_on_least doc (all_on_least doc rs)) (route_twice r.1) ∙ ap (λ l. at_least r ∷ l) (routes_twice rs)

  pub least_twice : (all : List (Name × Exporter)) → exporters_on_least doc (exporters_on_least doc all) ≡ exporters_on_least doc all
  least_twice [] = refl
  least_twice (e ∷ all) =
      ap (λ (rs : List Numbered). (e.0, record { last = e.1.last; routes = rs }) ∷ exporters_on_least doc (exporters_on_least doc all)) (routes_twice e.1.routes)
      ∙ ap (λ l. (e.0, exporter_on_least doc e.1) ∷ l) (least_twice all)
