-- A message stays within the closed sets of its account.
use Rattle.std.proofs.Common.{◌≡◌, ◌∙◌, ℕ, ◌+◌, Bool, true, false, List, [], ◌∷◌, get_or, Option, Some, None, cond, ap, sym, refl, subst}
use Rattle.std.specs.Prelude.{All, Contains, IsSomeAnd, find, slice_get}
use Rattle.std.specs.Cmp.Lexicographic.{bytes_decides}
use Rattle.std.specs.Option.{option_and_then}
use Rattle.std.proofs.lemmas.Map.Text.{is_eq-slice_cmp}
use Rattle.std.proofs.lemmas.List.Elements.{All-contains, All-contains_itself, All-head, All-tail}
use Rattle.subjects.specs.Subject.{Token}
use Rattle.policy_doc.specs.declared.exports.document.Kind.{Kind}
use Rattle.policy_doc.specs.declared.exports.document.Kind.TheVariants as kind
use Rattle.policy_doc.specs.declared.exports.document.Row.{Row}
use Rattle.policy_doc.specs.Accounts.{Name, has_name}
use Rattle.policy_doc.specs.declared.document.ImportDoc.{ImportDoc}
use Rattle.policy_doc.specs.declared.document.NamedAccount.{NamedAccount}
use Rattle.policy_doc.specs.declared.document.PolicyDoc.{PolicyDoc}
use Rattle.policy_sets.specs.Sets.{Ends, ends_at, ends_in, ends_of, IsClosed}
use Rattle.policy_ready.specs.declared.ready.User.{User}
use Rattle.policy_ready.specs.imports.Across.{first_by, last_by, source_of, way_by}
use Rattle.policy_ready.specs.imports.Views.{rows_in, rows_of, row_at}
use Rattle.policy_ready.specs.declared.imports.rows.ImportRow.{ImportRow}
use Rattle.policy_ready.specs.declared.imports.view.Way.{Way}
use Rattle.policy_ready.specs.declared.imports.view.Way.TheVariants.{Own, Stream, Service, Response}
use Rattle.service_exporter.specs.service_subjects.Names.{is_on}
use Rattle.service_exporter.specs.Routes.{Numbered, route_on}
use Rattle.service_exporter.specs.declared.route.Route.{Route}
use Rattle.service_routes.specs.Routes.{exporter_of}
use Rattle.world.specs.World.{World}
use Rattle.hub.specs.Routes.{EachRoute, IsOfRow}
use Rattle.hub.specs.Sound.{user_at}
use Rattle.hub.proofs.Rows.{All-flat_map, each-of, each-pruned, each-weaker, rows_from-are}
use Rattle.hub_laws.specs.routing.Seen.{Routes, IsReported, IsRequested, IsTaken, ComesBy}
use Rattle.hub_laws.specs.routing.Reach.{HasView, IsOfAccount, IsToOne, IsDeliveryToOne, live_routes}
use Rattle.hub_laws.specs.routing.Within.{IsWithin, RoutesWithin, SeenWithin, IsOfSet, ReachesItsSet}
use Rattle.hub_laws.proofs.routing.Lists.{from_some, found, Contains-at, Contains-map, Contains-flat_map}
use Rattle.hub_laws.proofs.routing.Seen.{seen_by_ways, reported_by_rows}
use Rattle.hub_laws.proofs.routing.Reaching.{weaker, told_weaker, new_weaker, reaches_its_views}

-- a row has both its ends in a closed set, or both outside
abbrev HasEndsIn : (Name → Bool) → ImportRow → Type 0
HasEndsIn K r = K r.row.importer ≡ K r.exporter

rows-within : (doc : PolicyDoc) (K : Name → Bool) → IsClosed doc K → All (HasEndsIn K) (rows_of doc)
rows-within doc K closed =
    All-flat_map (HasEndsIn K) rows_in doc.accounts
    (λ j d below. let a : NamedAccount = get_or doc.accounts j d in
    rows_from-are (HasEndsIn K) a.name 0 a.account.imports (λ k i at. each a (All-contains_itself doc.accounts j d below) k i at))
  where
    each : (a : NamedAccount) → Contains doc.accounts a → (k : ℕ) (i : ImportDoc) → slice_get a.account.imports k ≡ Some i → HasEndsIn K (row_at a.name (0 + k) i)
    each a has k i at =
        All-contains (λ (ends : Ends). K ends.importer ≡ K ends.exporter) (ends_of doc.accounts) (ends_at a.name i) closed
        (Contains-flat_map ends_in doc.accounts a (ends_at a.name i) has (Contains-map (ends_at a.name) a.account.imports i (Contains-at a.account.imports k i at)))

-- so what crosses it stays there, as does its importer
beyond-within : (K : Name → Bool) (k : Kind) (exporter importer account into : Name) → K importer ≡ K exporter → first_by k exporter importer ≡ account → last_by k exporter importer ≡ into → K into ≡ K account
beyond-within K kind.Stream exporter importer account into ends source target = sym (ap K target) ∙ ends ∙ ap K source
beyond-within K kind.Service exporter importer account into ends source target = sym (ap K target) ∙ sym ends ∙ ap K source

importer-within : (K : Name → Bool) (k : Kind) (exporter importer account : Name) → K importer ≡ K exporter → first_by k exporter importer ≡ account → K importer ≡ K account
importer-within K kind.Stream exporter importer account ends source = ends ∙ ap K source
importer-within K kind.Service exporter importer account ends source = ap K source

-- a response is on one of the exporter's routes
route_on-All : (P : Route → Type 0) (s : List Token) (rs : List Numbered) → All (λ (r : Numbered). P r.1) rs → (Q : Route → Type 0) → IsSomeAnd (route_on s rs) Q → (r : Route) × P r × Q r
route_on-All P s [] all Q h = absurd h
route_on-All P s (x ∷ rs) all Q h =
    here (is_on s x.0 x.1.word) h (route_on-All P s rs (All-tail (λ (r : Numbered). P r.1) x rs all) Q)
  where
    here : (b : Bool) → IsSomeAnd (cond b (Some x.1) (route_on s rs)) Q → (IsSomeAnd (route_on s rs) Q → (r : Route) × P r × Q r) → (r : Route) × P r × Q r
    here true h later = (x.1, All-head (λ (r : Numbered). P r.1) x rs all, h)
    here false h later = later h

module _ (doc : PolicyDoc) (K : Name → Bool) (closed : IsClosed doc K) where
  taken-within : (account : Name) (s : List Token) (into : Name) (local : List Token) (way : Way) → IsTaken doc account s into local way → K into ≡ K account
  taken-within account s into local way taken =
      let any = taken.1 in
      let r : ImportRow = any.1 in
      let ends : HasEndsIn K r = subst (HasEndsIn K) any.3 (rows-within doc K closed any.0 r any.2) in
      beyond-within K r.kind r.exporter r.row.importer account into ends any.4.1.source any.4.1.target

  pub requested-within : (account : Name) (s : List Token) (into : Name) (local : List Token) (row : Row) → IsTaken doc account s into local (Service row) → K row.importer ≡ K account
  requested-within account s into local row taken =
      let any = taken.1 in
      let r : ImportRow = any.1 in
      let ends : HasEndsIn K r = subst (HasEndsIn K) any.3 (rows-within doc K closed any.0 r any.2) in
      ap (λ (x : Row). K x.importer) (sym (own r.kind r.row any.4.0)) ∙ importer-within K r.kind r.exporter r.row.importer account ends any.4.1.source
    where
      own : (k : Kind) (x : Row) → way_by k x ≡ Service row → x ≡ row
      own kind.Stream x is = absurd (cc)
      own kind.Service x is = cc

  pub long-within : (account : Name) (r : ImportRow) (row : Row) → r.row ≡ row → source_of r ≡ account → HasEndsIn K r → K row.importer ≡ K account
  long-within account r row same source ends = ap (λ (x : Row). K x.importer) (sym same) ∙ importer-within K r.kind r.exporter r.row.importer account ends source

  comes-within : (routes : Routes) → EachRoute (IsWithin K) routes → (account : Name) (s : List Token) (into : Name) (local : List Token) (way : Way) → ComesBy doc routes account s into local way → K into ≡ K account
  comes-within routes within account s into local Own own = ap K own.0
  comes-within routes within account s into local (Stream row) taken = taken-within account s into local (Stream row) taken
  comes-within routes within account s into local (Service row) taken = taken-within account s into local (Service row) taken
  comes-within routes within account s into local (Response row) answered =
      let it = route_on-All (λ (r : Route). K r.row.importer ≡ K account) s (exporter_of account routes).routes (each-of (IsWithin K) account routes within) (λ (r : Route). (r.row ≡ row) × (row.importer ≡ into) × (r.reply ≡ local)) answered in
      sym (ap K it.2.1) ∙ sym (ap (λ (x : Row). K x.importer) it.2.0) ∙ it.1

  -- a response route is for a row of the policy
  route-within : (exporter : Name) (r : Numbered) → IsOfRow doc exporter r → IsWithin K exporter r
  route-within exporter r of = by_import (find (has_name importer) doc.accounts) refl of.row
    where
      importer : Name
      importer = r.1.row.importer

      by_row : (a : NamedAccount) (o : Option ImportDoc) → find (has_name importer) doc.accounts ≡ Some a → slice_get a.account.imports r.1.row.index ≡ o → IsSomeAnd o (λ (i : ImportDoc). (i.kind ≡ kind.Service) × (i.account ≡ exporter)) → K importer ≡ K exporter
      by_row a None at place it = absurd it
      by_row a (Some i) at place it =
          let of_name = found (has_name importer) doc.accounts a at in
          let same : a.name ≡ importer = (bytes_decides a.name importer).0 (sym (is_eq-slice_cmp a.name importer) ∙ of_name.1) in
          ap K (sym same)
          ∙ All-contains (λ (ends : Ends). K ends.importer ≡ K ends.exporter) (ends_of doc.accounts) (ends_at a.name i) closed
          (Contains-flat_map ends_in doc.accounts a (ends_at a.name i) of_name.0 (Contains-map (ends_at a.name) a.account.imports i (Contains-at a.account.imports r.1.row.index i place)))
          ∙ ap K it.1

      by_import : (o : Option NamedAccount) → find (has_name importer) doc.accounts ≡ o → IsSomeAnd (option_and_then (λ (a : NamedAccount). slice_get a.account.imports r.1.row.index) o) (λ (i : ImportDoc). (i.kind ≡ kind.Service) × (i.account ≡ exporter)) → K importer ≡ K exporter
      by_import None at it = absurd it
      by_import (Some a) at it = by_row a (slice_get a.account.imports r.1.row.index) at refl it

pub routes_within : RoutesWithin
routes_within w sound K closed = each-weaker (IsOfRow w.policy) (IsWithin K) (λ exporter r of. route-within w.policy K closed exporter r of) w.routes sound.rows

pub seen_within : SeenWithin
seen_within doc valid K closed routes within account s into local way has =
    comes-within doc K closed routes within account s into local way (seen_by_ways doc valid routes account s into local way has)

of_set : (w : World) (K : Name → Bool) (account into : Name) (to : ℕ) → K account ≡ true → K into ≡ K account → IsOfAccount w into to → IsOfSet w K to
of_set w K account into to has same is = from_some (λ (u : User). u.account ≡ into) (λ (u : User). K u.account ≡ true) (user_at w to) (λ u _ at. ap K at ∙ same ∙ has) is

pub reaches_its_set : ReachesItsSet
reaches_its_set = weaker _ _ (λ w after conn u m items sound reaches K closed has. let routes = live_routes w after in let valid = sound.policy in
    let within : EachRoute (IsWithin K) routes = each-pruned (IsWithin K) after.moment w.routes (routes_within w sound K closed) in record {
      told = told_weaker (λ to sid. IsToOne (HasView w.policy routes u.account m.subject) w to) _ (IsReported w.policy routes u.account m.subject) _ (IsRequested w.policy routes u.account m.subject) _
          (λ to sid is. of_set w K u.account is.0 to has (seen_within w.policy valid K closed routes within u.account m.subject is.0 is.1 is.2 is.3) is.4)
          (λ row is. let any = ((reported_by_rows w.policy valid routes u.account m.subject row).0 is).1 in
          long-within w.policy K closed u.account any.1 row any.4.0 any.4.1 (subst (HasEndsIn K) any.3 (rows-within w.policy K closed any.0 any.1 any.2)) ∙ has)
          (λ row is. requested-within w.policy K closed u.account m.subject is.0 is.1 row (seen_by_ways w.policy valid routes u.account m.subject is.0 is.1 (Service row) is.2) ∙ has) items reaches.told;
      sent = new_weaker (IsDeliveryToOne (HasView w.policy routes u.account m.subject) w m) _ w.sessions after.sessions
          (λ to d is. of_set w K u.account is.0 to has (seen_within w.policy valid K closed routes within u.account m.subject is.0 is.1 is.2 is.3) is.4) reaches.sent;
    }) reaches_its_views
