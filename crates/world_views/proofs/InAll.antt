-- A message in all its views: its own account's first, and then the others: none, those across rows, or that of the account that has
-- asked.
use Rattle.std.proofs.Common.{◌≡◌, ◌∙◌, ◌==◌, List, [], Option, None, true, false, length, ap, sym, subst}
use Rattle.subjects.specs.Subject.{Token}
use Rattle.events.specs.declared.answer.Addressed.{Addressed}
use Rattle.policy_ready.specs.imports.Views.{is_route, rows_of}
use Rattle.policy_ready.specs.declared.imports.rows.ImportRow.{ImportRow}
use Rattle.policy_ready.specs.declared.imports.view.ViewItem.{ViewItem}
use Rattle.service_exporter.specs.Routes.{Exporter, route_on}
use Rattle.service_routes.specs.Routes.{Name, exporter_of, pruned, spent}
use Rattle.receivers.specs.views.CachedViews.{others_in, others_with}
use Rattle.world_views.specs.addressing.Standing.{addressed_behind_in}
use Rattle.world_views.specs.Changing.{opened_each}
use Rattle.world_views.specs.Requests.{responses_on}
use Rattle.world_views.specs.Viewing.{Tables, Publication, Addressing, addressing, addressed_after, reports_after, reports_in, routes_after, AreAddressed, AreNotedIn}
use Rattle.world_views.specs.declared.across.Told.{Told}
use Rattle.world_views.specs.declared.changing.Opening.{Opening}
use Rattle.world_views.specs.declared.viewing.Report.{Report}
use Rattle.world_views.proofs.InTurn.{spent_elsewhere, spent_none}
use Rattle.world_views.proofs.Seeing.{across_none, across_route, are_response, no_response, no_response_elsewhere, response_opens_none, response_unreported}

module _ (t : Tables) (p : Publication) where
  abbrev account : Name
  account = p.publisher.user.account

  abbrev s : List Token
  s = p.message.subject

  abbrev responses : List ViewItem
  responses = responses_on t.routes account s

  abbrev others : List ViewItem
  others = others_with (rows_of t.policy) responses account s

  -- the deliveries in its own account
  abbrev pub own : List Addressed
  own = addressed_behind_in t.sessions t.subscriptions [] p.publisher p.message p.word account

  -- what it is addressed to behind them, and which rows are reported
  abbrev pub behind : List ViewItem → Addressing
  behind vs = addressed_after t p (addressing own []) vs

  abbrev pub reported : List ViewItem → List Report
  reported vs = reports_after t p (addressing own []) vs

  -- what becomes of routes
  abbrev pub changed : List ViewItem → List (Name × Exporter)
  changed vs = spent account s (opened_each (behind vs).openings t.routes)

  -- without rows and routes there is no other view
  module _ (lent : List ImportRow) (exporters : List (Name × Exporter)) (same : lent ≡ rows_of t.policy) (standing : t.routes ≡ pruned t.now exporters) (alone : ((length lent == 0) ≡ true) × (exporters ≡ [])) where
    none : route_on s (exporter_of account t.routes).routes ≡ None
    none = ap (λ (all : List (Name × Exporter)). route_on s (exporter_of account all).routes) (standing ∙ ap (pruned t.now) alone.1)

    no_others : others ≡ []
    no_others =
        ap (λ (rs : List ViewItem). others_with (rows_of t.policy) rs account s) (no_response t.routes account s none)
        ∙ across_none (rows_of t.policy) account s (subst (λ (rows : List ImportRow). (length rows == 0) ≡ true) same alone.0)

    pub own_alone : (all : List Addressed) → all ≡ own → AreAddressed t p all None
    own_alone all is = record {
      all = is ∙ ap (λ (vs : List ViewItem). (behind vs).deliveries) (sym no_others);
      reports = ap reported (sym no_others);
      changed = sym (spent_none account s t.routes none) ∙ ap changed (sym no_others);
      noted = tt;
    }

  -- on the subject of a route the other view is that of the account that has asked
  module _ (is_on : is_route s ≡ true) where
    abbrev pub asker : List ViewItem
    asker = others_with [] responses account s

    one_other : others ≡ asker
    one_other = across_route (rows_of t.policy) responses account s is_on

    pub on_route : (all : List Addressed) (told : Option Told) → all ≡ (behind asker).deliveries → reports_in told ≡ [] → routes_after told t.routes ≡ spent account s t.routes
        → AreNotedIn t.now told → AreAddressed t p all told
    on_route all told is none routes noted = record {
      all = is ∙ ap (λ (vs : List ViewItem). (behind vs).deliveries) (sym one_other);
      reports = none ∙ sym (response_unreported t p (addressing own []) responses account s (are_response t.routes account s)) ∙ ap reported (sym one_other);
      changed = routes
          ∙ ap (λ (os : List Opening). spent account s (opened_each os t.routes))
          (sym (response_opens_none t p own responses account s (are_response t.routes account s)) ∙ ap (λ (vs : List ViewItem). (behind vs).openings) (sym one_other));
      noted = noted;
    }

  -- elsewhere they are those across rows
  module _ (elsewhere : is_route s ≡ false) where
    abbrev pub importers : List ViewItem
    importers = others_in (rows_of t.policy) account s

    some_others : others ≡ importers
    some_others = ap (λ (rs : List ViewItem). others_with (rows_of t.policy) rs account s) (no_response_elsewhere t.routes account s elsewhere)

    pub across : (all : List Addressed) (told : Option Told) → all ≡ (behind importers).deliveries → reports_in told ≡ reported importers
        → routes_after told t.routes ≡ opened_each (behind importers).openings t.routes → AreNotedIn t.now told → AreAddressed t p all told
    across all told is reports routes noted = record {
      all = is ∙ ap (λ (vs : List ViewItem). (behind vs).deliveries) (sym some_others);
      reports = reports ∙ ap reported (sym some_others);
      changed = routes
          ∙ ap (λ (vs : List ViewItem). opened_each (behind vs).openings t.routes) (sym some_others)
          ∙ sym (spent_elsewhere account s (opened_each (behind others).openings t.routes) elsewhere);
      noted = noted;
    }
