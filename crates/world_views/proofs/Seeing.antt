-- All views of a message: its publisher's own is the first, and the others are those across rows, or the response that it is.
use Rattle.std.proofs.Common.{◌≡◌, ◌∙◌, ◌==◌, ◌++◌, ◌∷◌, Bool, true, false, cond, not, List, [], Option, Some, None, length, filter, ap, sym, refl, arith}
use Rattle.std.proofs.lemmas.Bool.{eqb-true}
use Rattle.std.specs.List.{cons_option, filter_map}
use Rattle.std.specs.Option.{option_map}
use Rattle.subjects.specs.Subject.{Token}
use Rattle.events.specs.declared.answer.Addressed.{Addressed}
use Rattle.policy_ready.specs.imports.Across.{crossing}
use Rattle.policy_ready.specs.imports.Views.{first_of_each, is_route, is_same}
use Rattle.policy_ready.specs.declared.imports.rows.ImportRow.{ImportRow}
use Rattle.policy_ready.specs.declared.imports.view.ViewItem.{ViewItem}
use Rattle.policy_ready.specs.declared.imports.view.ViewItem.TheVariants.{At, TooLong}
use Rattle.policy_ready.specs.declared.imports.view.Way.TheVariants.{Own, Stream, Service, Response}
use Rattle.service_exporter.specs.Routes.{Exporter, route_on}
use Rattle.service_exporter.specs.declared.route.Route.{Route}
use Rattle.service_routes.specs.Routes.{Name, exporter_of}
use Rattle.receivers.specs.views.CachedViews.{others_in, others_with}
use Rattle.world_views.specs.addressing.Standing.{addressed_behind_in}
use Rattle.world_views.specs.Requests.{response_by, responses_on}
use Rattle.world_views.specs.Viewing.{Tables, Publication, Addressing, addressing, addressed_after, reports_after, seen_with}
use Rattle.world_views.proofs.InTurn.{routes_elsewhere}

-- ---- responses

-- a message without a route is no response
pub no_response : (routes : List (Name × Exporter)) (account : Name) (s : List Token) → route_on s (exporter_of account routes).routes ≡ None → responses_on routes account s ≡ []
no_response routes account s none = ap (λ (o : Option Route). cons_option (option_map response_by o) []) none

pub no_response_elsewhere : (routes : List (Name × Exporter)) (account : Name) (s : List Token) → is_route s ≡ false → responses_on routes account s ≡ []
no_response_elsewhere routes account s other = no_response routes account s (routes_elsewhere s (exporter_of account routes).routes other)

-- with one it is that
pub one_response : (routes : List (Name × Exporter)) (account : Name) (s : List Token) (r : Route) → Some r ≡ route_on s (exporter_of account routes).routes → responses_on routes account s ≡ response_by r ∷ []
one_response routes account s r found = ap (λ (o : Option Route). cons_option (option_map response_by o) []) (sym found)

-- responses are one, or none
abbrev pub IsResponse : List ViewItem → Type 0
IsResponse [] = Unit {0}
IsResponse (At b u (Response row) ∷ []) = Unit {0}
IsResponse (At b u (Response row) ∷ (v ∷ vs)) = ⊥
IsResponse (At b u Own ∷ vs) = ⊥
IsResponse (At b u (Stream row) ∷ vs) = ⊥
IsResponse (At b u (Service row) ∷ vs) = ⊥
IsResponse (TooLong row ∷ vs) = ⊥

-- ---- rows

-- without rows there are no views across them
pub across_none : (rows : List ImportRow) (account : Name) (s : List Token) → (length rows == 0) ≡ true → others_in rows account s ≡ []
across_none [] account s none = here (is_route s)
  where
    here : (b : Bool) → filter (λ (v : ViewItem). not (is_same (At account s Own) v)) (first_of_each (cond b [] [] ++ [])) ≡ []
    here true = refl
    here false = refl
across_none (r ∷ rows) account s none = absurd (let e = eqb-true (length (r ∷ rows)) 0 none in omega (arith, e))

-- a response crosses none
pub across_route : (rows : List ImportRow) (responses : List ViewItem) (account : Name) (s : List Token) → is_route s ≡ true → others_with rows responses account s ≡ others_with [] responses account s
across_route rows responses account s is =
    ap (λ b. filter (λ (v : ViewItem). not (is_same (At account s Own) v)) (first_of_each (cond b [] (filter_map (crossing account s) rows) ++ responses))) is
    ∙ sym (ap (λ b. filter (λ (v : ViewItem). not (is_same (At account s Own) v)) (first_of_each (cond b [] [] ++ responses))) is)

-- the views behind a response's own: that of the account that has asked, unless it is the own one
pub others_none : (account : Name) (s : List Token) → others_with [] [] account s ≡ []
others_none account s = across_none [] account s refl

only_one : (account : Name) (s : List Token) (v : ViewItem) → others_with [] (v ∷ []) account s ≡ cond (is_same (At account s Own) v) [] (v ∷ [])
only_one account s v = here (is_route s)
  where
    tested : (b : Bool) → cond (not b) (v ∷ []) [] ≡ cond b [] (v ∷ [])
    tested true = refl
    tested false = refl

    here : (b : Bool) → filter (λ (u : ViewItem). not (is_same (At account s Own) u)) (first_of_each (cond b [] [] ++ v ∷ [])) ≡ cond (is_same (At account s Own) v) [] (v ∷ [])
    here true = tested (is_same (At account s Own) v)
    here false = tested (is_same (At account s Own) v)

pub others_one : (account : Name) (s : List Token) (r : Route) → others_with [] (response_by r ∷ []) account s ≡ cond (is_same (At account s Own) (response_by r)) [] (response_by r ∷ [])
others_one account s r = only_one account s (response_by r)

-- what is addressed in it behind others
pub response_addressed : (t : Tables) (p : Publication) (ds : List Addressed) (s : List Token) (r : Route) →
    (addressed_after t p (addressing ds []) (others_with [] (response_by r ∷ []) p.publisher.user.account s)).deliveries
    ≡ cond (is_same (At p.publisher.user.account s Own) (response_by r)) ds
    (ds ++ addressed_behind_in t.sessions t.subscriptions ds p.publisher (seen_with r.reply None p.message) p.word r.row.importer)
response_addressed t p ds s r =
    ap (λ (vs : List ViewItem). (addressed_after t p (addressing ds []) vs).deliveries) (others_one p.publisher.user.account s r)
    ∙ here (is_same (At p.publisher.user.account s Own) (response_by r))
  where
    here : (b : Bool) → (addressed_after t p (addressing ds []) (cond b [] (response_by r ∷ []))).deliveries
        ≡ cond b ds (ds ++ addressed_behind_in t.sessions t.subscriptions ds p.publisher (seen_with r.reply None p.message) p.word r.row.importer)
    here true = refl
    here false = refl

-- nothing is reported there, and no route is opened
pub response_unreported : (t : Tables) (p : Publication) (a : Addressing) (rs : List ViewItem) (account : Name) (s : List Token) → IsResponse rs →
    reports_after t p a (others_with [] rs account s) ≡ []
response_unreported t p a [] account s is = ap (reports_after t p a) (others_none account s)
response_unreported t p a (TooLong row ∷ rs) account s is = absurd is
response_unreported t p a (At b u Own ∷ rs) account s is = absurd is
response_unreported t p a (At b u (Stream row) ∷ rs) account s is = absurd is
response_unreported t p a (At b u (Service row) ∷ rs) account s is = absurd is
response_unreported t p a (At b u (Response row) ∷ (v ∷ rs)) account s is = absurd is
response_unreported t p a (At b u (Response row) ∷ []) account s is = ap (reports_after t p a) (only_one account s (At b u (Response row))) ∙ here (is_same (At account s Own) (At b u (Response row)))
  where
    here : (c : Bool) → reports_after t p a (cond c [] (At b u (Response row) ∷ [])) ≡ []
    here true = refl
    here false = refl

pub response_opens_none : (t : Tables) (p : Publication) (ds : List Addressed) (rs : List ViewItem) (account : Name) (s : List Token) → IsResponse rs →
    (addressed_after t p (addressing ds []) (others_with [] rs account s)).openings ≡ []
response_opens_none t p ds [] account s is = ap (λ (vs : List ViewItem). (addressed_after t p (addressing ds []) vs).openings) (others_none account s)
response_opens_none t p ds (TooLong row ∷ rs) account s is = absurd is
response_opens_none t p ds (At b u Own ∷ rs) account s is = absurd is
response_opens_none t p ds (At b u (Stream row) ∷ rs) account s is = absurd is
response_opens_none t p ds (At b u (Service row) ∷ rs) account s is = absurd is
response_opens_none t p ds (At b u (Response row) ∷ (v ∷ rs)) account s is = absurd is
response_opens_none t p ds (At b u (Response row) ∷ []) account s is =
    ap (λ (vs : List ViewItem). (addressed_after t p (addressing ds []) vs).openings) (only_one account s (At b u (Response row))) ∙ here (is_same (At account s Own) (At b u (Response row)))
  where
    here : (c : Bool) → (addressed_after t p (addressing ds []) (cond c [] (At b u (Response row) ∷ []))).openings ≡ []
    here true = refl
    here false = refl

-- an account's responses to a subject are that or none
pub are_response : (routes : List (Name × Exporter)) (account : Name) (s : List Token) → IsResponse (responses_on routes account s)
are_response routes account s = here (route_on s (exporter_of account routes).routes)
  where
    here : (o : Option Route) → IsResponse (cons_option (option_map response_by o) [])
    here None = tt
    here (Some r) = tt
