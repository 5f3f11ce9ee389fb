-- What one event of others changes of what tenants see: nothing.
use Rattle.std.proofs.Common.{◌≡◌, ◌∙◌, ◌≤◌, ℕ, true, List, [], ◌∷◌, get_or, map, ap, sym, refl, subst, arith, max}
use Rattle.std.specs.Prelude.{All}
use Rattle.std.proofs.lemmas.List.Elements.{All-filter, All-map, filter_passes}
use Rattle.policy_sets.specs.Sets.{IsClosed}
use Rattle.service_routes.specs.Routes.{pruned}
use Rattle.world_subscriptions.specs.Subscription.{Subscription}
use Rattle.world.specs.World.{World}
use Rattle.hub.specs.Sound.{IsSound}
use Rattle.hub_laws.specs.grants.Dropping.{with_live}
use Rattle.tenant_laws.specs.parts.Least.{exporters_on_least}
use Rattle.tenant_laws.specs.parts.Part.{exporters_of, part_of}
use Rattle.tenant_laws.proofs.parts.Least.{least_in_part}
use Rattle.tenant_laws.proofs.parts.Routes.{prunes}
use Rattle.tenant_laws.specs.worlds.Tenants.{Tenants, has_subscription, sessions_of, subscriptions_of}
use Rattle.tenant_laws.specs.worlds.Alike.{ArePaired, HaveOneId, IsOwnExporter, IsOwnSession, IsSame, Pair, first_of, second_of}
use Rattle.tenant_laws.proofs.worlds.Pairs.{mapped_twice}
use Rattle.tenant_laws.specs.Runs.{OthersAreUnseen, next_world}
use Rattle.tenant_laws.proofs.Rest.{apart}
use Rattle.tenant_laws.proofs.Following.{Follows, live_theirs, others_step, routes_live, standing_same, waiting_same}

map_itself : {X : Type 0} (xs : List X) → map (λ (x : X). x) xs ≡ xs
map_itself [] = refl
map_itself (x ∷ xs) = ap (λ l. x ∷ l) (map_itself xs)

module _ (t : Tenants) (w : World) (sound : IsSound w) (closed : IsClosed w.policy t.accounts) (own : All (IsOwnSession t) w.sessions) where
  -- what the world holds of the tenants, as a world of its own
  abbrev theirs : World
  theirs = record {
    capacity = w.capacity;
    policy = part_of t.accounts w.policy;
    epoch = w.epoch;
    moment = w.moment;
    sessions = sessions_of t w.sessions;
    subscriptions = subscriptions_of t w.subscriptions;
    routes = exporters_of t.accounts w.routes;
    number = w.number;
  }

  twins : ArePaired t w.number w.number (subscriptions_of t w.subscriptions) (subscriptions_of t w.subscriptions)
  twins =
      let twin : Subscription → Pair = λ s. (s, s) in
      let xs : List Subscription = subscriptions_of t w.subscriptions in
      record {
        pairs = map twin xs;
        first = mapped_twice twin first_of xs ∙ map_itself xs;
        second = mapped_twice twin second_of xs ∙ map_itself xs;
        same = All-map IsSame twin xs (λ k d h. refl);
        ids = All-map (λ a. All (HaveOneId a) (map twin xs)) twin xs (λ k d h. All-map (HaveOneId (twin (get_or xs k d))) twin xs (λ j e i. refl));
        within = All-map (λ (a : Pair). t.connections a.0.conn ≡ true) twin xs (filter_passes (has_subscription t) w.subscriptions);
        given = All-map (λ (a : Pair). (a.0.id ≤ w.number) × (a.1.id ≤ w.number)) twin xs
            (λ k d h. let le = All-filter (has_subscription t) (λ (s : Subscription). s.id ≤ w.number) w.subscriptions sound.numbers k d h in (le, le));
      }

  own_routes : All (IsOwnExporter t) w.routes
  own_routes =
      subst (All (IsOwnExporter t)) (ap (λ (k : ℕ). pruned k w.routes) (let e : max w.moment 0 ≡ w.moment = omega arith in e) ∙ routes_live w.moment w.routes sound.routes)
      (apart w 0 sound t closed own).routes

  follows : Follows t w theirs
  follows =
      let itself : max w.moment w.moment ≡ w.moment = omega arith in
      let there : pruned w.moment (exporters_of t.accounts w.routes) ≡ exporters_of t.accounts w.routes =
      sym (prunes t.accounts w.moment w.routes) ∙ ap (exporters_of t.accounts) (routes_live w.moment w.routes sound.routes) in
      record {
        moment = omega arith;
        part = record {
          capacity = refl;
          policy = refl;
          moment = itself;
          sessions = ap (λ (k : ℕ). map (with_live k) (sessions_of t w.sessions)) itself ∙ sym (live_theirs t w.moment w.sessions);
          subscriptions = twins;
          routes =
              ap (λ (k : ℕ). exporters_on_least (part_of t.accounts w.policy) (pruned k (exporters_of t.accounts w.routes))) itself
              ∙ ap (exporters_on_least (part_of t.accounts w.policy)) there
              ∙ sym (least_in_part t.accounts w.policy w.routes own_routes);
        };
        own = own;
      }

pub others_are_unseen : OthersAreUnseen
others_are_unseen t w h sound leaves own out =
    let p : World = theirs t w sound leaves.closed own in
    let before : Follows t w p = follows t w sound leaves.closed own in
    let after : Follows t (next_world w h) p = others_step t w p h sound leaves out before in
    (sym (waiting_same t (next_world w h) p after) ∙ waiting_same t w p before, sym (standing_same t (next_world w h) p after) ∙ standing_same t w p before)
