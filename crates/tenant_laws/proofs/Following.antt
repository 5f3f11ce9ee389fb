-- A world in which tenants are alone follows a world with others.
use Rattle.std.proofs.Common.{◌≡◌, ◌∙◌, ◌≢◌, ◌≤◌, ◌+◌, ℕ, Bool, true, false, cond, List, [], ◌∷◌, map, Option, Some, None, Result, Ok, Err, ap, sym, refl, subst, arith, max}
use Rattle.std.specs.Prelude.{All}
use Rattle.std.proofs.lemmas.List.Elements.{All-head, All-tail}
use Rattle.policy_doc.specs.declared.permission_doc.document.Terms.{Terms}
use Rattle.world_sessions.specs.Replies.{Table}
use Rattle.service_exporter.specs.Routes.{Exporter, Numbered, lives, living}
use Rattle.service_routes.specs.Routes.{Name, pruned}
use Rattle.service_routes.proofs.Seen.{dead}
use Rattle.events.specs.declared.event.Event.{Event}
use Rattle.events.specs.declared.answer.Outcome.{Outcome}
use Rattle.events.specs.declared.refusal.HubRefusal.{HubRefusal}
use Rattle.events.specs.declared.refusal.HubRefusal.TheVariants.{SessionLimit}
use Rattle.world_sessions.specs.deliveries.Replying.{terms_of}
use Rattle.world_sessions.specs.declared.deliveries.session.Session.{Session}
use Rattle.world.specs.World.{World, advanced}
use Rattle.world.specs.Transition.{moved, numbered, transition}
use Rattle.hub.specs.Routes.{AreRouted}
use Rattle.hub.specs.Sound.{IsSound}
use Rattle.hub_laws.specs.grants.Dropping.{AreAlike, answer_in, dropping, settled, with_live, world_after}
use Rattle.hub_laws.proofs.grants.Law.{no_difference}
use Rattle.hub_laws.proofs.grants.Tables.{live_in, live_later}
use Rattle.tenant_laws.specs.parts.Least.{exporters_on_least}
use Rattle.tenant_laws.specs.parts.Part.{exporters_of}
use Rattle.tenant_laws.proofs.parts.Routes.{prunes}
use Rattle.tenant_laws.proofs.parts.OnLeast.{least_pruned}
use Rattle.tenant_laws.specs.worlds.Tenants.{Tenants, sessions_of, subscriptions_of, unnumbered}
use Rattle.tenant_laws.specs.worlds.Answers.{part_of_command, seen_by}
use Rattle.tenant_laws.specs.worlds.Alike.{ArePaired, IsOwnSession, IsPartOf}
use Rattle.tenant_laws.specs.worlds.Laws.{AreMovedAlike, HasLeft, HasOwnSessions, IsMarked, KeepsApart}
use Rattle.tenant_laws.proofs.worlds.Pairs.{pairs_mapped}
use Rattle.tenant_laws.proofs.worlds.Staying.{sessions_stay_apart}
use Rattle.tenant_laws.proofs.worlds.Steps.{others_leave_part, own_commands_agree}
use Rattle.tenant_laws.specs.Runs.{Happening, LeavesApart, answer_seen, next_world, waiting_for}
use Rattle.tenant_laws.proofs.Rest.{all_kept, apart, upheld}

-- ---- what lives at a moment

live_table : (now before : ℕ) (terms : Option Terms) (table : Table) → before ≤ now → live_in now terms (live_in before terms table) ≡ live_in now terms table
live_table now before terms None le = refl
live_table now before terms (Some gs) le = ap (λ xs. Some xs) (live_later now before terms gs le)

-- what lives later, of what has lived or of all, is the same
live_twice : (now before : ℕ) (zs : List Session) → before ≤ now → map (with_live now) (map (with_live before) zs) ≡ map (with_live now) zs
live_twice now before [] le = refl
live_twice now before (z ∷ zs) le =
    ap (λ (t : Table). record z { replies = t } ∷ map (with_live now) (map (with_live before) zs)) (live_table now before (terms_of z) z.replies le)
    ∙ ap (λ l. with_live now z ∷ l) (live_twice now before zs le)

pub live_theirs : (t : Tenants) (now : ℕ) (zs : List Session) → sessions_of t (map (with_live now) zs) ≡ map (with_live now) (sessions_of t zs)
live_theirs t now [] = refl
live_theirs t now (z ∷ zs) = by (t.connections z.conn) (live_theirs t now zs)
  where
    by : (b : Bool) → sessions_of t (map (with_live now) zs) ≡ map (with_live now) (sessions_of t zs) →
        cond b (with_live now z ∷ sessions_of t (map (with_live now) zs)) (sessions_of t (map (with_live now) zs)) ≡ map (with_live now) (cond b (z ∷ sessions_of t zs) (sessions_of t zs))
    by true later = ap (λ l. with_live now z ∷ l) later
    by false later = later

-- of a sound world the routes live
living_all : (now : ℕ) (rs : List Numbered) → All (λ (r : Numbered). lives now r.1 ≡ true) rs → living now rs ≡ rs
living_all now rs all = all_kept (λ (r : Numbered). lives now r.1) rs all

pub routes_live : (now : ℕ) (all : List (Name × Exporter)) → All (λ (e : Name × Exporter). AreRouted now e.1) all → pruned now all ≡ all
routes_live now [] is = refl
routes_live now (e ∷ all) is =
    let routed : AreRouted now e.1 = All-head (λ (f : Name × Exporter). AreRouted now f.1) e all is in
    ap (λ (rs : List Numbered). (e.0, record { last = e.1.last; routes = rs }) ∷ pruned now all) (living_all now e.1.routes routed.living)
    ∙ ap (λ l. e ∷ l) (routes_live now all (All-tail (λ (f : Name × Exporter). AreRouted now f.1) e all is))

module _ (t : Tenants) where
  -- The second world, brought to the moment of the first, is the tenants' part of it, dead grants aside.
  pub record Follows (w p : World) : Type 0 where
    pub moment : p.moment ≤ w.moment
    pub part : IsPartOf t (settled w) (settled (advanced p w.moment))
    pub own : All (IsOwnSession t) w.sessions

  -- dead grants may be dropped on both sides
  settled_part : (w p : World) → IsPartOf t w p → IsPartOf t (settled w) (settled p)
  settled_part w p part = record {
    capacity = part.capacity;
    policy = part.policy;
    moment = part.moment;
    sessions = ap (λ (now : ℕ). map (with_live now) p.sessions) part.moment ∙ ap (map (with_live w.moment)) part.sessions ∙ sym (live_theirs t w.moment w.sessions);
    subscriptions = part.subscriptions;
    routes = part.routes;
  }

  -- the clock goes on for both
  pub go_on : (w p : World) (now : ℕ) → IsSound w → Follows w p → IsPartOf t (settled (advanced w now)) (settled (advanced p (max w.moment now)))
  go_on w p now sound follows =
      let m : ℕ = max w.moment now in
      let before : ℕ = max p.moment w.moment in
      let part : IsPartOf t (settled w) (settled (advanced p w.moment)) = follows.part in
      let le : p.moment ≤ w.moment = follows.moment in
      let after : max p.moment m ≡ m = omega (arith, le) in
      record {
        capacity = part.capacity;
        policy = part.policy;
        moment = after;
        sessions =
            ap (λ (k : ℕ). map (with_live k) p.sessions) after
            ∙ sym (live_twice m before p.sessions (omega (arith, le)))
            ∙ ap (map (with_live m)) part.sessions
            ∙ ap (map (with_live m)) (live_theirs t w.moment w.sessions)
            ∙ live_twice m w.moment (sessions_of t w.sessions) (omega arith)
            ∙ sym (live_theirs t m w.sessions);
        subscriptions = part.subscriptions;
        routes =
            ap (λ (k : ℕ). exporters_on_least p.policy (pruned k p.routes)) after
            ∙ ap (exporters_on_least p.policy) (sym (dead before m p.routes (omega (arith, le))))
            ∙ least_pruned p.policy m (pruned before p.routes)
            ∙ ap (pruned m) part.routes
            ∙ sym (prunes t.accounts m (exporters_on_least w.policy w.routes))
            ∙ ap (exporters_of t.accounts) (sym (least_pruned w.policy m w.routes));
      }

  -- ---- what is seen of both

  waiting_live : (now : ℕ) (zs : List Session) → map waiting_for (map (with_live now) zs) ≡ map waiting_for zs
  waiting_live now [] = refl
  waiting_live now (z ∷ zs) = ap (λ l. waiting_for z ∷ l) (waiting_live now zs)

  pub waiting_same : (w p : World) → Follows w p → map waiting_for p.sessions ≡ map waiting_for (sessions_of t w.sessions)
  waiting_same w p follows =
      sym (waiting_live (max p.moment w.moment) p.sessions)
      ∙ ap (map waiting_for) (follows.part.sessions ∙ live_theirs t w.moment w.sessions)
      ∙ waiting_live w.moment (sessions_of t w.sessions)

  pub standing_same : (w p : World) → Follows w p → map unnumbered p.subscriptions ≡ map unnumbered (subscriptions_of t w.subscriptions)
  standing_same w p follows =
      let P : ArePaired t w.number p.number (subscriptions_of t w.subscriptions) p.subscriptions = follows.part.subscriptions in
      sym (pairs_mapped t w.number p.number unnumbered unnumbered (subscriptions_of t w.subscriptions) p.subscriptions P P.same)

  -- ---- steps

  -- after both have moved
  moved_on : (x r s : World) → settled r ≡ settled x → IsSound x → All (IsOwnSession t) x.sessions → IsPartOf t r s → Follows x s
  moved_on x r s same sound own part =
      let moment : s.moment ≡ x.moment = part.moment ∙ ap (λ (y : World). y.moment) same in
      let after : max s.moment x.moment ≡ s.moment = omega (arith, moment) in
      let both : IsPartOf t (settled x) (settled s) = subst (λ y. IsPartOf t y (settled s)) same (settled_part r s part) in
      record {
        moment = omega (arith, moment);
        part = record {
          capacity = both.capacity;
          policy = both.policy;
          moment = after ∙ both.moment;
          sessions = ap (λ (k : ℕ). map (with_live k) s.sessions) after ∙ both.sessions;
          subscriptions = both.subscriptions;
          routes =
              ap (λ (k : ℕ). exporters_on_least s.policy (pruned k s.routes)) (after ∙ moment)
              ∙ least_pruned s.policy x.moment s.routes
              ∙ ap (pruned x.moment) both.routes
              ∙ sym (prunes t.accounts x.moment (exporters_on_least x.policy x.routes))
              ∙ ap (exporters_of t.accounts) (sym (least_pruned x.policy x.moment x.routes) ∙ ap (exporters_on_least x.policy) (routes_live x.moment x.routes sound.routes));
        };
        own = own;
      }

  -- after the first has moved, and has left their part
  left_on : (x r p : World) (now : ℕ) → settled r ≡ settled x → p.moment ≤ now → All (IsOwnSession t) x.sessions → IsPartOf t r (settled (advanced p now)) → Follows x p
  left_on x r p now same le own part =
      let moment : max p.moment now ≡ x.moment = part.moment ∙ ap (λ (y : World). y.moment) same in
      let after : max p.moment x.moment ≡ max p.moment now = omega (arith, moment, le) in
      let both : IsPartOf t (settled x) (settled (settled (advanced p now))) = subst (λ y. IsPartOf t y (settled (settled (advanced p now)))) same (settled_part r (settled (advanced p now)) part) in
      record {
        moment = omega (arith, moment, le);
        part = record {
          capacity = both.capacity;
          policy = both.policy;
          moment = after ∙ both.moment;
          sessions = ap (λ (k : ℕ). map (with_live k) p.sessions) after ∙ sym (live_twice (max p.moment now) (max p.moment now) p.sessions (omega arith)) ∙ both.sessions;
          subscriptions = both.subscriptions;
          routes = ap (λ (k : ℕ). exporters_on_least p.policy (pruned k p.routes)) after ∙ both.routes;
        };
        own = own;
      }

  own_after : (n : ℕ) (r : Result (Outcome × World) HubRefusal) → HasOwnSessions t r → HasOwnSessions t (numbered n r)
  own_after n (Ok r) own = own
  own_after n (Err e) own = tt

  sessions_after : (w : World) (h : Happening) → All (IsOwnSession t) w.sessions → KeepsApart t w.policy h.event.what → All (IsOwnSession t) (next_world w h).sessions
  sessions_after w h own keeps = by (transition w h.event) (own_after (w.number + 1) (moved (advanced w h.event.now) h.event.what) (sessions_stay_apart t (advanced w h.event.now) h.event.what own keeps))
    where
      by : (r : Result (Outcome × World) HubRefusal) → HasOwnSessions t r → All (IsOwnSession t) (world_after w r).sessions
      by (Ok r) is = is
      by (Err e) is = own

  -- An event of others, answered or refused: the second world still follows the first.
  pub others_step : (w p : World) (h : Happening) → IsSound w → LeavesApart t w h → h.own ≡ false → Follows w p → Follows (next_world w h) p
  others_step w p h sound leaves out follows =
      by (transition w h.event) (dropping w h.event) (no_difference w w h.event sound refl)
      (others_leave_part t (settled (advanced w h.event.now)) (settled (advanced p (max w.moment h.event.now))) h.event.what (go_on w p h.event.now sound follows)
      (apart w h.event.now sound t leaves.closed follows.own) (upheld w h.event.now sound)
      (subst (λ b. IsMarked t w.policy b h.event.what) out leaves.marked) leaves.apart)
      (sessions_after w h follows.own leaves.apart)
    where
      by : (x r : Result (Outcome × World) HubRefusal) → AreAlike x r → HasLeft t (settled (advanced p (max w.moment h.event.now))) r → All (IsOwnSession t) (world_after w x).sessions → Follows (world_after w x) p
      by (Ok x) (Ok r) alike left own = left_on x.1 r.1 p (max w.moment h.event.now) alike.1 (let le = follows.moment in omega (arith, le)) own left
      by (Err a) (Err b) alike left own = follows
      by (Ok x) (Err b) alike left own = absurd alike
      by (Err a) (Ok r) alike left own = absurd alike

  -- the event as the tenants ask it
  abbrev pub asked_event : World → Happening → Event
  asked_event w h = record { now = max w.moment h.event.now; what = part_of_command t h.event.what }

  -- both are answered the same, and the second world follows on
  pub record StepsAlong (w : World) (h : Happening) (p : World) : Type 0 where
    pub answer : answer_seen t (answer_in (dropping p (asked_event w h))) ≡ answer_seen t (answer_in (transition w h.event))
    pub follows : Follows (next_world w h) (world_after p (dropping p (asked_event w h)))

  pub own_step : (w p : World) (h : Happening) → IsSound w → LeavesApart t w h → h.own ≡ true → IsSound (next_world w h) → Follows w p → StepsAlong w h p
  own_step w p h sound leaves is after follows =
      both (transition w h.event) refl (dropping w h.event) refl (dropping p (asked_event w h)) refl
    where
      alike : AreAlike (transition w h.event) (dropping w h.event)
      alike = no_difference w w h.event sound refl

      not_full : moved (settled (advanced w h.event.now)) h.event.what ≢ Err SessionLimit
      not_full full = leaves.room is (by (transition w h.event) (subst (AreAlike (transition w h.event)) (ap (numbered (w.number + 1)) full) alike))
        where
          by : (x : Result (Outcome × World) HubRefusal) → AreAlike x (Err SessionLimit) → x ≡ Err SessionLimit
          by (Ok x) never = absurd never
          by (Err a) same = ap (λ e. Err e) same

      moved_alike : AreMovedAlike t (dropping w h.event) (dropping p (asked_event w h))
      moved_alike =
          own_commands_agree t (settled (advanced w h.event.now)) (settled (advanced p (max w.moment h.event.now))) h.event.what (go_on w p h.event.now sound follows)
          (apart w h.event.now sound t leaves.closed follows.own) (subst (λ b. IsMarked t w.policy b h.event.what) is leaves.marked) leaves.apart not_full

      own : All (IsOwnSession t) (next_world w h).sessions
      own = sessions_after w h follows.own leaves.apart

      both : (x : Result (Outcome × World) HubRefusal) → transition w h.event ≡ x → (r : Result (Outcome × World) HubRefusal) → dropping w h.event ≡ r → (s : Result (Outcome × World) HubRefusal) → dropping p (asked_event w h) ≡ s → StepsAlong w h p
      both x ex r er s es =
          let same : AreAlike x r = subst (λ y. AreAlike y r) ex (subst (AreAlike (transition w h.event)) er alike) in
          let agree : AreMovedAlike t r s = subst (λ y. AreMovedAlike t y s) er (subst (AreMovedAlike t (dropping w h.event)) es moved_alike) in
          let sound : IsSound (world_after w x) = subst (λ y. IsSound (world_after w y)) ex after in
          let owned : All (IsOwnSession t) (world_after w x).sessions = subst (λ y. All (IsOwnSession t) (world_after w y).sessions) ex own in
          let step : (answer_seen t (answer_in s) ≡ answer_seen t (answer_in x)) × Follows (world_after w x) (world_after p s) = by x r s same agree sound owned in
          record {
            answer = ap (λ y. answer_seen t (answer_in y)) es ∙ step.0 ∙ ap (λ y. answer_seen t (answer_in y)) (sym ex);
            follows = subst (λ y. Follows (world_after w y) (world_after p (dropping p (asked_event w h)))) (sym ex) (subst (λ y. Follows (world_after w x) (world_after p y)) (sym es) step.1);
          }
        where
          by : (x r s : Result (Outcome × World) HubRefusal) → AreAlike x r → AreMovedAlike t r s → IsSound (world_after w x) → All (IsOwnSession t) (world_after w x).sessions →
              (answer_seen t (answer_in s) ≡ answer_seen t (answer_in x)) × Follows (world_after w x) (world_after p s)
          by (Ok x) (Ok r) (Ok s) same agree sound owned = (ap (λ o. Ok o) (agree.0 ∙ ap (seen_by t) (sym same.0)), moved_on x.1 r.1 s.1 same.1 sound owned agree.1)
          by (Err a) (Err b) (Err c) same agree sound owned = (ap (λ e. Err e) (agree ∙ sym same), follows)
          by (Ok x) (Err b) s same agree sound owned = absurd same
          by (Err a) (Ok r) s same agree sound owned = absurd same
          by (Ok x) (Ok r) (Err c) same agree sound owned = absurd agree
          by (Err a) (Err b) (Ok s) same agree sound owned = absurd agree
