-- Runs of two servers that do the same for a set of tenants.
use Rattle.std.proofs.Common.{◌≡◌, ◌∙◌, ◌≤◌, ℕ, Bool, true, false, cond, List, [], ◌∷◌, map, Result, ap, sym, refl, arith}
use Rattle.std.specs.Prelude.{All}
use Rattle.std.proofs.lemmas.List.Elements.{All-nil}
use Rattle.policy_doc.specs.declared.document.PolicyDoc.{PolicyDoc}
use Rattle.events.specs.declared.event.Event.{Event}
use Rattle.events.specs.declared.answer.Outcome.{Outcome}
use Rattle.events.specs.declared.refusal.HubRefusal.{HubRefusal}
use Rattle.world_subscriptions.specs.Subscription.{Subscription}
use Rattle.world.specs.World.{World, opening_world}
use Rattle.world.specs.Transition.{transition}
use Rattle.hub.specs.Sound.{IsSound}
use Rattle.hub_laws.specs.grants.Dropping.{answer_in, dropping, world_after}
use Rattle.tenant_laws.specs.parts.Part.{part_of}
use Rattle.tenant_laws.specs.worlds.Tenants.{Tenants, subscriptions_of, unnumbered}
use Rattle.tenant_laws.specs.worlds.Alike.{HaveOneId, IsOwnSession, IsSame, Pair}
use Rattle.tenant_laws.specs.Runs.{Happening, LeaveApart, Meeting, TenantsAreIsolated, Waiting, answer_seen, asked, meeting, met, next_world, waiting_for}
use Rattle.tenant_laws.proofs.Following.{Follows, StepsAlong, asked_event, others_step, own_step, standing_same, waiting_same}

-- what tenants meet where they are alone
abbrev meeting_alone : Tenants → Result Outcome HubRefusal → World → Meeting
meeting_alone t answer p = record { answer = answer_seen t answer; waiting = map waiting_for p.sessions; standing = map unnumbered p.subscriptions }

met_alone : Tenants → World → List Event → List Meeting
met_alone t p [] = []
met_alone t p (e ∷ es) = meeting_alone t (answer_in (dropping p e)) (world_after p (dropping p e)) ∷ met_alone t (world_after p (dropping p e)) es

sound_next : (t : Tenants) (w : World) (hs : List Happening) → LeaveApart t w hs → IsSound w
unfolding LeaveApart
sound_next t w [] is = is
sound_next t w (h ∷ hs) is = is.0

-- With others they meet the same.
alone : (t : Tenants) (w p : World) (hs : List Happening) → LeaveApart t w hs → Follows t w p → met t w hs ≡ met_alone t p (asked t w hs)
unfolding LeaveApart met asked met_alone
alone t w p [] is follows = refl
alone t w p (h ∷ hs) (here, leaves, later) follows =
    by h.own refl (λ q next. alone t (next_world w h) q hs later next)
  where
    by : (b : Bool) → h.own ≡ b → ((q : World) → Follows t (next_world w h) q → met t (next_world w h) hs ≡ met_alone t q (asked t (next_world w h) hs)) →
        cond b (meeting t (answer_in (transition w h.event)) (next_world w h) ∷ met t (next_world w h) hs) (met t (next_world w h) hs)
        ≡ met_alone t p (cond b (asked_event t w h ∷ asked t (next_world w h) hs) (asked t (next_world w h) hs))
    by true own rest =
        let sound : IsSound (next_world w h) = sound_next t (next_world w h) hs later in
        let step : StepsAlong t w h p = own_step t w p h here leaves own sound follows in
        let q : World = world_after p (dropping p (asked_event t w h)) in
        let with_answer : Result Outcome HubRefusal → Meeting = λ a. record { answer = a; waiting = map waiting_for q.sessions; standing = map unnumbered q.subscriptions } in
        let same : meeting t (answer_in (transition w h.event)) (next_world w h) ≡ meeting_alone t (answer_in (dropping p (asked_event t w h))) q =
        ap (λ (ws : List Waiting). record { answer = answer_seen t (answer_in (transition w h.event)); waiting = ws; standing = map unnumbered (subscriptions_of t (next_world w h).subscriptions) }) (sym (waiting_same t (next_world w h) q step.follows))
        ∙ ap (λ (ss : List Subscription). record { answer = answer_seen t (answer_in (transition w h.event)); waiting = map waiting_for q.sessions; standing = ss }) (sym (standing_same t (next_world w h) q step.follows))
        ∙ ap with_answer (sym step.answer) in
        ap (λ x. x ∷ met t (next_world w h) hs) same ∙ ap (λ l. meeting_alone t (answer_in (dropping p (asked_event t w h))) q ∷ l) (rest q step.follows)
    by false own rest = rest p (others_step t w p h here leaves own follows)

-- an opening follows an opening
opened : (t : Tenants) (capacity : ℕ) (doc : PolicyDoc) → Follows t (opening_world doc capacity) (opening_world (part_of t.accounts doc) capacity)
opened t capacity doc = record {
  moment = omega arith;
  part = record {
    capacity = refl;
    policy = refl;
    moment = omega arith;
    sessions = refl;
    subscriptions = record {
      pairs = [];
      first = refl;
      second = refl;
      same = All-nil IsSame;
      ids = All-nil (λ (a : Pair). All (HaveOneId a) []);
      within = All-nil (λ (a : Pair). t.connections a.0.conn ≡ true);
      given = All-nil (λ (a : Pair). (a.0.id ≤ 0) × (a.1.id ≤ 0));
    };
    routes = refl;
  };
  own = All-nil (IsOwnSession t);
}

pub tenants_are_isolated : TenantsAreIsolated
tenants_are_isolated t capacity one other es fs same first second agree =
    alone t (opening_world one capacity) (opening_world (part_of t.accounts one) capacity) es first (opened t capacity one)
    ∙ ap (λ (doc : PolicyDoc). met_alone t (opening_world doc capacity) (asked t (opening_world one capacity) es)) same
    ∙ ap (met_alone t (opening_world (part_of t.accounts other) capacity)) agree
    ∙ sym (alone t (opening_world other capacity) (opening_world (part_of t.accounts other) capacity) fs second (opened t capacity other))
