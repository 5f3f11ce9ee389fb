-- What stands after a reload, and what a refusal leaves.
use Rattle.std.proofs.Common.{◌≡◌, ◌∙◌, ◌&&◌, Bool, true, false, not, List, Option, Some, None, ap, sym, refl, subst}
use Rattle.std.proofs.Math.Path.{subst₂}
use Rattle.std.specs.Prelude.{All, is_some, max, filter}
use Rattle.std.proofs.lemmas.List.Elements.{filter_passes}
use Rattle.subjects.specs.Subject.{Token}
use Rattle.policy_doc.specs.declared.document.PolicyDoc.{PolicyDoc}
use Rattle.world_sessions.specs.deliveries.Sessions.{session_of}
use Rattle.world_sessions.specs.declared.deliveries.session.Session.{Session}
use Rattle.world_subscriptions.specs.Subscription.{Subscription}
use Rattle.world.specs.World.{World}
use Rattle.hub.specs.InForce.{IsInForce, policy_after}
use Rattle.hub.specs.Sound.{user_at, user_behind, may_subscribe}
use Rattle.hub.specs.Guarantee.{IsEffect}
use Rattle.hub_laws.specs.routing.Standing.{RefusedChangesNothing, MayStand, ReloadLeavesNoneRefused}

pub refused_changes_nothing : RefusedChangesNothing
refused_changes_nothing s e refused after h = (h.back, h.same)

-- who may have a subscription has a session
has_session : (doc : PolicyDoc) (o : Option Session) (p : List Token) (queue : Option (List Token)) → may_subscribe (user_behind doc o) p queue ≡ true → is_some o ≡ true
has_session doc None p queue h = absurd (cc)
has_session doc (Some z) p queue h = refl

-- a connection with a session isn't among those that have gone
isnt_gone : (was is gone : Bool) → gone ≡ (was && not is) → is ≡ true → gone ≡ false
isnt_gone true is gone e h = e ∙ ap not h
isnt_gone false is gone e h = e

pub reload_leaves_none_refused : ReloadLeavesNoneRefused
reload_leaves_none_refused s e a after routed doc gone removed asked answered = subst (All (MayStand doc gone after)) (sym force.standing) each
  where
    force : IsInForce s.world (max s.world.moment e.now) doc gone removed after.world
    force = subst₂ (λ c o. IsEffect s.world (max s.world.moment e.now) c o after.world) asked answered routed.effect

    policy : after.world.policy ≡ doc
    policy = ap (λ (w : World). w.policy) routed.others ∙ ap (policy_after s.world) asked

    may : Subscription → Bool
    may sub = may_subscribe (user_at after.world sub.conn) sub.subject sub.queue

    stands : (sub : Subscription) → may sub ≡ true → MayStand doc gone after sub
    stands sub allowed = record {
      allowed = subst (λ (d : PolicyDoc). may_subscribe (user_behind d (session_of after.world.sessions sub.conn)) sub.subject sub.queue ≡ true) policy allowed;
      stays = isnt_gone _ _ _ (force.gone sub.conn) (has_session after.world.policy (session_of after.world.sessions sub.conn) sub.subject sub.queue allowed);
    }

    each : All (MayStand doc gone after) (filter may s.world.subscriptions)
    each k d below = stands _ (filter_passes may s.world.subscriptions k d below)
