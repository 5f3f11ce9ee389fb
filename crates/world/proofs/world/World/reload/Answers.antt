-- what is decided is the step
use Rattle.std.proofs.Common.{◌≡◌, ◌∙◌, ℕ, List, Ok, ap, sym, subst}
use Rattle.std.specs.List.{filter_map}
use Rattle.policy_doc.specs.declared.document.PolicyDoc.{PolicyDoc}
use Rattle.events.specs.declared.answer.Removed.{Removed}
use Rattle.events.specs.declared.answer.Outcome.TheVariants.{Reloaded}
use Rattle.service_routes.specs.Routes.{pruned}
use Rattle.world_sessions.specs.Renewal.{user_again_of, closed_conns, remaining}
use Rattle.receivers.specs.views.Marked.{AreMarked}
use Rattle.world_routing.specs.World.{World}
use Rattle.world.specs.Reload.{reloaded, removal_after}
use Rattle.world.specs.Changes.{done, lost_id, pruned_world, IsDecided}
use Rattle.world.specs.declared.change.Change.TheVariants.{Install}
use Rattle.world.proofs.world.World.reload.Goals as goal

pub returns-clause-decided : goal.returns-clause-decided
returns-clause-decided c =
    let h = c.self.inside in
    let before : World = record { capacity = h.capacity; policy = h.ready; epoch = h.epoch; moment = h.moment; sessions = h.sessions; subscriptions = h.subscriptions; routes = pruned h.routes_at h.routes.exporters; number = h.number } in
    let doc : PolicyDoc = c.args.ready.now in
    let ready : PolicyDoc = c.in_ok-ready.ready in
    let gone : List ℕ = c.from_vec.result in
    let removed : List Removed = c.from_vec-2.result in
    let is : doc ≡ ready = sym c.in_ok-ready.ensures in
    let closed : closed_conns doc h.sessions ≡ gone = sym (c.from_vec.ensures ∙ c.in_ok-gone.ensures) in
    let told : filter_map (removal_after doc h.sessions) h.subscriptions ≡ removed = sym (c.from_vec-2.ensures ∙ c.in_ok-lost.ensures.removed) in
    let P : World → Type 0 = λ x. IsDecided (pruned_world x) (Ok (reloaded (pruned_world x) doc)) (Ok record { outcome = Reloaded gone removed; change = Install ready c.in_ok-users.users c.in_ok-lost.lost.ids c.in_ok-marks.marks }) in
    subst P c.self.view_is (
      (λ i. Ok (Reloaded (closed i) (told i), done (pruned_world before) (Install (is i) c.in_ok-users.users c.in_ok-lost.lost.ids c.in_ok-marks.marks) (Reloaded gone removed))),
      (
        c.in_ok-users.ensures ∙ ap (λ (d : PolicyDoc). filter_map (user_again_of d) h.sessions) is,
        c.in_ok-lost.ensures.ids ∙ ap (λ (d : PolicyDoc). filter_map (lost_id d h.sessions) h.subscriptions) is,
        subst (λ (d : PolicyDoc). AreMarked (remaining h.moment d h.sessions) h.subscriptions c.in_ok-marks.marks) is (c.in_ok-marks.ensures h.moment),
      ),
    )
