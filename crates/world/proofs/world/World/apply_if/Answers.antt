-- the number has risen, or nothing has changed
use Rattle.std.proofs.Common.{◌≡◌, ◌∙◌, ◌+◌, ℕ, List, Ok, Err, ap, sym, subst}
use Rattle.world_routing.specs.World.{World, advanced}
use Rattle.service_exporter.specs.Routes.{Exporter}
use Rattle.service_routes.specs.Routes.{Name, pruned}
use Rattle.service_routes.proofs.Seen.{dead}
use Rattle.world.specs.Changes.{at_moment, pruned_world}
use Rattle.world.specs.Transition.{IsReasoned}
use Rattle.world.specs.Holding.{IsMovedIf, IsAppliedIf}
use Rattle.world.proofs.Applied.{applied_if_is, refused_if_is, same_reason}
use Rattle.world.proofs.world.World.apply_if.Goals as goal

pub returns-in-Ok-clause-step : goal.returns-in-Ok-clause-step
returns-in-Ok-clause-step g c =
    let h = c.self.inside in
    let k = c.self-in-Ok.inside in
    let before : World = record { capacity = h.capacity; policy = h.ready; epoch = h.epoch; moment = h.moment; sessions = h.sessions; subscriptions = h.subscriptions; routes = pruned h.routes_at h.routes.exporters; number = h.number } in
    let after : World = record { capacity = k.capacity; policy = k.ready; epoch = k.epoch; moment = k.moment; sessions = k.sessions; subscriptions = k.subscriptions; routes = pruned k.routes_at k.routes.exporters; number = k.number } in
    let e = c.args.event.now in
    let t = g.T.Lenient.terms c.args.lenient.now in
    let held = c.enter_if.new.held.items in
    let gone : pruned k.moment (pruned k.routes_at k.routes.exporters) ≡ pruned k.moment k.routes.exporters = dead k.routes_at k.moment k.routes.exporters c.self-in-Ok.invariant.1 in
    let Moved : World → Type 0 = λ w. IsMovedIf t (advanced before e.now) e (Ok c.in-Ok.both) held (pruned_world w) in
    let With : List (Name × Exporter) → Type 0 = λ routes. IsMovedIf t (advanced before e.now) e (Ok c.in-Ok.both) held (record after { routes = routes }) in
    let At : ℕ → Type 0 = λ n. IsMovedIf t (pruned_world (record before { moment = n })) e (Ok c.in-Ok.both) held (pruned_world c.enter_if.new.self) in
    let P : World → Type 0 = λ w. IsAppliedIf t w e (Ok c.in-Ok.both) held (record after { routes = pruned k.moment k.routes.exporters; number = h.number + 1 }) in
    subst P c.self.view_is (applied_if_is t before (record after { routes = pruned k.moment k.routes.exporters }) e c.in-Ok.both held
    (subst With gone (subst Moved (sym c.self-in-Ok.view_is) (subst At c.max-self-inside.ensures c.in-Ok.ensures.step))))

pub returns-in-Ok-clause-reason : goal.returns-in-Ok-clause-reason
returns-in-Ok-clause-reason g c =
    let h = c.self.inside in
    let before : World = record { capacity = h.capacity; policy = h.ready; epoch = h.epoch; moment = h.moment; sessions = h.sessions; subscriptions = h.subscriptions; routes = pruned h.routes_at h.routes.exporters; number = h.number } in
    let P : World → Type 0 = λ w. IsReasoned w c.args.event.now.what c.in-Ok.both.0.outcome in
    subst P c.self.view_is (same_reason before c.max-self-inside.result c.args.event.now.what c.in-Ok.both.0.outcome c.in-Ok.ensures.reason)

-- a step that is refused has changed nothing
pub returns-in-Err-clause-step : goal.returns-in-Err-clause-step
returns-in-Err-clause-step g c =
    let h = c.self.inside in
    let before : World = record { capacity = h.capacity; policy = h.ready; epoch = h.epoch; moment = h.moment; sessions = h.sessions; subscriptions = h.subscriptions; routes = pruned h.routes_at h.routes.exporters; number = h.number } in
    let e = c.args.event.now in
    let t = g.T.Lenient.terms c.args.lenient.now in
    let held = c.enter_if.new.held.items in
    let mid : World = pruned_world c.enter_if.new.self in
    let At : ℕ → Type 0 = λ n. IsMovedIf t (pruned_world (record before { moment = n })) e (Err c.in-Err.refusal) held mid in
    let P : World → Type 0 = λ w. IsAppliedIf t w e (Err c.in-Err.refusal) held c.put_back.new.self in
    let back : c.put_back.new.self ≡ before = c.put_back.ensures ∙ ap (at_moment h.moment) c.in-Err.ensures.err in
    subst P c.self.view_is (refused_if_is t before c.put_back.new.self mid e c.in-Err.refusal held (subst At c.max-self-inside.ensures c.in-Err.ensures.step) back)
