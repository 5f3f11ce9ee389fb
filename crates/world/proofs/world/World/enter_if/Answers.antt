-- nobody holds the event back
use Rattle.std.proofs.Common.{◌≡◌, ◌∙◌, [], Ok, ap, sym, subst}
use Rattle.std.proofs.lemmas.Bool.{eqb-true}
use Rattle.std.proofs.lemmas.List.{nil_from_length}
use Rattle.events.specs.declared.answer.Outcome.{Outcome}
use Rattle.world_routing.specs.World.{World}
use Rattle.world.specs.Changes.{pruned_world, IsDecided}
use Rattle.world.specs.Transition.{moved}
use Rattle.world.specs.Holding.{held_in, IsMovedIf}
use Rattle.world.proofs.Applied.{noted_none}
use Rattle.world.proofs.world.World.enter_if.Goals as goal

pub returns-in-Ok-enter-clause-step : goal.returns-in-Ok-enter-clause-step
returns-in-Ok-enter-clause-step g c =
    let t = g.T.Lenient.terms c.args.lenient.now in
    let o = c.in-Ok.decided.outcome in
    let held = c.note_held.new.held.items in
    let P : World → Type 0 = λ w. IsMovedIf t (pruned_world w) c.args.event.now (Ok c.in-Ok-enter.both) held (pruned_world c.enter.new.self) in
    let none : held ≡ [] = nil_from_length held (sym c.note_held.new.held.ok.0 ∙ eqb-true c.note_held.new.held.len 0 (sym c.if-not-is_empty.ensures)) in
    let letting : held_in t c.decide.new.self.sessions c.in-Ok-enter.both.0.outcome ≡ [] =
    ap (λ (told : Outcome). held_in t c.decide.new.self.sessions told) c.in-Ok-enter.ensures.told
    ∙ ap (λ (w : World). held_in t w.sessions o) (sym c.self.view_is)
    ∙ noted_none t c.self.inside.sessions o c.items_in.result.now c.args.held.now.items held c.items_in.ensures c.requires.none c.in-Ok-note_held.ensures none
    in
    subst P c.in-Ok.ensures.same (c.in-Ok-enter.ensures.step, letting)

-- what was decided leaves the world as it was
pub enter-requires-clause-decided : goal.enter-requires-clause-decided
enter-requires-clause-decided g c =
    let P : World → Type 0 = λ w. IsDecided (pruned_world w) (moved (pruned_world w) c.args.event.now.what) (Ok c.in-Ok.decided) in
    subst P (sym c.in-Ok.ensures.same) c.in-Ok.ensures.decided
