-- what is taken out was dead
use Rattle.std.proofs.Common.{◌∙◌, List, rules, ap, sym, subst}
use Rattle.service_exporter.specs.Routes.{living}
use Rattle.service_exporter.specs.Slots.{standing_in}
use Rattle.service_exporter.specs.Tally.{IsTallied}
use Rattle.service_exporter.specs.declared.slots.Slot.{Slot}
use Rattle.service_exporter.proofs.Places.{written_back}
use Rattle.service_exporter.proofs.exporter.Exporter.drop_dead.Goals as goal

pub invariant_of-self-then-drop_dead_at : goal.invariant_of-self-then-drop_dead_at
invariant_of-self-then-drop_dead_at c =
    let items = c.self.inside.slots.items in
    let new = c.drop_dead_at.new.slots in
    let written = written_back c.self.inside.slots.len new items (search rules) (search rules) in
    let same = c.drop_dead_at.ensures.living ∙ ap (λ (l : List Slot). living c.args.now (standing_in l)) c.as_mut_slice.ensures.value in (
      search rules,
      search rules,
      search rules,
      subst (λ (l : List Slot). IsTallied c.let_go.new.self (standing_in l)) (sym written) (c.let_go.ensures (standing_in items) (standing_in new) same c.self.invariant.3),
    )

pub invariant_of-self-else-drop_dead_at : goal.invariant_of-self-else-drop_dead_at
invariant_of-self-else-drop_dead_at c =
    let items = c.self.inside.slots.items in
    let new = c.drop_dead_at.new.slots in
    let written = written_back c.self.inside.slots.len new items (search rules) (search rules) in
    let same = c.drop_dead_at.ensures.living ∙ ap (λ (l : List Slot). living c.args.now (standing_in l)) c.as_mut_slice.ensures.value in (
      search rules,
      search rules,
      search rules,
      subst (λ (l : List Slot). IsTallied c.let_go.new.self (standing_in l)) (sym written) (c.let_go.ensures (standing_in items) (standing_in new) same c.self.invariant.3),
    )
