-- what lived later than the moment still does
use Rattle.std.proofs.Common.{◌∙◌, ap, arith}
use Rattle.service_exporter.specs.Routes.{living}
use Rattle.service_exporter.specs.Slots.{standing_in}
use Rattle.service_exporter.proofs.Tallies.{living_twice}
use Rattle.service_exporter.proofs.exporter.Exporter.prune.Goals as goal

pub invariant_of-self : goal.invariant_of-self
invariant_of-self c =
    let was = standing_in c.self.inside.slots.items in (
      c.prune.ensures.rising,
      c.prune.ensures.below _ c.self.invariant.1,
      c.self.invariant.2,
      c.let_go.ensures was (standing_in c.prune.new.slots.items) (ap (living c.args.now) c.prune.ensures.living ∙ living_twice c.args.now c.args.now was (omega arith)) c.self.invariant.3,
    )
