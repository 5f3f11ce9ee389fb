use Rattle.std.proofs.Common.{◌∙◌, ap, sym}
use Rattle.permissions.specs.Lists.{lists_with}
use Rattle.compare.proofs.Lines.{between_same}
use Rattle.compare.proofs.lists.usual_between.Goals as goal

pub returns : goal.returns
returns c =
    between_same _ _ _ _ c.in_ok-found.found.items (ap lists_with (sym c.as_ref.ensures.value) ∙ sym c.in_ok-was.ensures) (ap lists_with (sym c.as_ref-2.ensures.value) ∙ sym c.in_ok-now.ensures) c.in_ok-found.ensures
