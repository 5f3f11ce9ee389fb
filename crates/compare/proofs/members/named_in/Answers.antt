-- who stands at the place of the name has it
use Rattle.std.proofs.Common.{◌∙◌, ap, sym}
use Rattle.compare.specs.Members.{has_name}
use Rattle.compare.proofs.members.named_in.Goals as goal

pub returns-in-Ok : goal.returns-in-Ok
returns-in-Ok c = λ sorted.
    let is = c.in-Ok.ensures.place sorted in
    ((c.in-Ok.at, is.0, sym c.index-members-at.is), ap (has_name c.args.name.now) c.index-members-at.is ∙ is.1 c.index-members-at.result)
