use Rattle.compare.proofs.lists.between.Goals as goal

pub returns : goal.returns
returns c = record { changes = c.in_ok-found.ensures.changes; told = c.in_ok-found.ensures.told; alike = c.in_ok-found.ensures.alike }
