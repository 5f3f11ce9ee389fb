use Rattle.std.proofs.Common.{refl, None}
use Rattle.sublist.proofs.Levels.{nothing}
use Rattle.sublist.specs.declared.ids.Ids.TheVariants as ids
use Rattle.sublist.proofs.node.Node.new.Goals as goal

pub returns : goal.returns
returns c = nothing (record { ids = ids.None; tail = ids.None; star = None; children = None }) refl refl refl refl
