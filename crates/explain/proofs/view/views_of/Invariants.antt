-- the views so far, as they are told
use Rattle.std.proofs.Common.{◌≡◌, map, take}
use Rattle.explain.specs.Path.{view_of}
use Rattle.explain.proofs.view.views_of.Given as goal

abbrev pub invariant-loop-item : goal.invariant-loop-item
invariant-loop-item l = l.found.items ≡ map view_of (take l.item-index l.items)
