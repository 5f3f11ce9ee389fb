-- what is cached was so before
use Rattle.std.proofs.Common.{ℕ}
use Rattle.receivers.specs.cache.Drawn.{IsCached}
use Rattle.receivers.specs.declared.cache.drawn.Drawn.{Drawn}
use Rattle.receivers.proofs.cache.drawn.make_places.Given as goal

abbrev pub invariant-loop-draw : goal.invariant-loop-draw
invariant-loop-draw l = (draw : ℕ) (drawn : Drawn) → IsCached l.by_draw.items draw drawn → IsCached l.fn.by_draw.items draw drawn
