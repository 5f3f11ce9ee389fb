-- the lines so far, and those of what is left, are all lines
use Rattle.std.proofs.Common.{◌≡◌, ◌++◌, drop, flat_map}
use Rattle.explain.specs.Lines.{view_line}
use Rattle.explain.proofs.lines.write_views.Given as goal

abbrev pub invariant-loop-view : goal.invariant-loop-view
invariant-loop-view l = l.out.items ++ flat_map view_line (drop l.view-index l.views) ≡ l.fn.out.items ++ flat_map view_line l.views
