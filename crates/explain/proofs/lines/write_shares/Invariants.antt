-- the lines so far, and those of what is left, are all lines
use Rattle.std.proofs.Common.{◌≡◌, ◌++◌, drop, flat_map}
use Rattle.explain.specs.Lines.{share_lines}
use Rattle.explain.proofs.lines.write_shares.Given as goal

abbrev pub invariant-loop-share : goal.invariant-loop-share
invariant-loop-share l = l.out.items ++ flat_map share_lines (drop l.share-index l.shares) ≡ l.fn.out.items ++ flat_map share_lines l.shares
