-- what the lines that are left print, behind what is written, is what all lines print
use Rattle.std.proofs.Common.{◌≡◌, ◌+◌, ◌≤◌, length}
use Rattle.script.specs.Play.{played, output_of}
use Rattle.script.proofs.Plays.{Plays}
use Rattle.script.proofs.player.play_lines.Given as goal

abbrev pub invariant-playing : goal.invariant-playing
invariant-playing g l = record {
  plays : Plays (g.W.Sink.contents l.fn.sink) (g.W.Sink.contents l.sink) (played (l.number + 1) l.progress l.lines l.server l.clients.items) (output_of l.script);
  count : l.number + length l.lines ≤ length l.script + 1;
  failed : g.W.Sink.failed l.sink ≡ g.W.Sink.failed l.fn.sink;
}

abbrev pub decreases-playing : goal.decreases-playing
decreases-playing g l = length l.lines
