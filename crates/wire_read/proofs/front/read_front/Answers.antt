use Rattle.std.proofs.Common.{sym, ap, ◌∙◌}
use Rattle.wire_read.specs.lines.Line.{line_of}
use Rattle.wire_read.proofs.lines.LineLemmas.{ended_within}
use Rattle.wire_read.proofs.AwaitedLemmas.{open_awaits, too_long}
use Rattle.wire_read.proofs.front.read_front.Goals as goal

pub after_end-requires-clause-within : goal.after_end-requires-clause-within
after_end-requires-clause-within c = ended_within c.args.bytes.now c.in-Ended.end (ap line_of (sym c.as_slice.ensures) ∙ sym c.in-Ended.ensures)

pub returns-in-Open : goal.returns-in-Open
returns-in-Open c = open_awaits c.args.bytes.now (c.in-Open.ensures ∙ ap line_of c.as_slice.ensures)

pub returns-in-TooLong : goal.returns-in-TooLong
returns-in-TooLong c = too_long c.args.bytes.now (c.in-TooLong.ensures ∙ ap line_of c.as_slice.ensures)
