use Rattle.std.proofs.Common.{arith}
use Rattle.wire_read.proofs.lines.LineLemmas.{found_long, found_short, none_long, none_short}
use Rattle.wire_read.proofs.lines.line.find_line.Goals as goal

pub returns-then-len_without_cr-gt-MAX_CONTROL_LINE :
    goal.returns-then-len_without_cr-gt-MAX_CONTROL_LINE
returns-then-len_without_cr-gt-MAX_CONTROL_LINE c =
    found_long c.args.bytes.now c.min.result c.in-Some.end c.in-Some.ensures (omega (arith, c.len_without_cr.ensures))

pub returns-else-len_without_cr-gt-MAX_CONTROL_LINE :
    goal.returns-else-len_without_cr-gt-MAX_CONTROL_LINE
returns-else-len_without_cr-gt-MAX_CONTROL_LINE c =
    found_short c.args.bytes.now c.min.result c.in-Some.end c.in-Some.ensures (omega (arith, c.len_without_cr.ensures))

pub returns-then-len_without_cr-gt-MAX_CONTROL_LINE-2 :
    goal.returns-then-len_without_cr-gt-MAX_CONTROL_LINE-2
returns-then-len_without_cr-gt-MAX_CONTROL_LINE-2 c =
    none_long c.args.bytes.now c.min.result c.min.ensures c.in-None.ensures (omega (arith, c.len_without_cr-in-None.ensures))

pub returns-else-len_without_cr-gt-MAX_CONTROL_LINE-2 :
    goal.returns-else-len_without_cr-gt-MAX_CONTROL_LINE-2
returns-else-len_without_cr-gt-MAX_CONTROL_LINE-2 c =
    none_short c.args.bytes.now c.min.result c.min.ensures c.in-None.ensures (omega (arith, c.len_without_cr-in-None.ensures))
