use Rattle.std.proofs.Common.{◌≤◌, ◌+◌, length, arith}
use Rattle.wire_read.specs.lines.Line.{without_cr}
use Rattle.wire_read.proofs.AwaitedLemmas.{waits_line, waits_block, waits_len}
use Rattle.wire_read.proofs.advance.advance_by.Goals as goal

pub returns-else-saturating_add-gt-MAX_CONTROL_LINE :
    goal.returns-else-saturating_add-gt-MAX_CONTROL_LINE
returns-else-saturating_add-gt-MAX_CONTROL_LINE c =
    let few : length c.args.kept.now + length c.args.piece.now ≤ 4096 = omega (arith, c.saturating_add.ensures, c.len-len.ensures.value) in
    waits_line c.args.awaited c.args.kept.now c.args.piece.now c.requires c.in-LineEnd.is c.in-None.ensures few

pub returns-then-len_without_cr-missing : goal.returns-then-len_without_cr-missing
returns-then-len_without_cr-missing c =
    let up = waits_len c.args.awaited c.in-Block.end c.args.kept.now c.requires c.in-Block.is in
    (omega arith, λ some. omega (arith, c.len-len.ensures.value, c.len-len.ensures.bound))

pub returns-else-len_without_cr-missing : goal.returns-else-len_without_cr-missing
returns-else-len_without_cr-missing c =
    let few : length c.args.kept.now + length (without_cr c.args.piece.now) ≤ c.in-Block.end = omega (arith, c.len-len.ensures.value, c.len_without_cr.ensures) in
    waits_block c.args.awaited c.in-Block.end c.args.kept.now c.args.piece.now c.requires c.in-Block.is few
