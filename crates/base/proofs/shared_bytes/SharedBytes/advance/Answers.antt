use Rattle.std.proofs.Common.{ap, ◌∙◌, sym, arith, drop}
use Rattle.bytes.proofs.Ranges.{drop-slice_range}
use Rattle.base.proofs.Parts.{part_length}
use Rattle.base.proofs.shared_bytes.SharedBytes.advance.Goals as goal

pub returns : goal.returns
returns c =
    let b = c.self.inside in
    let bytes = b.block.value.items in
    let len = part_length bytes _ b.start b.end c.self.invariant.0 c.self.invariant.1 c.self.view_is in
    sym (drop-slice_range bytes b.start b.end c.args.count (omega (arith, len, c.requires, c.self.invariant.0))) ∙ ap (drop c.args.count) c.self.view_is
