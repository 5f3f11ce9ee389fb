use Rattle.std.proofs.Common.{◌∙◌, sym, ap, drop, take}
use Rattle.std.proofs.lemmas.Slice.{between_is}
use Rattle.base.proofs.shared_bytes.SharedBytes.part.Goals as goal

pub returns : goal.returns
returns c =
    c.advance.ensures
    ∙ ap (drop c.args.range.start) (c.truncate.ensures ∙ ap (take c.args.range.end) c.in_ok-part.ensures)
    ∙ sym (between_is c.args.self.now c.args.range.start c.args.range.end)
