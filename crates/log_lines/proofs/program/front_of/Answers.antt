-- no more than there are
use Rattle.std.proofs.Common.{◌≡◌, ◌∙◌, length, rules}
use Rattle.std.specs.Prelude.{min, take}
use Rattle.std.proofs.lemmas.List.{take_min}
use Rattle.log_lines.proofs.program.front_of.Goals as goal

pub returns : goal.returns
returns c =
    let kept : c.in_ok-front.front.items ≡ take (min 128 (length c.args.text.now)) c.args.text.now = search rules in
    kept ∙ take_min 128 c.args.text.now
