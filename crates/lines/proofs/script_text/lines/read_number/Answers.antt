use Rattle.std.proofs.Common.{sym, ◌∙◌}
use Rattle.lines.proofs.script_text.Numbers.{number_of_is}
use Rattle.lines.proofs.script_text.lines.read_number.Goals as goal

-- a text with a byte is read from its first
pub loop-digit-init : goal.loop-digit-init
loop-digit-init c = number_of_is c.args.text.now (sym c.is_empty.ensures ∙ c.if-is_empty.false)
