use Rattle.std.proofs.Common.{◌≡◌, drop}
use Rattle.lines.specs.script_text.Lines.{number_of}
use Rattle.lines.proofs.script_text.Numbers.{number_after}
use Rattle.lines.proofs.script_text.lines.read_number.Given as goal

-- the digits that are left, after the number so far, make the number of the text
abbrev pub invariant-loop-digit : goal.invariant-loop-digit
invariant-loop-digit l = number_of l.text ≡ number_after l.number (drop l.digit-index l.text)
