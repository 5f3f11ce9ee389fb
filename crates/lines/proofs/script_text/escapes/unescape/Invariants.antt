use Rattle.std.proofs.Common.{◌≡◌, ◌++◌, drop, option_map}
use Rattle.lines.specs.script_text.Escapes.{unescaped, after_part, IsHex}
use Rattle.lines.proofs.script_text.escapes.unescape.Given as goal

-- the bytes so far and those of what is left are those of the text
abbrev pub invariant-loop-byte : goal.invariant-loop-byte
invariant-loop-byte l = record {
  digit : IsHex l.escape;
  text : option_map (λ bs. l.bytes.items ++ bs) (after_part l.escape (drop l.byte-index l.text)) ≡ unescaped l.text;
}
