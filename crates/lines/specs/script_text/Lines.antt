-- The lines of a script (docs/SCRIPT.md).
use Rattle.std.specs.Prelude.{◌==◌, ◌+◌, ◌^◌, ℕ, Bool, true, ◌&&◌, List, [], ◌∷◌, take, drop, position, Option, Some, None, if◌then◌else◌, nat_lt, nat_eq, codes}
use Rattle.std.specs.List.{starts_with}
use Rattle.std.specs.Str.{all_ascii_digits}
use Rattle.std.specs.Str.Parse.{digits_value}
use Rattle.lines.specs.declared.script_text.lines.Line.{Line}
use Rattle.lines.specs.declared.script_text.lines.Line.TheVariants as says
use Rattle.lines.specs.declared.script_text.lines.ClientLine.TheVariants.{Sends, Holds, Frees, Ends}
use Rattle.lines.specs.declared.script_text.lines.NumberLine.{NumberLine}
use Rattle.lines.specs.declared.script_text.lines.NumberLine.TheVariants.{Open, Now, Word, Hold, Free, End}
use Rattle.lines.specs.declared.script_text.lines.Progress.{Progress}
use Rattle.lines.specs.declared.script_text.lines.Progress.TheVariants.{Capped, Body}
use Rattle.lines.specs.script_text.Escapes.{unescaped}

-- an empty line and a comment say nothing
abbrev pub is_skipped : List ℕ → Bool
is_skipped [] = true
is_skipped (b ∷ bs) = b == 35

-- the decimal number of a text, which has a digit and fits 64 bits; leading zeros count for nothing
abbrev pub number_of : List ℕ → Option ℕ
number_of [] = None
number_of (d ∷ ds) = number_of_digits (d ∷ ds) (digits_value 10 (d ∷ ds))
  where
    number_of_digits : List ℕ → ℕ → Option ℕ
    number_of_digits ds n = if all_ascii_digits ds && nat_lt n (2 ^ 64) then Some n else None

-- what a line says by its kind and its number
abbrev pub of_number : NumberLine → ℕ → Line
of_number Open n = says.Open n
of_number Now n = says.Now n
of_number Word n = says.Word n
of_number Hold n = says.Client n Holds
of_number Free n = says.Client n Frees
of_number End n = says.Client n Ends

abbrev pub numbered : NumberLine → Option ℕ → Line
numbered kind (Some n) = of_number kind n
numbered kind None = says.Other

-- or by its number and what stands behind it
abbrev pub send_of : Option ℕ → Option (List ℕ) → Line
send_of (Some conn) (Some bytes) = says.Client conn (Sends bytes)
send_of _ None = says.Other
send_of None _ = says.Other

abbrev pub caps_of : Option ℕ → Option ℕ → Line
caps_of (Some outbox) (Some history) = says.Caps outbox history
caps_of _ None = says.Other
caps_of None _ = says.Other

-- after `send `: a number, a space, and a text that may be empty
abbrev pub send_line : List ℕ → Line
send_line rest = around (position (λ b. b == 32) rest)
  where
    around : Option ℕ → Line
    around None = says.Other
    around (Some at) = send_of (number_of (take at rest)) (unescaped (drop (at + 1) rest))

-- after `caps `: two numbers, with a space between them
abbrev pub caps_line : List ℕ → Line
caps_line rest = about (position (λ b. b == 32) rest)
  where
    about : Option ℕ → Line
    about None = says.Other
    about (Some at) = caps_of (number_of (take at rest)) (number_of (drop (at + 1) rest))

-- a line that can only be of a connection
unfoldable pub client_line : List ℕ → Line
client_line line =
    if starts_with nat_eq line (codes "hold ") then numbered Hold (number_of (drop 5 line))
    else if starts_with nat_eq line (codes "free ") then numbered Free (number_of (drop 5 line))
    else if starts_with nat_eq line (codes "end ") then numbered End (number_of (drop 4 line))
    else says.Other

-- a line that is no text to send and no policy
unfoldable pub short_line : List ℕ → Line
short_line line =
    if starts_with nat_eq line (codes "open ") then numbered Open (number_of (drop 5 line))
    else if starts_with nat_eq line (codes "caps ") then caps_line (drop 5 line)
    else if starts_with nat_eq line (codes "now ") then numbered Now (number_of (drop 4 line))
    else if starts_with nat_eq line (codes "word ") then numbered Word (number_of (drop 5 line))
    else client_line line

-- a line that is no text to send; after `policy ` and `reload ` stands a policy's text
unfoldable pub policy_line : List ℕ → Line
policy_line line =
    if starts_with nat_eq line (codes "policy ") then says.Policy (drop 7 line)
    else if starts_with nat_eq line (codes "reload ") then says.Reload (drop 7 line)
    else short_line line

-- what a line of a script says
abbrev pub line_of : List ℕ → Line
line_of line =
    if is_skipped line then says.Skip
    else if starts_with nat_eq line (codes "send ") then send_line (drop 5 line)
    else policy_line line

-- a skipped line leaves the part as it is; caps may be followed by a policy, and any other line begins the body
abbrev pub progress_after : Progress → Line → Progress
progress_after progress says.Skip = progress
progress_after progress (says.Caps outbox history) = Capped
progress_after progress _ = Body
