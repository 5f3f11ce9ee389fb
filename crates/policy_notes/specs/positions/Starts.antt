-- Where the tokens of a JSON text begin: each lexeme but commas and colons (RFC 8259, "JSON Grammar").
use Rattle.std.specs.Prelude.{ℕ, ◌+◌, ◌==◌, ◌||◌, List, [], ◌∷◌, Bool, true, false, not}
use Rattle.json.specs.Lex.{Class, class, quote, backslash, operator, space, other}
use Rattle.policy_notes.specs.declared.positions.starts.Mode.{Mode}
use Rattle.policy_notes.specs.declared.positions.starts.Mode.TheVariants.{Between, InWord, InText, InEscape}

-- a bracket begins a token, and a comma and a colon don't
abbrev pub is_bracket : ℕ → Bool
is_bracket b = not (b == 44 || b == 58)

-- whether a token begins with a byte of this class, in this mode
abbrev pub begins : Mode → Class → ℕ → Bool
begins Between quote b = true
begins Between backslash b = true
begins Between operator b = is_bracket b
begins Between space b = false
begins Between other b = true
begins InWord quote b = false
begins InWord backslash b = false
begins InWord operator b = is_bracket b
begins InWord space b = false
begins InWord other b = false
begins InText c b = false
begins InEscape c b = false

-- the mode behind it
abbrev pub mode_after : Mode → Class → Mode
mode_after Between quote = InText
mode_after Between backslash = InWord
mode_after Between operator = Between
mode_after Between space = Between
mode_after Between other = InWord
mode_after InWord quote = InWord
mode_after InWord backslash = InWord
mode_after InWord operator = Between
mode_after InWord space = Between
mode_after InWord other = InWord
mode_after InText quote = Between
mode_after InText backslash = InEscape
mode_after InText operator = InText
mode_after InText space = InText
mode_after InText other = InText
mode_after InEscape c = InText

abbrev pub if_begins : Bool → ℕ → List ℕ → List ℕ
if_begins true at rest = at ∷ rest
if_begins false at rest = rest

-- the indexes of those bytes of a text, whose first byte has the index `at`, with which tokens begin
unfoldable pub starts_from : ℕ → Mode → List ℕ → List ℕ
starts_from at mode [] = []
starts_from at mode (b ∷ bs) = if_begins (begins mode (class b) b) at (starts_from (at + 1) (mode_after mode (class b)) bs)
