-- What a run of a script prints (docs/SCRIPT.md).
use Rattle.std.specs.Prelude.{ℕ, List, ◌++◌, codes, decimal}
use Rattle.std.specs.List.{flat_map}
use Rattle.lines.specs.reload_lines.Shown.{shown_byte}

-- the line of the bytes that a connection was sent
abbrev pub shown_line : ℕ → List ℕ → List ℕ
shown_line conn bytes = decimal conn ++ codes "< " ++ flat_map shown_byte bytes ++ codes "\n"

-- the line of a connection that was closed
abbrev pub closed_line : ℕ → List ℕ
closed_line conn = decimal conn ++ codes " closed\n"

-- the line that names a line of the script, by its number from 1, of a form that scripts don't have
abbrev pub refused_line : ℕ → List ℕ
refused_line number = codes "script line " ++ decimal number ++ codes "\n"

-- the line that says that the hub takes no more events
abbrev pub full_line : List ℕ
full_line = codes "history full\n"
