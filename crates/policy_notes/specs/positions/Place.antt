-- Lines and columns (docs/POLICY.md, "Where a fault stands").
use Rattle.std.specs.Prelude.{ℕ, ◌+◌, ◌++◌, ◌==◌, List, [], ◌∷◌, codes, decimal, if◌then◌else◌}
use Rattle.policy_notes.specs.declared.positions.place.Place.{Place}

-- one more than LFs stand in a text, from a line on
unfoldable pub line_after : ℕ → List ℕ → ℕ
line_after line [] = line
line_after line (b ∷ bs) = line_after (if b == 10 then line + 1 else line) bs

-- one more than bytes stand behind the last LF of a text, from a column on
unfoldable pub column_after : ℕ → List ℕ → ℕ
column_after column [] = column
column_after column (b ∷ bs) = column_after (if b == 10 then 1 else column + 1) bs

-- a place in words
abbrev pub place_words : Place → List ℕ
place_words place = codes "line " ++ decimal place.line ++ codes " column " ++ decimal place.column
