-- The blanks of a text, which part the fields of a control line.
use Rattle.std.specs.Prelude.{ℕ, ◌==◌, ◌||◌, Bool, List}
use Rattle.std.specs.List.{prefix_len}

-- a space or a tab
abbrev pub is_blank : ℕ → Bool
is_blank b = b == 32 || b == 9

-- how many blanks stand in front of a text
abbrev pub blanks_of : List ℕ → ℕ
blanks_of text = prefix_len is_blank text
