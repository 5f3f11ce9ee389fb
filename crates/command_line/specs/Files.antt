-- Which file has the policy that `check` and `explain` read (docs/POLICY.md, "Checking a policy").
use Rattle.std.specs.Prelude.{List, Option, Some, None, codes, if◌then◌else◌}
use Rattle.std.specs.Option.{option_or}
use Rattle.std.specs.Str.{bytes_eq}
use Rattle.clap.specs.Words.{Row, Rule, Text, first_of, new_rule}

-- a word at its place, which may be missing
abbrev pub file_rule : Rule
file_rule = record (new_rule (codes "file")) { value_names = 1 }

-- a hyphen names no file
abbrev pub unless_dash : Option Text → Option Text
unless_dash None = None
unless_dash (Some name) = if bytes_eq name (codes "-") then None else Some name

abbrev pub policy_file : List Row → Option Text
policy_file rows = unless_dash (first_of (codes "policy") rows)

-- the word, or else the option
abbrev pub checked_file : List Row → Option Text
checked_file rows = unless_dash (option_or (first_of (codes "file") rows) (first_of (codes "policy") rows))
