-- The text of an entry (docs/POLICY.md, "Permissions").
use Rattle.std.specs.Prelude.{◌==◌, ◌&&◌, ℕ, Bool, true, not, List, [], take, drop, Option, Some, None, is_some, position}
use Rattle.std.specs.Option.{option_map}
use Rattle.subjects.specs.Subject.{tokens_of}
use Rattle.subjects.specs.Fault.{pattern_fault}
use Rattle.policy_doc.specs.permission_doc.Entries.{entry_of}
use Rattle.policy_doc.specs.declared.permission_doc.document.PermEntry.{PermEntry}
use Rattle.policy_permissions.specs.declared.entry.Side.{Side}
use Rattle.policy_permissions.specs.declared.entry.Side.TheVariants.{Publish, Subscribe}

-- a text from a place on
abbrev pub from_place : List ℕ → Option ℕ → List ℕ
from_place text None = []
from_place text (Some i) = drop i text

-- what stands behind the spaces at a text's front
abbrev pub behind_spaces : List ℕ → List ℕ
behind_spaces text = from_place text (position (λ b. not (b == 32)) text)

-- an entry's pattern ends at the first space; where there is one, the queue part begins behind it and those that follow it
abbrev pub parts_at : List ℕ → Option ℕ → List ℕ × Option (List ℕ)
parts_at text None = (text, None)
parts_at text (Some i) = (take i text, Some (behind_spaces (drop i text)))

abbrev pub entry_parts : List ℕ → List ℕ × Option (List ℕ)
entry_parts text = parts_at text (position (λ b. b == 32) text)

abbrev pub is_pattern_text : List ℕ → Bool
is_pattern_text text = not (is_some (pattern_fault text))

-- a queue part, if there is one, is a pattern
abbrev pub is_queue_text : Option (List ℕ) → Bool
is_queue_text None = true
is_queue_text (Some text) = is_pattern_text text

-- a publish entry is a pattern; a subscribe entry is one too, and may have a queue part
abbrev pub is_entry_text : Side → List ℕ → Bool
is_entry_text Publish text = is_pattern_text text
is_entry_text Subscribe text = is_pattern_text (entry_parts text).0 && is_queue_text (entry_parts text).1

-- the entry that a text writes
abbrev pub entry_written : Side → List ℕ → PermEntry
entry_written Publish text = entry_of (tokens_of text)
entry_written Subscribe text = record { subject = tokens_of (entry_parts text).0; queue = option_map tokens_of (entry_parts text).1 }
