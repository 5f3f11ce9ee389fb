-- The marks of subscriptions, by their ids.
use Rattle.std.specs.Prelude.{◌≡◌, ℕ, Bool, List, nat_eq, unwrap_or}
use Rattle.std.specs.List.{list_any}
use Rattle.std.specs.Map.{lookup}
use Rattle.subjects.specs.Subject.{Token}
use Rattle.permissions.specs.Lists.{Lists, Queue}
use Rattle.permissions.specs.deny_marks.Marks.{marks_for}
use Rattle.permissions.specs.declared.deny_marks.marks.Marks.{Marks}
use Rattle.permissions.specs.declared.deny_marks.marks.Marks.TheVariants.{Unmarked}

-- what stands under an id, or no mark
abbrev pub marks_at : List (ℕ × Marks) → ℕ → Marks
marks_at table id = unwrap_or (lookup (nat_eq id) table) Unmarked

-- the marks of the subscription of an id stand there: it is to a pattern, with a queue or without one, and its user has these lists
abbrev pub IsMarked : List (ℕ × Marks) → ℕ → Lists → List Token → Queue → Type 0
IsMarked table id lists pattern queue = marks_at table id ≡ marks_for lists pattern queue

-- whether an id is one of those that stand
abbrev pub is_among : List ℕ → ℕ → Bool
is_among ids id = list_any (nat_eq id) ids
